-- What a nesting's bytes say is read back: reading them reports exactly its causes, and finds no fault.
-- Assumes nothing.
use mathlib.Core.Path.{◌≡◌, refl, sym, ap, ◌∙◌}
use mathlib.Core.Logic.{◌⊎◌, ⊎_elim}
use mathlib.Core.Bool.{Bool, true, false, ◌||◌}
use mathlib.Core.List.{List, [], ◌∷◌, ◌++◌, append_assoc}
use Prim.Native.Nat.{ℕ, ◌+◌, ◌-◌, ◌*◌, ◌/◌, ◌%◌, ◌<◌, ◌≤◌}
use native.Mathlib.Omega.{arith}
use borrow.Author.Tests.{le-ltb, eqb-true}
use lib.Dec.{eqb}
use lib.ListN.{length, take, drop, replicate, length-append, length-replicate, drop_of_length-le}
use lib.Seq.{take_at, drop_at}
use Rattle.wire_model.specs.BigEndian.{big_endian}
use Rattle.wire_model.specs.Refusal.{none, first}
use Rattle.chunk.specs.Layout.{Header, header, header_bytes, chunk}
use Rattle.packet_parts.specs.Fronts.{front_header, front_size, left_checks, rounded}
use Rattle.cause_parts.specs.Causes.{cause, Reading, reading, onward, ◌then◌, held_by, cause_code, cause_size, cause_value, cause_checks, chunk_causes, causes}
use Rattle.cause_parts.proofs.Fronts.{some_left, empty_holds_none}
use Rattle.cause_parts.specs.Facts.{causes_none, causes-step}
use Rattle.cause_theorems.specs.Nested.{Nest, finish, plain, holding, cause_bytes, gap, nest_bytes, held_value, nest_causes, NestFits}

-- ── one cause in front ──

module _ (code : ℕ) (value rest : List ℕ) (fits : code < 65536) (short : 4 + length value < 65536) where
  abbrev bytes : List ℕ
  bytes = cause_bytes code value ++ rest

  code_is : cause_code bytes ≡ code
  unfolding cause_code big_endian
  code_is = omega arith

  size_is : cause_size bytes ≡ 4 + length value
  unfolding cause_size big_endian
  size_is = omega arith

  long : length (cause_bytes code value) ≡ 4 + length value
  unfolding big_endian
  long = omega arith

  all-long : 4 + length value ≤ length bytes
  all-long = rw (length-append, long) (omega arith)

  passes : first (cause_checks bytes) ≡ none
  passes = rw (size_is, le-ltb (length bytes) 4 (omega (arith, all-long)), le-ltb (4 + length value) 4 (omega arith), le-ltb (length bytes) (4 + length value) all-long)

  value-is : cause_value bytes ≡ value
  unfolding big_endian
  value-is = ap (λ (n : ℕ). drop 4 (take n bytes)) size_is ∙ ap (drop 4) (take_at (cause_bytes code value) rest (4 + length value) long)

  -- the cause, what it holds, and what stands behind it
  step_is : (depth at : ℕ) (held : Reading) → held_by causes depth at bytes ≡ held
      → causes depth at bytes ≡ onward (cause code depth (at + 4) (length value) ∷ []) (held then causes depth (at + rounded (4 + length value)) (drop (rounded (4 + length value)) bytes))
  step_is depth at held h =
      let less : 4 + length value - 4 ≡ length value = omega arith in
      causes-step depth at bytes (omega (arith, all-long)) ∙ rw (passes, h, code_is, size_is, less)

-- behind a cause and its padding stand the causes behind it
padded : (front : List ℕ) (n : ℕ) (rest : List ℕ) → length front ≡ n → drop (rounded n) (front ++ (replicate (rounded n - n) 0 ++ rest)) ≡ rest
unfolding rounded
padded front n rest e =
    ap (drop (rounded n)) (sym (append_assoc front (replicate (rounded n - n) 0) rest))
    ∙ drop_at (front ++ replicate (rounded n - n) 0) rest (rounded n) (rw (length-append, length-replicate) (omega arith))

behind : (front : List ℕ) (n : ℕ) (more : Nest) → length front ≡ n → drop (rounded n) (front ++ (gap n more ++ nest_bytes more)) ≡ nest_bytes more
unfolding nest_bytes rounded
behind front n finish e = drop_of_length-le (front ++ ([] ++ [])) {i = rounded n} (rw length-append (omega arith))
behind front n (plain code value more) e = padded front n (nest_bytes (plain code value more)) e
behind front n (holding kind flags inner past more) e = padded front n (nest_bytes (holding kind flags inner past more)) e

-- ── the chunk in a value ──

module _ (kind flags : ℕ) (inner past : List ℕ) (follows : (kind ≡ 9) ⊎ (kind ≡ 6)) (fits : flags < 256) (short : 4 + length (chunk kind flags inner ++ past) < 65536) where
  abbrev value : List ℕ
  value = chunk kind flags inner ++ past

  chunk-long : length (chunk kind flags inner) ≡ 4 + length inner
  unfolding big_endian header_bytes
  chunk-long = omega arith

  value-long : length value ≡ 4 + length inner + length past
  value-long = rw (length-append, chunk-long)

  small : kind < 256
  small = ⊎_elim (λ (e : kind ≡ 9). omega arith) (λ (e : kind ≡ 6). omega arith) follows

  front-is : front_header value ≡ header kind flags (4 + length inner)
  unfolding big_endian header_bytes front_header
  front-is =
      let k : kind % 256 ≡ kind = omega (arith, small) in
      let f : flags % 256 ≡ flags = omega arith in
      let s : (4 + length inner) / 256 % 256 * 256 + (4 + length inner) % 256 ≡ 4 + length inner = omega (arith, value-long) in
      rw (k, f, s)

  header_passes : first (left_checks value) ≡ none
  header_passes =
      let l = value-long in
      rw (some_left value (omega arith), front-is, le-ltb (length value) 4 (omega arith), le-ltb (4 + length inner) 4 (omega arith), le-ltb (length value) (4 + length inner) (omega arith))

  cut : drop 4 (take (4 + length inner) value) ≡ inner
  unfolding big_endian header_bytes
  cut = ap (drop 4) (take_at (chunk kind flags inner) past (4 + length inner) chunk-long)

  followed : drop 4 (take (front_size value) value) ≡ inner
  followed = ap (λ (n : ℕ). drop 4 (take n value)) (ap (λ (h : Header). h.size) front-is) ∙ cut

  inner-is : chunk_causes value ≡ inner
  inner-is = ⊎_elim (λ (e : kind ≡ 9). of 9 refl e) (λ (e : kind ≡ 6). of 6 refl e) follows
    where
      of : (k : ℕ) → eqb k 9 || eqb k 6 ≡ true → kind ≡ k → chunk_causes value ≡ inner
      of k t e = let same : (front_header value).kind ≡ k = ap (λ (h : Header). h.kind) front-is ∙ e in rw (same, t) followed

-- ── the nesting ──

-- a value that is no chunk's holds nothing
nothing-held : (code : ℕ) (value rest : List ℕ) (fits : code < 65536) (short : 4 + length value < 65536) → (code ≡ 6 → value ≡ []) → (depth at : ℕ) → held_by causes depth at (cause_bytes code value ++ rest) ≡ reading [] none
nothing-held code value rest fits short empty depth at = go (eqb code 6) refl
  where
    go : (b : Bool) → eqb code 6 ≡ b → held_by causes depth at (cause_bytes code value ++ rest) ≡ reading [] none
    go true e =
        let none = empty_holds_none value (empty (eqb-true _ _ e)) in
        rw (code_is code value rest fits short, e, value-is code value rest fits short, none.0, none.1, causes_none (depth + 1) (at + 4 + 4))
    go false e = rw (code_is code value rest fits short, e)

-- reading a nesting's bytes reports its causes
pub nest_read : (n : Nest) → NestFits n → (depth at : ℕ) → causes depth at (nest_bytes n) ≡ reading (nest_causes depth at n) none
unfolding nest_bytes nest_causes NestFits
nest_read finish f depth at = causes_none depth at
nest_read (plain code value more) f depth at =
    let rest = gap (4 + length value) more ++ nest_bytes more in
    step_is code value rest f.0 f.2 depth at (reading [] none) (nothing-held code value rest f.0 f.2 f.1 depth at)
    ∙ rw (behind (cause_bytes code value) (4 + length value) more (long code value rest f.0 f.2), nest_read more f.3 depth (at + rounded (4 + length value)))
nest_read (holding kind flags inner past more) f depth at =
    let v = held_value kind flags inner past in
    let rest = gap (4 + length v) more ++ nest_bytes more in
    let six : 6 < 65536 = omega arith in
    let held : held_by causes depth at (cause_bytes 6 v ++ rest) ≡ reading (nest_causes (depth + 1) (at + 4 + 4) inner) none =
    rw (code_is 6 v rest six f.2, value-is 6 v rest six f.2, header_passes kind flags (nest_bytes inner) past f.0 f.1 f.2, inner-is kind flags (nest_bytes inner) past f.0 f.1 f.2, nest_read inner f.3 (depth + 1) (at + 4 + 4)) in
    step_is 6 v rest six f.2 depth at (reading (nest_causes (depth + 1) (at + 4 + 4) inner) none) held
    ∙ rw (behind (cause_bytes 6 v) (4 + length v) more (long 6 v rest six f.2), nest_read more f.4 depth (at + rounded (4 + length v)))
