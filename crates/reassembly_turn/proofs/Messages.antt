-- A message among other fragments: what its fragments say by their rows, how many the oldest finished one has, and what is left without it.
-- Assumes nothing.
use mathlib.Core.Path.{◌≡◌, refl, ap, ◌∙◌}
use mathlib.Core.Bool.{Bool, cond, false, true}
use mathlib.Core.List.{List, ◌∷◌}
use Prim.Native.Nat.{ℕ, suc, ◌+◌, ◌-◌, ◌%◌, ◌≤◌, ◌<◌, min}
use native.Mathlib.Omega.{arith}
use borrow.Author.Tests.{lt-ltb, le-ltb}
use lib.ListN.{length, take, drop, get_or, length-take, length-drop}
use lib.Seq.{drop-cons, length-take-le}
use Rattle.wire_model.specs.BigEndian.{over}
use Rattle.wire_model.specs.Refusal.{none, refuse, says}
use Rattle.moves_model.specs.Lists.{gone}
use Rattle.table.specs.Rows.{blank, ahead_of}
use Rattle.table.specs.declared.Row.{Row}
use Rattle.fragments.specs.Frag.{Frag, ends, of_row}
use Rattle.fragments.specs.Words.{size, joined}
use Rattle.fragments.specs.Pool.{cut, lay_rows, lay_bytes}
use Rattle.fragments.proofs.Pool.{B, cut-length, cut-size, cut-joined, total-take, total_within}
use Rattle.fragments.proofs.Seen.{while-length}
use Rattle.reassembly_state.specs.Model.{endless, first_ssn, first_ppi, Message, no_message}
use Rattle.reassembly_state.specs.Rows.{oldest, message_by, out, taken_out}
use Rattle.reassembly_state.proofs.Laws.{segment-cut}

abbrev pub first : List Row → ℕ → Row
first rows from = get_or rows from blank

pub run-cons : (rows : List Row) (from k : ℕ) → 0 < k → from < length rows → take k (drop from rows) ≡ first rows from ∷ take (k - 1) (drop (suc from) rows)
run-cons rows from k h l = let e : k ≡ suc (k - 1) = omega arith in ap (λ (n : ℕ). take n (drop from rows)) e ∙ rw (drop-cons rows from blank l)

first-ssn : (r : Row) (rs : List Row) (pool : List ℕ) → first_ssn (cut (r ∷ rs) pool) ≡ r.id % 65536
unfolding cut first_ssn
first-ssn r rs pool = refl

first_ppi_lem : (r : Row) (rs : List Row) (pool : List ℕ) → first_ppi (cut (r ∷ rs) pool) ≡ r.ppi
unfolding cut first_ppi
first_ppi_lem r rs pool = refl

-- through the first E, or all
pub oldest-is : (rows : List Row) (pool : List ℕ) (n from k : ℕ) → from + k ≤ n → n ≤ length rows
    → min (suc (ahead_of (of_row ends) (take k (drop from rows)))) k ≡ oldest (take k (drop from (cut (take n rows) pool)))
oldest-is rows pool n from k h few =
    let rs = take k (drop from rows) in
    let behind = drop (B (take from rows)) pool in
    let long : length (cut rs behind) ≡ k = cut-length rs behind ∙ length-take-le k (drop from rows) (rw length-drop (omega arith)) in
    rw (segment-cut rows pool n from k h, length-take, while-length endless (of_row ends) (λ r bs. refl) rs behind, long)

-- of what is held in n rows the k fragments at index from
module _ (rows : List Row) (pool : List ℕ) (n from k : ℕ) (within : from + k ≤ n) where
  abbrev all : List Frag
  all = cut (take n rows) pool

  abbrev message : List Frag
  message = take k (drop from all)

  abbrev bytes : ℕ
  bytes = B (take k (drop from rows))

  abbrev behind : List ℕ
  behind = drop (B (take from rows)) pool

  seen : message ≡ cut (take k (drop from rows)) behind
  seen = segment-cut rows pool n from k within

  -- their bytes end within those that are held
  pub run_end : B (take from rows) + bytes ≤ B (take n rows)
  run_end = omega (arith, total_within from k rows, total-take (from + k) n rows within)

  run-bytes : joined message ≡ take bytes behind
  run-bytes = ap joined seen ∙ cut-joined (take k (drop from rows)) behind

  pub run-size : B (take n rows) ≤ length pool → size message ≡ bytes
  run-size fits = ap size seen ∙ cut-size (take k (drop from rows)) behind (rw length-drop (omega (arith, run_end)))

  pub run_out : (buffer : List ℕ) {x : List ℕ} {off n : ℕ} → off ≡ B (take from rows) → n ≡ bytes → x ≡ over buffer (take (off + n - off) (drop off pool)) → x ≡ over buffer (joined message)
  run_out buffer {off = off} {n = m} is-off is-n e = let z : off + m - off ≡ m = omega arith in rw (e, z, is-off, is-n, run-bytes)

  pub run-message : 0 < k → n ≤ length rows → B (take n rows) ≤ length pool → (ordered : Bool) {r : Row} {m : Message} {v : ℕ} → r ≡ first rows from → v ≡ bytes
      → m ≡ record { comes = true; ssn = cond ordered (r.id % 65536) 0; ppi = r.ppi; size = v; position = 0; given = false }
      → m ≡ message_by ordered message
  unfolding message_by
  run-message some few fits ordered is-r is-v is_m =
      let others = take (k - 1) (drop (suc from) rows) in
      let opened : message ≡ cut (first rows from ∷ others) behind = seen ∙ ap (λ (l : List Row). cut l behind) (run-cons rows from k some (omega arith)) in
      let ssn = ap first_ssn opened ∙ first-ssn (first rows from) others behind in
      let ppi = ap first_ppi opened ∙ first_ppi_lem (first rows from) others behind in
      rw (is_m, is-r, is-v, ssn, ppi, run-size fits)

  -- ── what is answered ──

  module _ (fits : B (take n rows) ≤ length pool) (ordered : Bool) (buffer : List ℕ) where
    pub out_none : length buffer < bytes → out (says (refuse 10) no_message) 0 0 rows pool buffer ≡ taken_out ordered from k all rows pool buffer
    unfolding taken_out
    out_none h = rw (run-size fits, lt-ltb (length buffer) bytes h)

    pub out-whole : {v : ℕ} → v ≡ bytes → v ≤ length buffer → {m : Message} → m ≡ message_by ordered message
        → {rs : List Row} → rs ≡ lay_rows (gone from k all) rows → {bs : List ℕ} → bs ≡ lay_bytes (gone from k all) pool → {x : List ℕ} → x ≡ over buffer (joined message)
        → out (says none m) k v rs bs x ≡ taken_out ordered from k all rows pool buffer
    unfolding taken_out
    out-whole is-v h is_m is-rs is-bs is_x = rw (is_m, is-rs, is-bs, is_x, is-v, run-size fits, le-ltb (length buffer) bytes (omega arith))
