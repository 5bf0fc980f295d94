-- A pass over causes, one at a turn: those of the bytes behind it are done, and the rest decides what is left.
-- Assumes nothing.
use mathlib.Core.Path.{◌≡◌, refl, sym, ap, ◌∙◌}
use mathlib.Core.List.{List, [], ◌∷◌, ◌++◌, append_assoc, append-nil}
use Prim.Native.Nat.{ℕ, ◌+◌, ◌-◌, ◌<◌, ◌≤◌}
use native.Mathlib.Omega.{arith}
use borrow.Author.Tests.{eq-eqb, ne_eqb}
use lib.ListN.{length, take, drop, length-append, length-drop, drop_of_length-le}
use lib.Seq.{drop-drop}
use Rattle.wire_model.specs.Refusal.{none, refuse, first, Told, says}
use Rattle.wire.proofs.Reading.{refused, accepted}
use Rattle.packet_parts.specs.Fronts.{left_checks, rounded}
use Rattle.cause_parts.specs.Causes.{Cause, cause, Reading, reading, onward, unless, cause_code, cause_size, cause_value, cause_checks, chunk_causes, causes, chunk_held}
use Rattle.cause_parts.specs.Lists.{noted}
use Rattle.cause_parts.specs.Facts.{causes_none, causes-step}
use Rattle.cause_parts.specs.Fronts.{CauseThere}
use Rattle.cause_parts.specs.declared.CauseHeader.{CauseHeader}
use Rattle.cause_parts.proofs.Fronts.{take-drop}
use Rattle.cause_parts.proofs.Noted.{noted_none, noted_more}
use Rattle.error_causes.specs.Counts.{counted, Placed}

-- ── what is counted ──

pub counted-refused : (before : ℕ) (r : Reading) {k : ℕ} → says (refuse k) 0 ≡ counted before r → r.fault ≡ refuse k
unfolding counted
counted-refused before r e = refused 0 (before + length r.causes) r.fault e

pub counted-all : (before : ℕ) (r : Reading) {n : ℕ} → says none n ≡ counted before r → (r.fault ≡ none) × (n ≡ before + length r.causes)
unfolding counted
counted-all before r e = accepted 0 (before + length r.causes) r.fault e

-- a reading that is known, counted and noted
module _ (told before : ℕ) (l₀ : List ℕ) {r : Reading} {cs : List Cause} {l : List ℕ} (listed : l ≡ noted told before cs l₀) where
  pub ends-refused : {k : ℕ} → r ≡ reading cs (refuse k) → (says (refuse k) 0 ≡ counted before r) × (l ≡ noted told before r.causes l₀)
  unfolding counted
  ends-refused e = (rw e, rw e listed)

  pub ends-all : {n : ℕ} → r ≡ reading cs none → n ≡ before + length cs → (says none n ≡ counted before r) × (l ≡ noted told before r.causes l₀)
  unfolding counted
  ends-all e m = (rw (e, m), rw e listed)

-- ── the pass ──

-- the answer and the lists are those of the causes from a place on
abbrev pub Ended : ℕ → List ℕ → ℕ → ℕ → ℕ → List ℕ → Told ℕ → List ℕ → Type 0
Ended told raw from depth before l₀ says l = let r = causes depth from (drop from raw) in (says ≡ counted before r) × (l ≡ noted told before r.causes l₀)

-- the causes from a place up to another are done, and stand in the lists
pub record Walk (told : ℕ) (raw : List ℕ) (from depth before : ℕ) (l₀ : List ℕ) (at n : ℕ) (l : List ℕ) : Type 0 where
  pub placed : Placed (length raw) from depth before
  pub reach : at ≤ length raw + 3
  pub flat : depth ≤ at
  pub behind : from ≤ at
  pub few : n ≤ at
  pub some : n ≤ length raw
  pub done : List Cause
  pub is : causes depth from (drop from raw) ≡ onward done (causes depth at (drop at raw))
  pub count : n ≡ before + length done
  pub listed : l ≡ noted told before done l₀

module _ (told : ℕ) (raw : List ℕ) (from depth before : ℕ) (l₀ : List ℕ) where
  pub begin : Placed (length raw) from depth before → Walk told raw from depth before l₀ from before l₀
  begin p =
      record {
        placed = p;
        reach = omega (arith, p.within);
        flat = p.flatter;
        behind = omega arith;
        few = p.fewer;
        some = omega (arith, p.fewer, p.within);
        done = [];
        is = refl;
        count = omega arith;
        listed = sym (noted_none told before l₀);
      }

module _ {told : ℕ} {raw : List ℕ} {from depth before : ℕ} {l₀ : List ℕ} {at n : ℕ} {l : List ℕ} (w : Walk told raw from depth before l₀ at n l) where
  -- all is read where no byte is left
  pub finished : length raw ≤ at → Ended told raw from depth before l₀ (says none n) l
  finished h =
      ends-all told before l₀ {cs = w.done} w.listed
      (w.is ∙ ap (onward w.done) (ap (causes depth at) (drop_of_length-le raw {i = at} h) ∙ causes_none depth at) ∙ ap (λ (z : List Cause). reading z none) (append-nil w.done))
      w.count

  module _ (h : at < length raw) where
    abbrev bytes : List ℕ
    bytes = drop at raw

    some_left : 0 < length bytes
    some_left = rw length-drop (omega arith)

    -- a cause that does not pass ends the reading
    pub bad : {k : ℕ} → first (cause_checks bytes) ≡ refuse k → Ended told raw from depth before l₀ (says (refuse k) 0) l
    bad {k} e =
        ends-refused told before l₀ {cs = w.done} w.listed
        (w.is ∙ ap (onward w.done) (causes-step depth at bytes some_left ∙ rw e) ∙ ap (λ (z : List Cause). reading z (refuse k)) (append-nil w.done))

    module _ {x : CauseHeader} (t : CauseThere bytes x) where
      abbrev here : Cause
      here = cause x.code depth (at + 4) (x.size - 4)

      -- what stands behind the cause
      abbrev later : Reading
      later = causes depth (at + rounded x.size) (drop (at + rounded x.size) raw)

      -- its value, and what the chunk in it says
      abbrev value : List ℕ
      value = drop (at + 4) (take (at + x.size) raw)

      abbrev inner : Reading
      inner = chunk_held depth (at + 4) value

      -- the causes that are done with the cause and what it holds
      abbrev more : List Cause
      more = (w.done ++ (here ∷ [])) ++ inner.causes

      value-is : cause_value bytes ≡ value
      value-is =
          ap (λ (k : ℕ). drop 4 (take k bytes)) (sym t.size) ∙ ap (drop 4) (take-drop at x.size raw) ∙ drop-drop 4 at (take (at + x.size) raw)

      here-is : cause (cause_code bytes) depth (at + 4) (cause_size bytes - 4) ≡ here
      here-is = rw (t.code, t.size)

      later-is : causes depth (at + rounded (cause_size bytes)) (drop (rounded (cause_size bytes)) bytes) ≡ later
      later-is =
          ap (λ (k : ℕ). causes depth (at + rounded k) (drop (rounded k) bytes)) (sym t.size) ∙ ap (causes depth (at + rounded x.size)) (drop-drop (rounded x.size) at raw)

      alone_is : (x.code ≡ 6 → ⊥) → causes depth at bytes ≡ onward (here ∷ []) later
      alone_is other = causes-step depth at bytes some_left ∙ rw (t.passes, ne_eqb (cause_code bytes) 6 (λ e. other (t.code ∙ e)), here-is, later-is)

      held-is : x.code ≡ 6 → causes depth at bytes ≡ onward (here ∷ []) (unless inner.fault inner.causes later)
      held-is six = causes-step depth at bytes some_left ∙ rw (t.passes, eq-eqb (cause_code bytes) 6 (sym t.code ∙ six), here-is, later-is, value-is)

      assoc : (cs : List Cause) (r : Reading) → onward w.done (onward cs r) ≡ onward (w.done ++ cs) r
      assoc cs r = ap (λ (z : List Cause). reading z r.fault) (sym (append_assoc w.done cs r.causes))

      module _ {l' : List ℕ} (e : l' ≡ noted told n (here ∷ []) l) where
        -- the cause stands in the lists behind those that are done
        with_here : l' ≡ noted told before (w.done ++ (here ∷ [])) l₀
        with_here = e ∙ rw (w.listed, w.count, noted_more told before w.done (here ∷ []) l₀)

        module _ {p : ℕ} (q : p ≡ rounded x.size) where
          -- a cause that holds nothing
          pub alone : (x.code ≡ 6 → ⊥) → Walk told raw from depth before l₀ (at + p) (n + 1) l'
          unfolding rounded
          alone other =
              let within = rw length-drop at t.within in
              record {
                placed = w.placed;
                reach = omega (arith, t.four);
                flat = omega (arith, w.flat);
                behind = omega (arith, w.behind);
                few = omega (arith, w.few, t.four);
                some = omega (arith, w.few, t.four);
                done = w.done ++ (here ∷ []);
                is = rw q (w.is ∙ ap (onward w.done) (alone_is other) ∙ assoc (here ∷ []) later);
                count = rw (length-append, w.count) (omega arith);
                listed = with_here;
              }

        module _ (six : x.code ≡ 6) {l'' : List ℕ} (f : l'' ≡ noted told (n + 1) inner.causes l') where
          with_inner : l'' ≡ noted told before more l₀
          with_inner =
              let m : n + 1 ≡ before + length (w.done ++ (here ∷ [])) = rw (length-append, w.count) (omega arith) in
              f ∙ rw (m, with_here, noted_more told before (w.done ++ (here ∷ [])) inner.causes l₀)

          -- a fault inside ends the reading
          pub held_bad : {k : ℕ} → says (refuse k) 0 ≡ counted (n + 1) inner
              → Ended told raw from depth before l₀ (says (refuse k) 0) l''
          held_bad {k} g =
              ends-refused told before l₀ {cs = more} with_inner
              (w.is ∙ ap (onward w.done) (held-is six ∙ rw (counted-refused (n + 1) inner g)) ∙ assoc (here ∷ []) (reading inner.causes (refuse k)))

          -- a cause and the causes that it holds
          pub held_all : inner.fault ≡ none → {m p : ℕ} → m ≡ n + 1 + length inner.causes → m ≤ at + x.size → p ≡ rounded x.size
              → Walk told raw from depth before l₀ (at + p) m l''
          unfolding rounded
          held_all g {m} {p} c room q =
              let within = rw length-drop at t.within in
              record {
                placed = w.placed;
                reach = omega (arith, t.four);
                flat = omega (arith, w.flat);
                behind = omega (arith, w.behind);
                few = omega arith;
                some = omega arith;
                done = more;
                is = rw q (w.is ∙ ap (onward w.done) (held-is six ∙ rw g) ∙ assoc (here ∷ []) (onward inner.causes later) ∙ ap (λ (z : List Cause). reading z later.fault) (sym (append_assoc (w.done ++ (here ∷ [])) inner.causes later.causes)));
                count = c ∙ rw (length-append, length-append, w.count) (omega arith);
                listed = with_inner;
              }

-- ── the chunk in a value ──

module _ (told depth at before : ℕ) (value l : List ℕ) where
  -- the answer and the lists are those of the chunk
  abbrev pub Held : Told ℕ → Type 0
  Held says = let r = chunk_held depth at value in (says ≡ counted before r) × (l ≡ noted told before r.causes l)

  pub chunk_bad : {k : ℕ} → first (left_checks value) ≡ refuse k → Held (says (refuse k) 0)
  chunk_bad e = ends-refused told before l {cs = []} (sym (noted_none told before l)) (rw e)

  pub chunk-without : (first (left_checks value) ≡ none) × (chunk_causes value ≡ []) → Held (says none before)
  chunk-without e = ends-all told before l {cs = []} (sym (noted_none told before l)) (rw (e.0, e.1, causes_none (depth + 1) (at + 4))) (omega arith)
