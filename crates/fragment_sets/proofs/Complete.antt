-- Whether rows are a whole message, apart from the code: what is left to see after the row at i, and what each test makes of it.
-- Assumes nothing.
use mathlib.Core.Path.{◌≡◌, refl, sym, ap, ◌∙◌}
use mathlib.Core.Bool.{Bool, true, false, ◌&&◌}
use mathlib.Core.List.{List, [], ◌∷◌, map}
use Prim.Native.Nat.{ℕ, zero, suc, ◌+◌, ◌*◌, ◌-◌, ◌/◌, ◌%◌, ◌<◌, ◌≤◌}
use native.Mathlib.Numerals.{add-one}
use native.Mathlib.Omega.{arith}
use lib.Dec.{eqb}
use lib.ListN.{length, get_or, take, drop, length-drop, drop_of_length-le}
use lib.Seq.{drop-cons, get_or-drop, get_or-take, length-take-le}
use borrow.Author.Tests.{eq-eqb, ne_eqb, eqb-true, eqb-false}
use Rattle.serial_model.specs.Serial.{next}
use Rattle.table.specs.Rows.{blank, rows_of}
use Rattle.table.specs.declared.Row.{Row}
use Rattle.table.proofs.Columns.{rows_long}
use Rattle.table.proofs.Scans.{head_at, tsn-at}
use Rattle.fragments.specs.Frag.{Frag, bare, begins, ends}
use Rattle.fragment_sets.specs.Sets.{rises, complete}

-- ── the clauses of the definitions ──

rises-nil : (x : Frag) → rises x [] ≡ ends x
unfolding rises
rises-nil x = refl

rises-cons : (x y : Frag) (ys : List Frag) → rises x (y ∷ ys) ≡ (eqb y.tsn (next 32 x.tsn) && rises y ys)
unfolding rises
rises-cons x y ys = refl

complete-nil : complete [] ≡ false
unfolding complete
complete-nil = refl

complete-cons : (x : Frag) (xs : List Frag) → complete (x ∷ xs) ≡ (begins x && rises x xs)
unfolding complete
complete-cons x xs = refl

-- ── n rows from one on, one by one ──

module _ (rs : List Row) (from n : ℕ) (fit : from + n ≤ length rs) where
  pub segment-long : length (take n (drop from rs)) ≡ n
  segment-long = length-take-le n (drop from rs) (rw length-drop (omega arith))

  pub segment-rest : (i : ℕ) → i < n → drop i (take n (drop from rs)) ≡ get_or rs (from + i) blank ∷ drop (i + 1) (take n (drop from rs))
  segment-rest i h =
      let k : i < length (take n (drop from rs)) = rw segment-long h in
      rw (drop-cons (take n (drop from rs)) i blank k, get_or-take n (drop from rs) i blank h, get_or-drop, add-one)

  pub segment_end : (i : ℕ) → n ≤ i → drop i (take n (drop from rs)) ≡ []
  segment_end i h = drop_of_length-le (take n (drop from rs)) {i = i} (rw segment-long h)

-- ── the pass: all is well up to the row at i, and those behind it decide ──

abbrev segment : ℕ → List ℕ → ℕ → ℕ → List Row
segment size table from n = take n (drop from (rows_of size table))

abbrev at : ℕ → List ℕ → ℕ → Frag
at size table i = bare (get_or (rows_of size table) i blank)

abbrev pub whole : ℕ → List ℕ → ℕ → ℕ → Bool
whole size table from n = complete (map bare (segment size table from n))

pub record Whole (size : ℕ) (table : List ℕ) (from n i : ℕ) : Type 0 where
  pub sized : length table ≡ 4 * size
  pub fit : from + n ≤ size
  pub within : i < n
  pub is : rises (at size table (from + i)) (map bare (drop (i + 1) (segment size table from n))) ≡ whole size table from n

module _ (size : ℕ) (table : List ℕ) (from n : ℕ) where
  pub whole_none : n ≡ 0 → false ≡ whole size table from n
  whole_none e = rw (e, complete-nil)

  module _ (sized : length table ≡ 4 * size) (fit : from + n ≤ size) (h : 0 < n) where
    -- the mark B of the first row decides, and then the rows behind it
    first : (eqb (get_or table from 0 / 16777216 / 2 % 2) 1 && rises (at size table (from + 0)) (map bare (drop 1 (segment size table from n)))) ≡ whole size table from n
    first =
        let k : from + n ≤ length (rows_of size table) = omega (arith, rows_long size table sized) in
        rw (head_at size table sized (from + 0) (omega arith) {q = from} (omega arith))
        (sym (ap (λ (l : List Row). complete (map bare l)) (segment-rest (rows_of size table) from n k 0 h) ∙ complete-cons _ _))

    pub whole_not : (get_or table from 0 / 16777216 / 2 % 2 ≡ 1 → ⊥) → false ≡ whole size table from n
    whole_not k = rw (ne_eqb (get_or table from 0 / 16777216 / 2 % 2) 1 k) at first

    pub whole-first : get_or table from 0 / 16777216 / 2 % 2 ≡ 1 → Whole size table from n 0
    whole-first e = record { sized = sized; fit = fit; within = h; is = rw (eq-eqb (get_or table from 0 / 16777216 / 2 % 2) 1 e) at first }

module _ {size : ℕ} {table : List ℕ} {from n i : ℕ} (w : Whole size table from n i) where
  fits : from + n ≤ length (rows_of size table)
  fits = omega (arith, w.fit, rows_long size table w.sized)

  -- the TSNs of the row and of the one behind it
  abbrev here : ℕ
  here = get_or table (size + from + i) 0

  abbrev there : ℕ
  there = get_or table (size + from + (i + 1)) 0

  module _ (h : i + 1 < n) where
    step : (eqb there (next 32 here) && rises (at size table (from + (i + 1))) (map bare (drop (i + 1 + 1) (segment size table from n)))) ≡ whole size table from n
    step =
        rw (
          tsn-at size table w.sized (from + i) (omega (arith, w.fit)) {q = size + from + i} (omega arith),
          tsn-at size table w.sized (from + (i + 1)) (omega (arith, w.fit)) {q = size + from + (i + 1)} (omega arith),
        )
        (rw (segment-rest (rows_of size table) from n fits (i + 1) h, rises-cons) at w.is)

    pub whole-turn : there ≡ next 32 here → Whole size table from n (i + 1)
    whole-turn e = record { sized = w.sized; fit = w.fit; within = h; is = rw (eq-eqb there (next 32 here) e) at step }

    pub whole_break : (there ≡ next 32 here → ⊥) → false ≡ whole size table from n
    whole_break k = rw (ne_eqb there (next 32 here) k) at step

  whole-last : n ≤ i + 1 → {q : ℕ} → q ≡ from + i → eqb (get_or table q 0 / 16777216 % 2) 1 ≡ whole size table from n
  whole-last h e =
      rw (head_at size table w.sized (from + i) (omega (arith, w.fit, w.within)) e)
      (rw (segment_end (rows_of size table) from n fits (i + 1) h, rises-nil) at w.is)

module _ {size : ℕ} {table : List ℕ} {from n : ℕ} {q : ℕ} (e : q ≡ from + (n - 1)) where
  -- TSNs rise up to the last row, and that is E
  pub whole-ended : {i : ℕ} → Whole size table from n i → n ≤ i + 1 → get_or table q 0 / 16777216 % 2 ≡ 1 → true ≡ whole size table from n
  whole-ended w h k = sym (eq-eqb (get_or table q 0 / 16777216 % 2) 1 k) ∙ whole-last w h (omega (arith, w.within))

  -- the last row, k rows behind the one at i, is not E: whatever the TSNs between them are
  pub whole_unended : (k : ℕ) {i : ℕ} → Whole size table from n i → n ≡ i + 1 + k → (get_or table q 0 / 16777216 % 2 ≡ 1 → ⊥) → false ≡ whole size table from n
  whole_unended zero w h un = sym (ne_eqb (get_or table q 0 / 16777216 % 2) 1 un) ∙ whole-last w (omega arith) (omega (arith, w.within))
  whole_unended (suc k) {i} w h un = go (eqb (there w) (next 32 (here w))) refl (λ v. whole_unended k v (omega arith) un)
    where
      go : (t : Bool) → eqb (there w) (next 32 (here w)) ≡ t → (Whole size table from n (i + 1) → false ≡ whole size table from n) → false ≡ whole size table from n
      go true r more = more (whole-turn w (omega arith) (eqb-true _ _ r))
      go false r more = whole_break w (omega arith) (eqb-false _ _ r)
