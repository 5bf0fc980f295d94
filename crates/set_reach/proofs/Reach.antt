-- What a point reaches of the rows of a set, apart from the code: what is left to see from the row at i on, and what each test makes of it.
-- Assumes nothing.
use mathlib.Core.Path.{◌≡◌, refl, sym, ap, ◌∙◌}
use mathlib.Core.Bool.{Bool, true, false, not, ◌&&◌, ◌||◌}
use mathlib.Core.List.{List, [], ◌∷◌, map}
use Prim.Native.Nat.{ℕ, ◌+◌, ◌*◌, ◌/◌, ◌%◌, ◌<◌, ◌≤◌}
use native.Mathlib.Omega.{arith}
use lib.Dec.{eqb}
use lib.ListN.{length, get_or, take, drop}
use borrow.Author.Tests.{eq-eqb, ne_eqb}
use Rattle.std.specs.List.{list_all}
use Rattle.serial_model.specs.Serial.{next, at_or_before}
use Rattle.table.specs.Rows.{blank, rows_of}
use Rattle.table.specs.declared.Row.{Row}
use Rattle.table.proofs.Columns.{rows_long}
use Rattle.table.proofs.Scans.{head_at, tsn-at}
use Rattle.fragments.specs.Frag.{Frag, bare, begins, ends}
use Rattle.fragment_sets.proofs.Complete.{segment-rest, segment_end}
use Rattle.loose_fragments.specs.Loose.{previous}
use Rattle.set_reach.specs.Reach.{all_up_to, gap_up_to, missing_up_to}

-- ── the clauses of the definitions ──

gap-nil : (t : ℕ) (x : Frag) → gap_up_to t x [] ≡ (not (ends x) && at_or_before 32 (next 32 x.tsn) t)
unfolding gap_up_to
gap-nil t x = refl

gap-cons : (t : ℕ) (x y : Frag) (ys : List Frag) → gap_up_to t x (y ∷ ys) ≡ ((not (eqb y.tsn (next 32 x.tsn)) && at_or_before 32 (next 32 x.tsn) t) || gap_up_to t y ys)
unfolding gap_up_to
gap-cons t x y ys = refl

missing-cons : (t : ℕ) (x : Frag) (xs : List Frag) → missing_up_to t (x ∷ xs) ≡ ((not (begins x) && at_or_before 32 (previous x.tsn) t) || gap_up_to t x xs)
unfolding missing_up_to
missing-cons t x xs = refl

-- ── the rows of a set ──

abbrev segment : ℕ → List ℕ → ℕ → ℕ → List Row
segment size table from n = take n (drop from (rows_of size table))

abbrev at : ℕ → List ℕ → ℕ → Frag
at size table i = bare (get_or (rows_of size table) i blank)

-- ── every TSN up to one ──

pub up_is : (t : ℕ) (rs : List Row) → list_all (λ (w : ℕ). at_or_before 32 w t) (map (λ (r : Row). r.tsn) rs) ≡ all_up_to t (map bare rs)
unfolding all_up_to
up_is t [] = refl
up_is t (r ∷ rs) = ap (λ (b : Bool). at_or_before 32 r.tsn t && b) (up_is t rs)

-- ── a gap up to one ──

-- a gap behind the row at i is one behind the first
abbrev pub gap_of : ℕ → ℕ → List ℕ → ℕ → ℕ → Bool
gap_of t size table from n = gap_up_to t (at size table from) (map bare (drop 1 (segment size table from n)))

pub record Gap (t size : ℕ) (table : List ℕ) (from n i : ℕ) : Type 0 where
  pub sized : length table ≡ 4 * size
  pub fit : from + n ≤ size
  pub within : i < n
  pub is : gap_up_to t (at size table (from + i)) (map bare (drop (i + 1) (segment size table from n))) ≡ gap_of t size table from n

pub gap_none : (t size : ℕ) (table : List ℕ) (from n : ℕ) → length table ≡ 4 * size → from + n ≤ size → 0 < n → Gap t size table from n 0
gap_none t size table from n s f h = record { sized = s; fit = f; within = h; is = let z : from + 0 ≡ from = omega arith in rw z }

module _ {t size : ℕ} {table : List ℕ} {from n i : ℕ} (g : Gap t size table from n i) where
  gap_fits : from + n ≤ length (rows_of size table)
  gap_fits = omega (arith, g.fit, rows_long size table g.sized)

  -- the TSNs of the row and of the one behind it
  abbrev here : ℕ
  here = get_or table (size + from + i) 0

  abbrev there : ℕ
  there = get_or table (size + from + (i + 1)) 0

  here-is : here ≡ (at size table (from + i)).tsn
  here-is = tsn-at size table g.sized (from + i) (omega (arith, g.fit, g.within)) {q = size + from + i} (omega arith)

  module _ (h : i + 1 < n) where
    gap_step : ((not (eqb there (next 32 here)) && at_or_before 32 (next 32 here) t) || gap_up_to t (at size table (from + (i + 1))) (map bare (drop (i + 1 + 1) (segment size table from n)))) ≡ gap_of t size table from n
    gap_step =
        rw (here-is, tsn-at size table g.sized (from + (i + 1)) (omega (arith, g.fit)) {q = size + from + (i + 1)} (omega arith))
        (rw (segment-rest (rows_of size table) from n gap_fits (i + 1) h, gap-cons) at g.is)

    gap-past : (not (eqb there (next 32 here)) && at_or_before 32 (next 32 here) t) ≡ false → Gap t size table from n (i + 1)
    gap-past e = record { sized = g.sized; fit = g.fit; within = h; is = rw e at gap_step }

    -- the next TSN is there
    pub gap-filled : there ≡ next 32 here → Gap t size table from n (i + 1)
    gap-filled e = gap-past (rw (eq-eqb there (next 32 here) e))

    module _ (k : there ≡ next 32 here → ⊥) where
      -- it is not, and it is not up to t
      pub gap-later : at_or_before 32 (next 32 here) t ≡ false → Gap t size table from n (i + 1)
      gap-later e = gap-past (rw (ne_eqb there (next 32 here) k, e))

      -- it is not, and it is
      pub gap_found : at_or_before 32 (next 32 here) t ≡ true → true ≡ gap_of t size table from n
      gap_found e = rw (ne_eqb there (next 32 here) k, e) at gap_step

  -- the last row
  module _ (h : n ≤ i + 1) {q : ℕ} (s : q ≡ from + i) where
    gap-last : (not (eqb (get_or table q 0 / 16777216 % 2) 1) && at_or_before 32 (next 32 here) t) ≡ gap_of t size table from n
    gap-last =
        rw (head_at size table g.sized (from + i) (omega (arith, g.fit, g.within)) s, here-is)
        (rw (segment_end (rows_of size table) from n gap_fits (i + 1) h, gap-nil) at g.is)

    pub gap-ended : get_or table q 0 / 16777216 % 2 ≡ 1 → false ≡ gap_of t size table from n
    gap-ended e = rw (eq-eqb (get_or table q 0 / 16777216 % 2) 1 e) at gap-last

    pub gap_unended : (get_or table q 0 / 16777216 % 2 ≡ 1 → ⊥) → {p : ℕ} → p ≡ size + from + i → {b : Bool} → b ≡ at_or_before 32 (next 32 (get_or table p 0)) t → b ≡ gap_of t size table from n
    gap_unended k z e = rw z at e ∙ (rw (ne_eqb (get_or table q 0 / 16777216 % 2) 1 k) at gap-last)

-- ── a TSN that is missing ──

module _ (t size : ℕ) (table : List ℕ) (from n : ℕ) (sized : length table ≡ 4 * size) (fit : from + n ≤ size) (h : 0 < n) {r : Row} (e : r ≡ get_or (rows_of size table) from blank) where
  abbrev missing : Bool
  missing = missing_up_to t (map bare (segment size table from n))

  missing-is : missing ≡ ((not (begins (bare r)) && at_or_before 32 (previous r.tsn) t) || gap_of t size table from n)
  missing-is =
      let k : from + n ≤ length (rows_of size table) = omega (arith, rows_long size table sized) in
      let z : from + 0 ≡ from = omega arith in
      rw e (ap (λ (l : List Row). missing_up_to t (map bare l)) (rw z at (segment-rest (rows_of size table) from n k 0 h)) ∙ missing-cons t _ _)

  -- before a first that is not B
  pub missing-first : (r.head / 16777216 / 2 % 2 ≡ 1 → ⊥) → at_or_before 32 (previous r.tsn) t ≡ true → true ≡ missing_up_to t (map bare (take n (drop from (rows_of size table))))
  missing-first k b = sym (missing-is ∙ rw (ne_eqb (r.head / 16777216 / 2 % 2) 1 k, b))

  -- else one behind it
  pub missing-behind : (r.head / 16777216 / 2 % 2 ≡ 1 → ⊥) → at_or_before 32 (previous r.tsn) t ≡ false → {b : Bool} → b ≡ gap_of t size table from n → b ≡ missing_up_to t (map bare (take n (drop from (rows_of size table))))
  missing-behind k b g = g ∙ sym (missing-is ∙ rw (ne_eqb (r.head / 16777216 / 2 % 2) 1 k, b))

  pub missing_begun : r.head / 16777216 / 2 % 2 ≡ 1 → {b : Bool} → b ≡ gap_of t size table from n → b ≡ missing_up_to t (map bare (take n (drop from (rows_of size table))))
  missing_begun k g = g ∙ sym (missing-is ∙ rw (eq-eqb (r.head / 16777216 / 2 % 2) 1 k))
