-- A pass over the sets of some rows, set by set: what is left from a row on is the set that starts there, and the sets behind it.
-- Assumes nothing.
use mathlib.Core.Path.{◌≡◌, refl, sym, ap, ◌∙◌}
use mathlib.Core.Bool.{Bool, true, false, not, cond}
use mathlib.Core.List.{List, [], ◌∷◌, map}
use Prim.Native.Nat.{ℕ, suc, ◌+◌, ◌*◌, ◌-◌, ◌<◌, ◌≤◌}
use native.Mathlib.Omega.{arith}
use borrow.Author.Tests.{eq-eqb}
use lib.ListN.{length, get_or, take, drop, length-drop}
use lib.Seq.{drop-drop, length-take-le, take-take}
use Rattle.serial_model.specs.Serial.{at_or_before}
use Rattle.table.specs.Rows.{blank, rows_of, ahead_of}
use Rattle.table.specs.declared.Row.{Row}
use Rattle.table.proofs.Columns.{rows_long}
use Rattle.table.proofs.Scans.{ahead_within, ahead_more}
use Rattle.fragments.specs.Frag.{Frag, ssn_of, has_ssn, bare, of_row}
use Rattle.fragments.specs.Words.{while, past}
use Rattle.fragment_sets.specs.Sets.{other_ssn, sets, set_up_to}
use Rattle.fragment_sets.proofs.Sets.{sets-cons}
use Rattle.fragment_sets.proofs.Complete.{segment-rest, segment_end}
use Rattle.reassembly_state.proofs.Parts.{drop-take}
use Rattle.set_reach.specs.Kept.{set_ssn}

-- ── the first set of rows that are not none ──

-- how many rows it has
abbrev pub set_rows : Row → List Row → ℕ
set_rows r rs = ahead_of (of_row (other_ssn (ssn_of (bare r)))) rs

pub some-rows : (r : Row) (rs : List Row) → 0 < set_rows r (r ∷ rs)
some-rows r rs = omega (arith, ahead_more (of_row (other_ssn (ssn_of (bare r)))) r rs (rw (eq-eqb (ssn_of (bare r)) (ssn_of (bare r)) refl)))

-- a fragment is of its own set
pub own-while : (x : Frag) (xs : List Frag) → x ∷ while (has_ssn (ssn_of x)) xs ≡ while (has_ssn (ssn_of x)) (x ∷ xs)
unfolding while
own-while x xs = rw (eq-eqb (ssn_of x) (ssn_of x) refl)

pub own-past : (x : Frag) (xs : List Frag) → past (has_ssn (ssn_of x)) xs ≡ past (has_ssn (ssn_of x)) (x ∷ xs)
unfolding past
own-past x xs = rw (eq-eqb (ssn_of x) (ssn_of x) refl)

module _ (s : ℕ) where
  while-bare : (rs : List Row) → while (has_ssn s) (map bare rs) ≡ map bare (take (ahead_of (of_row (other_ssn s)) rs) rs)
  unfolding while ahead_of
  while-bare [] = refl
  while-bare (r ∷ rs) = go (has_ssn s (bare r)) (while-bare rs)
    where
      go : (b : Bool) → while (has_ssn s) (map bare rs) ≡ map bare (take (ahead_of (of_row (other_ssn s)) rs) rs)
          → cond b (bare r ∷ while (has_ssn s) (map bare rs)) [] ≡ map bare (take (cond (not b) 0 (suc (ahead_of (of_row (other_ssn s)) rs))) (r ∷ rs))
      go true e = ap (λ (l : List Frag). bare r ∷ l) e
      go false e = refl

  past-bare : (rs : List Row) → past (has_ssn s) (map bare rs) ≡ map bare (drop (ahead_of (of_row (other_ssn s)) rs) rs)
  unfolding past ahead_of
  past-bare [] = refl
  past-bare (r ∷ rs) = go (has_ssn s (bare r)) (past-bare rs)
    where
      go : (b : Bool) → past (has_ssn s) (map bare rs) ≡ map bare (drop (ahead_of (of_row (other_ssn s)) rs) rs)
          → cond b (past (has_ssn s) (map bare rs)) (bare r ∷ map bare rs) ≡ map bare (drop (cond (not b) 0 (suc (ahead_of (of_row (other_ssn s)) rs))) (r ∷ rs))
      go true e = e
      go false e = refl

sets_rows : (r : Row) (rs : List Row) → sets (map bare (r ∷ rs)) ≡ map bare (take (set_rows r (r ∷ rs)) (r ∷ rs)) ∷ sets (map bare (drop (set_rows r (r ∷ rs)) (r ∷ rs)))
sets_rows r rs =
    let x = bare r in
    let xs = map bare rs in
    let pair : List Frag → List Frag → List (List Frag) = λ a b. a ∷ sets b in
    sets-cons x xs
    ∙ ap (λ (a : List Frag). pair a (past (has_ssn (ssn_of x)) xs)) (own-while x xs ∙ while-bare (ssn_of x) (r ∷ rs))
    ∙ ap (pair (map bare (take (set_rows r (r ∷ rs)) (r ∷ rs)))) (own-past x xs ∙ past-bare (ssn_of x) (r ∷ rs))

-- ── a set of k rows at an index has the SSN of the row there ──

module _ (rows : List Row) (at k : ℕ) (fit : at + k ≤ length rows) (h : 0 < k) where
  pub first-row : map bare (take k (drop at rows)) ≡ bare (get_or rows at blank) ∷ map bare (drop 1 (take k (drop at rows)))
  first-row = let z : at + 0 ≡ at = omega arith in ap (map bare) (rw z at (segment-rest rows at k fit 0 h))

  pub first-ssn : set_ssn (map bare (take k (drop at rows))) ≡ ssn_of (bare (get_or rows at blank))
  unfolding set_ssn
  first-ssn = rw first-row

  pub first_up_to_lem : (s : ℕ) → set_up_to s (map bare (take k (drop at rows))) ≡ at_or_before 16 (ssn_of (bare (get_or rows at blank))) s
  unfolding set_up_to
  first_up_to_lem s = rw first-row

-- ── the sets of n rows from one on ──

-- the sets from the row at i of them on
abbrev pub sets_from : ℕ → List ℕ → ℕ → ℕ → ℕ → List (List Frag)
sets_from size table from n i = sets (map bare (drop i (take n (drop from (rows_of size table)))))

pub record Passing (size : ℕ) (table : List ℕ) (from n i : ℕ) : Type 0 where
  pub sized : length table ≡ 4 * size
  pub fit : from + n ≤ size
  pub within : i ≤ n

module _ {size : ℕ} {table : List ℕ} {from n i : ℕ} (p : Passing size table from n i) where
  abbrev rows : List Row
  rows = rows_of size table

  fits : from + n ≤ length rows
  fits = omega (arith, p.fit, rows_long size table p.sized)

  pub sets_end : n ≤ i → sets_from size table from n i ≡ []
  unfolding sets
  sets_end h = rw (segment_end rows from n fits i h)

  module _ (h : i < n) {k : ℕ} (e : k ≡ set_rows (get_or rows (from + i) blank) (take (n - i) (drop (from + i) rows))) where
    left_is : drop i (take n (drop from rows)) ≡ take (n - i) (drop (from + i) rows)
    left_is =
        let z : i + (n - i) ≡ n = omega arith in
        ap (λ (m : ℕ). drop i (take m (drop from rows))) (sym z) ∙ drop-take i (n - i) (drop from rows) ∙ ap (take (n - i)) (drop-drop i from rows)

    cons-is : take (n - i) (drop (from + i) rows) ≡ get_or rows (from + i) blank ∷ drop (i + 1) (take n (drop from rows))
    cons-is = sym left_is ∙ segment-rest rows from n fits i h

    k-is : k ≡ set_rows (get_or rows (from + i) blank) (get_or rows (from + i) blank ∷ drop (i + 1) (take n (drop from rows)))
    k-is = e ∙ ap (set_rows (get_or rows (from + i) blank)) cons-is

    some : 0 < k
    some = rw k-is (some-rows _ _)

    fit_k : i + k ≤ n
    fit_k =
        let a = ahead_within (of_row (other_ssn (ssn_of (bare (get_or rows (from + i) blank))))) (take (n - i) (drop (from + i) rows)) in
        let b = length-take-le (n - i) (drop (from + i) rows) (rw length-drop (omega (arith, fits))) in
        omega arith

    pub set_fits : (0 < k) × (i + k ≤ n)
    set_fits = (some, fit_k)

    pub passing_on : Passing size table from n (i + k)
    passing_on = record { sized = p.sized; fit = p.fit; within = fit_k }

    pub set_first : sets_from size table from n i ≡ map bare (take k (drop (from + i) rows)) ∷ sets_from size table from n (i + k)
    set_first =
        let r = get_or rows (from + i) blank in
        let rs = drop (i + 1) (take n (drop from rows)) in
        let all : drop i (take n (drop from rows)) ≡ r ∷ rs = segment-rest rows from n fits i h in
        let front : take k (r ∷ rs) ≡ take k (drop (from + i) rows) = ap (take k) (sym cons-is) ∙ take-take k (n - i) (drop (from + i) rows) (omega (arith, fit_k)) in
        let back : drop k (r ∷ rs) ≡ drop (i + k) (take n (drop from rows)) = ap (drop k) (sym all) ∙ drop-drop k i (take n (drop from rows)) in
        rw (all, ← front, ← back, k-is) (sets_rows r rs)
