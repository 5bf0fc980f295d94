-- A pass over sets that keeps one SSN of those that do, and a pass that looks for one that does: what each set makes of it.
-- Assumes nothing.
use mathlib.Core.Path.{◌≡◌, refl, sym, ◌∙◌}
use mathlib.Core.Bool.{Bool, true, false, ◌||◌, cond}
use mathlib.Core.List.{List, [], ◌∷◌, map}
use mathlib.Core.Option.{Option, none, some}
use Prim.Native.Nat.{ℕ, ◌+◌, ◌*◌, ◌-◌, ◌<◌, ◌≤◌}
use native.Mathlib.Omega.{arith}
use lib.ListN.{length, get_or, take, drop}
use Rattle.table.specs.Rows.{blank, rows_of}
use Rattle.table.proofs.Columns.{rows_long}
use Rattle.fragments.specs.Frag.{Frag, ssn_of, bare}
use Rattle.fragment_sets.specs.Sets.{sets}
use Rattle.set_reach.specs.Kept.{set_ssn, some_set, ssns_of, keeps, kept}
use Rattle.set_reach.proofs.Passing.{Passing, set_rows, sets_from, sets_end, set_fits, passing_on, set_first, first-ssn}

-- ── the number kept so far, and those still to come ──

unfoldable pub kept_on : (ℕ → ℕ → Bool) → Bool → ℕ → List ℕ → Option ℕ
kept_on better true b ns = some (keeps better b ns)
kept_on better false b ns = kept better ns

-- what is kept of a number more
abbrev pub picked : (ℕ → ℕ → Bool) → Bool → ℕ → ℕ → ℕ
picked better found b n = cond found (cond (better n b) n b) n

pub kept_more : (better : ℕ → ℕ → Bool) (found : Bool) (b n : ℕ) (ns : List ℕ) → kept_on better found b (n ∷ ns) ≡ kept_on better true (picked better found b n) ns
unfolding kept_on kept keeps
kept_more better true b n ns = refl
kept_more better false b n ns = refl

pub kept_end : (better : ℕ → ℕ → Bool) (found : Bool) (b : ℕ) → kept_on better found b [] ≡ cond found (some b) none
unfolding kept_on kept keeps
kept_end better true b = refl
kept_end better false b = refl

pub kept-start : (better : ℕ → ℕ → Bool) (b : ℕ) (ns : List ℕ) → kept_on better false b ns ≡ kept better ns
unfolding kept_on
kept-start better b ns = refl

-- ── the SSNs of the sets that do ──

module _ (p : List Frag → Bool) where
  ssns-nil : ssns_of p [] ≡ []
  unfolding ssns_of
  ssns-nil = refl

  ssns-cons : (l : List Frag) (ls : List (List Frag)) → ssns_of p (l ∷ ls) ≡ cond (p l) (set_ssn l ∷ ssns_of p ls) (ssns_of p ls)
  unfolding ssns_of
  ssns-cons l ls = refl

  some-nil : some_set p [] ≡ false
  unfolding some_set
  some-nil = refl

  some-cons : (l : List Frag) (ls : List (List Frag)) → some_set p (l ∷ ls) ≡ (p l || some_set p ls)
  unfolding some_set
  some-cons l ls = refl

-- up to the row at i the sets are passed, and b is kept of their SSNs, if one is found
pub record Keeping (better : ℕ → ℕ → Bool) (p : List Frag → Bool) (size : ℕ) (table : List ℕ) (from n i : ℕ) (found : Bool) (b : ℕ) : Type 0 where
  pub pass : Passing size table from n i
  pub is : kept_on better found b (ssns_of p (sets_from size table from n i)) ≡ kept better (ssns_of p (sets (map bare (take n (drop from (rows_of size table))))))

pub keeping_none : (better : ℕ → ℕ → Bool) (p : List Frag → Bool) (size : ℕ) (table : List ℕ) (from n b : ℕ) → length table ≡ 4 * size → from + n ≤ size → Keeping better p size table from n 0 false b
keeping_none better p size table from n b s f = record { pass = record { sized = s; fit = f; within = omega arith }; is = kept-start better b _ }

module _ {better : ℕ → ℕ → Bool} {p : List Frag → Bool} {size : ℕ} {table : List ℕ} {from n i : ℕ} {found : Bool} {b : ℕ} (q : Keeping better p size table from n i found b) where
  pub keeping_all : n ≤ i → cond found (some b) none ≡ kept better (ssns_of p (sets (map bare (take n (drop from (rows_of size table))))))
  keeping_all h = sym (kept_end better found b) ∙ rw (sets_end q.pass h, ssns-nil p) at q.is

  module _ (h : i < n) {k : ℕ} (e : k ≡ set_rows (get_or (rows_of size table) (from + i) blank) (take (n - i) (drop (from + i) (rows_of size table)))) where
    abbrev set : List Frag
    set = map bare (take k (drop (from + i) (rows_of size table)))

    split : ssns_of p (sets_from size table from n i) ≡ cond (p set) (set_ssn set ∷ ssns_of p (sets_from size table from n (i + k))) (ssns_of p (sets_from size table from n (i + k)))
    split = rw (set_first q.pass h e) (ssns-cons p _ _)

    ssn-is : set_ssn set ≡ ssn_of (bare (get_or (rows_of size table) (from + i) blank))
    ssn-is =
        let f = set_fits q.pass h e in
        first-ssn (rows_of size table) (from + i) k (omega (arith, q.pass.fit, rows_long size table q.pass.sized)) f.0

    pub keeping_past : p (map bare (take k (drop (from + i) (rows_of size table)))) ≡ false → Keeping better p size table from n (i + k) found b
    keeping_past t = record { pass = passing_on q.pass h e; is = rw (split, t) at q.is }

    pub keeping_one : p (map bare (take k (drop (from + i) (rows_of size table)))) ≡ true → {c : ℕ} → c ≡ picked better found b (ssn_of (bare (get_or (rows_of size table) (from + i) blank)))
        → Keeping better p size table from n (i + k) true c
    keeping_one t x = record { pass = passing_on q.pass h e; is = rw x (rw (split, t, ssn-is, kept_more) at q.is) }

-- ── whether one does ──

pub record Looking (p : List Frag → Bool) (size : ℕ) (table : List ℕ) (from n i : ℕ) : Type 0 where
  pub pass : Passing size table from n i
  pub is : some_set p (sets_from size table from n i) ≡ some_set p (sets (map bare (take n (drop from (rows_of size table)))))

pub looking_none : (p : List Frag → Bool) (size : ℕ) (table : List ℕ) (from n : ℕ) → length table ≡ 4 * size → from + n ≤ size → Looking p size table from n 0
looking_none p size table from n s f = record { pass = record { sized = s; fit = f; within = omega arith }; is = refl }

module _ {p : List Frag → Bool} {size : ℕ} {table : List ℕ} {from n i : ℕ} (q : Looking p size table from n i) where
  pub looking_all : n ≤ i → false ≡ some_set p (sets (map bare (take n (drop from (rows_of size table)))))
  looking_all h = rw (sets_end q.pass h, some-nil p) at q.is

  module _ (h : i < n) {k : ℕ} (e : k ≡ set_rows (get_or (rows_of size table) (from + i) blank) (take (n - i) (drop (from + i) (rows_of size table)))) where
    look : (p (map bare (take k (drop (from + i) (rows_of size table)))) || some_set p (sets_from size table from n (i + k))) ≡ some_set p (sets (map bare (take n (drop from (rows_of size table)))))
    look = rw (set_first q.pass h e, some-cons p) at q.is

    pub looking_past : p (map bare (take k (drop (from + i) (rows_of size table)))) ≡ false → Looking p size table from n (i + k)
    looking_past t = record { pass = passing_on q.pass h e; is = rw t at look }

    pub looking_found : p (map bare (take k (drop (from + i) (rows_of size table)))) ≡ true → true ≡ some_set p (sets (map bare (take n (drop from (rows_of size table)))))
    looking_found t = rw t at look
