-- The pass that keeps the lowest TSN of the rows at or after an SSN.
-- Assumes nothing.
use mathlib.Core.Path.{◌≡◌, refl, sym, ◌∙◌}
use mathlib.Core.Bool.{Bool, true, false, cond}
use mathlib.Core.List.{List, [], ◌∷◌, map}
use mathlib.Core.Option.{none, some}
use Prim.Native.Nat.{ℕ, ◌+◌, ◌*◌, ◌%◌, ◌<◌, ◌≤◌}
use native.Mathlib.Omega.{arith}
use lib.ListN.{length, get_or, take, drop}
use Rattle.serial_model.specs.Serial.{at_or_before}
use Rattle.table.specs.Rows.{blank, rows_of}
use Rattle.table.specs.declared.Row.{Row}
use Rattle.table.proofs.Columns.{rows_long}
use Rattle.fragments.specs.Frag.{Frag, ssn_of, bare}
use Rattle.fragment_sets.proofs.Complete.{segment-rest, segment_end}
use Rattle.set_reach.specs.Kept.{lower, lowest}
use Rattle.set_reach.proofs.Keeping.{kept_on, picked, kept-start, kept_more, kept_end}
use Rattle.set_reach.specs.Applicable.{tsns_from, is_up_to, resolved}

tsns-nil : (s : ℕ) → tsns_from s [] ≡ []
unfolding tsns_from
tsns-nil s = refl

tsns-cons : (s : ℕ) (x : Frag) (xs : List Frag) → tsns_from s (x ∷ xs) ≡ cond (at_or_before 16 s (ssn_of x)) (x.tsn ∷ tsns_from s xs) (tsns_from s xs)
unfolding tsns_from
tsns-cons s x xs = refl

pub record Lowest (s size : ℕ) (table : List ℕ) (from n i : ℕ) (found : Bool) (b : ℕ) : Type 0 where
  pub sized : length table ≡ 4 * size
  pub fit : from + n ≤ size
  pub within : i ≤ n
  pub is : kept_on (lower 32) found b (tsns_from s (map bare (drop i (take n (drop from (rows_of size table)))))) ≡ lowest 32 (tsns_from s (map bare (take n (drop from (rows_of size table)))))

pub lowest_none : (s size : ℕ) (table : List ℕ) (from n b : ℕ) → length table ≡ 4 * size → from + n ≤ size → Lowest s size table from n 0 false b
lowest_none s size table from n b z f = record { sized = z; fit = f; within = omega arith; is = kept-start (lower 32) b _ }

module _ {s size : ℕ} {table : List ℕ} {from n i : ℕ} {found : Bool} {b : ℕ} (l : Lowest s size table from n i found b) where
  fits : from + n ≤ length (rows_of size table)
  fits = omega (arith, l.fit, rows_long size table l.sized)

  module _ (h : i < n) {r : Row} (e : r ≡ get_or (rows_of size table) (from + i) blank) where
    split : tsns_from s (map bare (drop i (take n (drop from (rows_of size table)))))
        ≡ cond (at_or_before 16 s (r.id % 65536)) (r.tsn ∷ tsns_from s (map bare (drop (i + 1) (take n (drop from (rows_of size table)))))) (tsns_from s (map bare (drop (i + 1) (take n (drop from (rows_of size table))))))
    split = rw (segment-rest (rows_of size table) from n fits i h, e) (tsns-cons s _ _)

    pub lowest-past : at_or_before 16 s (r.id % 65536) ≡ false → Lowest s size table from n (i + 1) found b
    lowest-past t = record { sized = l.sized; fit = l.fit; within = omega arith; is = rw (split, t) at l.is }

    pub lowest-one : at_or_before 16 s (r.id % 65536) ≡ true → {c : ℕ} → c ≡ picked (lower 32) found b r.tsn → Lowest s size table from n (i + 1) true c
    lowest-one t x = record { sized = l.sized; fit = l.fit; within = omega arith; is = rw x (rw (split, t, kept_more) at l.is) }

  -- all is passed: none is found, or the lowest is tested
  module _ (h : n ≤ i) where
    all : cond found (some b) none ≡ lowest 32 (tsns_from s (map bare (take n (drop from (rows_of size table)))))
    all = sym (kept_end (lower 32) found b) ∙ rw (segment_end (rows_of size table) from n fits i h, tsns-nil s) at l.is

    pub lowest_none_found : (p : ℕ) → found ≡ false → false ≡ resolved s p (map bare (take n (drop from (rows_of size table))))
    unfolding is_up_to
    lowest_none_found p f = rw (← all, f)

    pub lowest_found : (p : ℕ) → found ≡ true → {d : Bool} → d ≡ at_or_before 32 b p → d ≡ resolved s p (map bare (take n (drop from (rows_of size table))))
    unfolding is_up_to
    lowest_found p f g = g ∙ rw (← all, f)
