-- What is asked of one set, by the row that it starts with.
-- Assumes nothing.
use mathlib.Core.Path.{◌≡◌, sym, ap, ◌∙◌}
use mathlib.Core.Bool.{Bool, true, false, ◌&&◌, ◌||◌}
use mathlib.Core.List.{List, map}
use Prim.Native.Nat.{ℕ, ◌+◌, ◌%◌, ◌≤◌, ◌<◌}
use lib.Dec.{eqb}
use lib.ListN.{length, get_or, take, drop}
use borrow.Author.Tests.{eq-eqb, ne_eqb}
use Rattle.serial_model.specs.Serial.{before, at_or_before}
use Rattle.table.specs.Rows.{blank}
use Rattle.table.specs.declared.Row.{Row}
use Rattle.fragments.specs.Frag.{Frag, ssn_of, bare}
use Rattle.set_reach.specs.Reach.{reached}
use Rattle.set_reach.specs.Kept.{set_ssn}
use Rattle.set_reach.proofs.Passing.{first-row, first-ssn}
use Rattle.set_reach.specs.Applicable.{settles, first_up_to, ends_part}

module _ (rows : List Row) (at k : ℕ) (fit : at + k ≤ length rows) (h : 0 < k) {r : Row} (e : r ≡ get_or rows at blank) where
  abbrev set : List Frag
  set = map bare (take k (drop at rows))

  abbrev ssn : ℕ
  ssn = r.id % 65536

  ssn-is : set_ssn set ≡ ssn
  ssn-is = first-ssn rows at k fit h ∙ ap (λ (x : Row). ssn_of (bare x)) (sym e)

  first-is : (p : ℕ) → first_up_to p set ≡ at_or_before 32 r.tsn p
  unfolding first_up_to
  first-is p = rw (first-row rows at k fit h, e)

  module _ (expected s t : ℕ) where
    settles-is : settles expected s t set ≡ (eqb ssn s && (eqb ssn expected || reached t set))
    settles-is = rw ssn-is

    pub settles_other : (r.id % 65536 ≡ s → ⊥) → false ≡ settles expected s t (map bare (take k (drop at rows)))
    settles_other n = sym (settles-is ∙ rw (ne_eqb ssn s n))

    module _ (m : r.id % 65536 ≡ s) where
      pub settles-expected : r.id % 65536 ≡ expected → true ≡ settles expected s t (map bare (take k (drop at rows)))
      settles-expected x = sym (settles-is ∙ rw (eq-eqb ssn s m, eq-eqb ssn expected x))

      pub settles-reached : (r.id % 65536 ≡ expected → ⊥) → {b : Bool} → b ≡ reached t (map bare (take k (drop at rows))) → b ≡ settles expected s t (map bare (take k (drop at rows)))
      settles-reached n f = f ∙ sym (settles-is ∙ rw (eq-eqb ssn s m, ne_eqb ssn expected n))

    module _ (p : ℕ) where
      ends_is : ends_part expected s t p set ≡ (at_or_before 16 expected ssn && (before 16 ssn s && (reached t set || at_or_before 32 r.tsn p)))
      ends_is = rw (ssn-is, first-is p)

      pub ends-before : at_or_before 16 expected (r.id % 65536) ≡ false → false ≡ ends_part expected s t p (map bare (take k (drop at rows)))
      ends-before a = sym (ends_is ∙ rw a)

      module _ (a : at_or_before 16 expected (r.id % 65536) ≡ true) where
        pub ends-late : before 16 (r.id % 65536) s ≡ false → false ≡ ends_part expected s t p (map bare (take k (drop at rows)))
        ends-late b = sym (ends_is ∙ rw (a, b))

        module _ (b : before 16 (r.id % 65536) s ≡ true) where
          pub ends-reached : reached t (map bare (take k (drop at rows))) ≡ true → true ≡ ends_part expected s t p (map bare (take k (drop at rows)))
          ends-reached c = sym (ends_is ∙ rw (a, b, c))

          pub ends_begun : reached t (map bare (take k (drop at rows))) ≡ false → {d : Bool} → d ≡ at_or_before 32 r.tsn p → d ≡ ends_part expected s t p (map bare (take k (drop at rows)))
          ends_begun c f = f ∙ sym (ends_is ∙ rw (a, b, c))
