-- What is told of causes, put into a list one behind the other.
-- Assumes nothing.
use mathlib.Core.Path.{◌≡◌, refl, sym, ap, ◌∙◌}
use mathlib.Core.List.{List, [], ◌∷◌, ◌++◌, map, map-append}
use Prim.Native.Nat.{ℕ, suc, ◌+◌, ◌≤◌}
use native.Mathlib.Nat.{add-suc, suc-add}
use native.Mathlib.Omega.{arith}
use lib.ListN.{length, set, length-map}
use lib.Seq.{sets, sets-eq, length-sets}
use Rattle.wire_model.specs.BigEndian.{over}
use Rattle.cause_parts.specs.Causes.{Cause}
use Rattle.cause_parts.specs.Lists.{field_of, noted}

sets_more : (l : List ℕ) (i : ℕ) (us vs : List ℕ) → sets (sets l i us) (i + length us) vs ≡ sets l i (us ++ vs)
sets_more l i [] vs = let e : i + 0 ≡ i = omega arith in rw e
sets_more l i (u ∷ us) vs = rw (add-suc, ← suc-add) (sets_more (set l i u) (suc i) us vs)

module _ (told : ℕ) where
  pub noted_none : (at : ℕ) (l : List ℕ) → noted told at [] l ≡ l
  unfolding noted
  noted_none at l = refl

  -- more causes stand behind those that are there
  pub noted_more : (at : ℕ) (cs ds : List Cause) (l : List ℕ) → noted told (at + length cs) ds (noted told at cs l) ≡ noted told at (cs ++ ds) l
  unfolding noted
  noted_more at cs ds l =
      ap (λ (n : ℕ). sets (sets l at (map (field_of told) cs)) (at + n) (map (field_of told) ds)) (sym (length-map cs (field_of told)))
      ∙ sets_more l at (map (field_of told) cs) (map (field_of told) ds)
      ∙ ap (sets l at) (sym (map-append (field_of told) cs ds))

  -- the list is as long as it was
  pub noted-kept : (at : ℕ) (cs : List Cause) (l : List ℕ) → length (noted told at cs l) ≡ length l
  unfolding noted
  noted-kept at cs l = length-sets l at (map (field_of told) cs)

  -- where it has room they stand at the front, and the rest stays
  pub noted-over : (cs : List Cause) (l : List ℕ) → length cs ≤ length l → noted told 0 cs l ≡ over l (map (field_of told) cs)
  unfolding noted over
  noted-over cs l h =
      let e : 0 + length (map (field_of told) cs) ≡ length (map (field_of told) cs) = omega arith in
      sets-eq (map (field_of told) cs) l 0 (rw (length-map cs (field_of told)) (omega arith)) ∙ rw e
