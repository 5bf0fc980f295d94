-- The bytes between two places of a list: at its front, with others read behind them, and less those in front.
-- Assumes nothing.
use Rattle.std.proofs.Common.{◌≡◌, ℕ, ◌+◌, ◌-◌, ◌≤◌, min, List, ◌++◌, length, take, drop, refl, sym, ap, ◌∙◌, zero-add, arith, length-take, length-drop, drop-drop, drop_of_length-le, take-take, take_at}
use native.Mathlib.Decide.{dec_le}
use Rattle.std.proofs.lemmas.List.{drop-take}
use Rattle.std.specs.Io.{StartsWith}
use borrow.Rule.Slice.PartMut.{put_mid}
use Rattle.wire_model.specs.BigEndian.{over}
use Rattle.std.specs.List.{copy_within}
use Rattle.moves_model.specs.Lists.{gone, slice}
use Rattle.moves_model.proofs.Shifted.{closed}

module _ (xs : List ℕ) (from to : ℕ) where
  -- as a part of a slice
  pub part : from ≤ to → take (to - from) (drop from xs) ≡ slice from to xs
  unfolding slice
  part h = let e : from + (to - from) ≡ to = omega arith in sym (drop-take from (to - from) xs) ∙ ap (λ (n : ℕ). drop from (take n xs)) e

  pub length-slice : to ≤ length xs → to - from ≡ length (slice from to xs)
  unfolding slice
  length-slice h = omega (arith, length-drop from (take to xs), length-take to xs)

  -- moved to the front
  pub shifted : from ≤ to → to ≤ length xs → copy_within xs from to 0 ≡ over xs (slice from to xs)
  unfolding gone slice
  shifted h l = let e : 0 + from ≡ from = zero-add from in rw e at (closed xs to 0 from (omega arith) l)

  -- n of them used, or all that there are
  pub used : (n most at : ℕ) → at ≡ min (min (from + n) most) to → to ≤ most → slice at to xs ≡ drop n (slice from to xs)
  unfolding slice
  used n most at is h = go (dec_le to (from + n)) ∙ sym (drop-drop n from (take to xs))
    where
      go : Dec (to ≤ from + n) → drop at (take to xs) ≡ drop (from + n) (take to xs)
      go (yes p) =
          drop_of_length-le (take to xs) {i = at} (omega (arith, length-take to xs))
          ∙ sym (drop_of_length-le (take to xs) {i = from + n} (omega (arith, length-take to xs)))
      go (no p) = let e : at ≡ from + n = omega arith in ap (λ (k : ℕ). drop k (take to xs)) e

-- what stands in front of what is read stays
pub in_front : (xs front old new : List ℕ) (at left n to : ℕ) → xs ≡ over old front → at ≡ 0 → left ≡ length front → left ≤ to → StartsWith (slice at to (put_mid left n xs new)) front
unfolding slice over
in_front xs front old new at left n to is zero all h =
    let behind = drop n (drop left xs) in
    let e : take left xs ≡ front = ap (take left) is ∙ take_at front (drop (length front) old) left (sym all) in
    let f : put_mid left n xs new ≡ front ++ (new ++ behind) = ap (λ (ys : List ℕ). ys ++ (new ++ behind)) e in
    let g : take (length front) (take to (front ++ (new ++ behind))) ≡ front = take-take (length front) to (front ++ (new ++ behind)) (omega arith) ∙ take_at front (new ++ behind) (length front) refl in
    rw (zero, f) g
