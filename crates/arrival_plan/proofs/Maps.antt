-- Some order and a merge stay so where each entry is mapped, and are as long as what they are of; what holds of each entry holds in any order.
-- Assumes nothing.
use mathlib.Core.Path.{◌≡◌, refl, ap, ◌∙◌}
use mathlib.Core.List.{List, [], ◌∷◌, ◌++◌, map}
use Prim.Native.Nat.{◌+◌}
use native.Mathlib.Omega.{arith}
use lib.ListN.{length, length-append}
use Rattle.arrival_plan.specs.Plan.{Order, none_left, one_of, Merge, neither, left, right}

module _ {A B : Type 0} (f : A → B) where
  pub map-append : (xs ys : List A) → map f (xs ++ ys) ≡ map f xs ++ map f ys
  map-append [] ys = refl
  map-append (x ∷ xs) ys = ap (λ (l : List B). f x ∷ l) (map-append xs ys)

  pub order_map : {l r : List A} → Order A l r → Order B (map f l) (map f r)
  order_map none_left = none_left
  order_map (one_of xs a ys {l} o) =
      rw (map-append xs (a ∷ ys)) (one_of (map f xs) (f a) (map f ys) (rw (map-append xs ys) at (order_map o)))

  pub merge_map : {l r m : List A} → Merge A l r m → Merge B (map f l) (map f r) (map f m)
  merge_map neither = neither
  merge_map (left g) = left (merge_map g)
  merge_map (right g) = right (merge_map g)

module _ {A : Type 0} where
  pub order_length : {l r : List A} → Order A l r → length l ≡ length r
  order_length none_left = refl
  order_length (one_of xs a ys o) = let k = order_length o ∙ length-append xs ys in rw (length-append xs (a ∷ ys)) (omega arith)

  pub merge_length : {l r m : List A} → Merge A l r m → length m ≡ length l + length r
  merge_length neither = refl
  merge_length (left g) = let k = merge_length g in omega arith
  merge_length (right g) = let k = merge_length g in omega arith

-- P holds of each
abbrev pub Each : {A : Type 0} → (A → Type 0) → List A → Type 0
Each P [] = Unit {0}
Each P (x ∷ xs) = P x × Each P xs

module _ {A : Type 0} (P : A → Type 0) where
  pub each_append : (xs ys : List A) → Each P xs → Each P ys → Each P (xs ++ ys)
  each_append [] ys h k = k
  each_append (x ∷ xs) ys h k = (h.0, each_append xs ys h.1 k)

  each_out : (xs : List A) (a : A) (ys : List A) → Each P (xs ++ a ∷ ys) → P a × Each P (xs ++ ys)
  each_out [] a ys h = h
  each_out (x ∷ xs) a ys h = let k = each_out xs a ys h.1 in (k.0, (h.0, k.1))

  pub each_order : {l r : List A} → Order A l r → Each P r → Each P l
  each_order none_left h = tt
  each_order (one_of xs a ys o) h = let k = each_out xs a ys h in (k.0, each_order o k.1)
