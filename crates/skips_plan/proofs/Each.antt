-- What holds of each entry of a list, of lists that are put together, cut, mapped, or put in another order.
-- Assumes nothing.
use mathlib.Core.List.{List, [], ◌∷◌, ◌++◌, map}
use Rattle.arrival_plan.specs.Plan.{Order, none_left, one_of}
use Rattle.arrival_plan.proofs.Maps.{Each}

module _ {A : Type 0} (P : A → Type 0) where
  pub each_parts : (a b : List A) → Each P (a ++ b) → Each P a × Each P b
  each_parts [] b h = (tt, h)
  each_parts (x ∷ a) b h = let k = each_parts a b h.1 in ((h.0, k.0), k.1)

  pub each_at : (a : List A) (x : A) (b : List A) → Each P (a ++ x ∷ b) → P x
  each_at a x b h = (each_parts a (x ∷ b) h).1.0

  pub each_with : (a : List A) (x : A) (b : List A) → P x → Each P (a ++ b) → Each P (a ++ x ∷ b)
  each_with [] x b h k = (h, k)
  each_with (y ∷ a) x b h k = (k.0, each_with a x b h k.1)

  pub each_without : (a : List A) (x : A) (b : List A) → Each P (a ++ x ∷ b) → Each P (a ++ b)
  each_without [] x b h = h.1
  each_without (y ∷ a) x b h = (h.0, each_without a x b h.1)

  -- one in place of another
  pub each_change : (a : List A) (x y : A) (b : List A) → P y → Each P (a ++ x ∷ b) → Each P (a ++ y ∷ b)
  each_change a x y b k h = each_with a y b k (each_without a x b h)

  pub each_back : {l r : List A} → Order A l r → Each P l → Each P r
  each_back none_left h = tt
  each_back (one_of xs a ys o) h = each_with xs a ys h.0 (each_back o h.1)

  pub each_weaker : (Q : A → Type 0) → ((x : A) → P x → Q x) → (l : List A) → Each P l → Each Q l
  each_weaker Q h [] k = tt
  each_weaker Q h (x ∷ l) k = (h x k.0, each_weaker Q h l k.1)

  pub each_unmap : {B : Type 0} (f : B → A) (l : List B) → Each P (map f l) → Each (λ (x : B). P (f x)) l
  each_unmap f [] h = tt
  each_unmap f (x ∷ l) h = (h.0, each_unmap f l h.1)
