-- Lists of fragments: the front of which all do, and a list put into one of two.
-- Assumes nothing.
use mathlib.Core.Path.{◌≡◌, refl, ap}
use mathlib.Core.Bool.{Bool, true, false, not, ◌||◌, cond, true≢false}
use mathlib.Core.List.{List, [], ◌∷◌, ◌++◌, append_assoc}
use Prim.Native.Nat.{ℕ, ◌+◌, ◌≤◌}
use lib.ListN.{length, take, drop}
use lib.Seq.{take-append-le, drop-append-le, take-append-add, drop-append-add}
use Rattle.moves_model.specs.Lists.{put}
use Rattle.fragments.specs.Frag.{Frag}
use Rattle.fragments.specs.Words.{any, while, past, placed}

-- ── the front of which all do, and the rest ──

module _ (p : Frag → Bool) where
  pub while-past : (l : List Frag) → while p l ++ past p l ≡ l
  unfolding while past
  while-past [] = refl
  while-past (x ∷ xs) = go (p x) (while-past xs)
    where
      go : (b : Bool) → while p xs ++ past p xs ≡ xs → cond b (x ∷ while p xs) [] ++ cond b (past p xs) (x ∷ xs) ≡ x ∷ xs
      go true e = ap (λ (l : List Frag). x ∷ l) e
      go false e = refl

  -- where none does, nothing stands behind those that do not
  pub past_none : (l : List Frag) → any p l ≡ false → past (λ (x : Frag). not (p x)) l ≡ []
  unfolding any past
  past_none [] e = refl
  past_none (x ∷ xs) e = go (p x) e (past_none xs)
    where
      go : (b : Bool) → b || any p xs ≡ false → (any p xs ≡ false → past (λ (x : Frag). not (p x)) xs ≡ []) → cond (not b) (past (λ (x : Frag). not (p x)) xs) (x ∷ xs) ≡ []
      go true e h = absurd (true≢false e)
      go false e h = h e

  -- where none is before it, a fragment goes first
  pub placed_first : (f : Frag) (l : List Frag) → any p l ≡ false → placed p f l ≡ f ∷ l
  unfolding placed
  placed_first f [] e = refl
  placed_first f (x ∷ xs) e = rw e

-- ── a list put into one of two ──

module _ {A : Type 0} (new front back : List A) where
  pub put-behind : (at : ℕ) → put (length front + at) new (front ++ back) ≡ front ++ put at new back
  unfolding put
  put-behind at = rw (take-append-add front back at, drop-append-add front back at) (append_assoc front (take at back) (new ++ drop at back))

  pub put_in_front : (at : ℕ) → at ≤ length front → put at new (front ++ back) ≡ put at new front ++ back
  unfolding put
  put_in_front at h = rw (take-append-le at front back h, drop-append-le at front back h) (simp append_assoc)
