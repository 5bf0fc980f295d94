-- A change in one of three lists that stand one behind the other, seen as a change of the whole; and fronts laid over fronts.
-- Assumes nothing.
use mathlib.Core.Path.{◌≡◌, refl, sym, ap, ◌∙◌}
use mathlib.Core.List.{List, [], ◌∷◌, ◌++◌, append_assoc}
use Prim.Native.Nat.{ℕ, zero, suc, ◌+◌, ◌-◌, ◌≤◌}
use native.Mathlib.Omega.{arith}
use lib.ListN.{length, take, drop, length-append, take-append-drop}
use lib.Seq.{drop-drop, take-take, take_at, drop_at, take-append-le, drop-append-le, take-append-add, drop-append-add, take-nil}
use Rattle.wire_model.specs.BigEndian.{over}
use Rattle.moves_model.specs.Lists.{put, gone, slice, turned}
use Rattle.fragments.proofs.Words.{put-behind, put_in_front}

module _ {A : Type 0} where
  pub three : (a b : ℕ) (l : List A) → take a l ++ (take b (drop a l) ++ drop (a + b) l) ≡ l
  three a b l = rw (← (drop-drop b a l), take-append-drop b (drop a l), take-append-drop a l)

  -- what stands behind the front of a front
  pub drop-take : (m k : ℕ) (l : List A) → drop m (take (m + k) l) ≡ take k (drop m l)
  drop-take zero k l = let e : 0 + k ≡ k = omega arith in rw e
  drop-take (suc m) k [] = rw (take-nil, take-nil)
  drop-take (suc m) k (x ∷ l) = let e : suc m + k ≡ suc (m + k) = omega arith in rw e (drop-take m k l)

  pub put-length : (at : ℕ) (new l : List A) → length (put at new l) ≡ length new + length l
  unfolding put
  put-length at new l = let e = ap length (take-append-drop at l) in let f = length-append (take at l) (drop at l) in simp length-append (omega arith)

  module _ (a b c : List A) where
    pub put_last : (k : ℕ) (new : List A) → a ++ (b ++ put k new c) ≡ put (length a + (length b + k)) new (a ++ (b ++ c))
    put_last k new = rw (put-behind new a (b ++ c) (length b + k), put-behind new b c k)

    pub put_middle : (k : ℕ) (new : List A) → k ≤ length b → a ++ (put k new b ++ c) ≡ put (length a + k) new (a ++ (b ++ c))
    put_middle k new h = rw (put-behind new a (b ++ c) k, put_in_front new b c k h)

    pub gone-last : (k : ℕ) → a ++ (b ++ drop k c) ≡ gone (length a + length b) k (a ++ (b ++ c))
    unfolding gone
    gone-last k =
        let n : length a + length b + k ≡ length a + (length b + k) = omega arith in
        rw (take-append-add a (b ++ c) (length b), take_at b c (length b) refl, n, drop-append-add a (b ++ c) (length b + k), drop-append-add b c k, append_assoc)

    pub gone_middle : (k : ℕ) → k ≤ length b → a ++ (drop k b ++ c) ≡ gone (length a) k (a ++ (b ++ c))
    unfolding gone
    gone_middle k h = rw (take_at a (b ++ c) (length a) refl, drop-append-add a (b ++ c) k, drop-append-le k b c h)

    pub gone-first : (k : ℕ) → k ≤ length a → drop k a ++ (b ++ c) ≡ gone 0 k (a ++ (b ++ c))
    unfolding gone
    gone-first k h = let e : 0 + k ≡ k = omega arith in rw e (sym (drop-append-le k a (b ++ c) h))

    -- a run of the middle list goes behind the first
    pub turned_middle : (x y : ℕ) → x ≤ y → y ≤ length b → (a ++ slice x y b) ++ (gone x (y - x) b ++ c) ≡ turned (length a) (length a + x) (length a + y) (a ++ (b ++ c))
    unfolding gone slice turned
    turned_middle x y h k =
        let e : x + (y - x) ≡ y = omega arith in
        rw (
          e,
          take_at a (b ++ c) (length a) refl,
          take-append-add a (b ++ c) y,
          take-append-add a (b ++ c) x,
          take-append-le y b c k,
          take-append-le x b c (omega arith),
          drop-append-add a (take y b) x,
          drop_at a (take x b) (length a) refl,
          drop-append-add a (b ++ c) y,
          drop-append-le y b c k,
        )
        (rw (append_assoc, append_assoc, append_assoc))

  -- a longer front over a front
  pub over-over : (xs vs ws : List A) → length vs ≤ length ws → over (over xs vs) ws ≡ over xs ws
  unfolding over
  over-over xs vs ws h =
      let e : length vs + (length ws - length vs) ≡ length ws = omega arith in
      ap (λ (l : List A). ws ++ l) (rw (← e) (drop-append-add vs (drop (length vs) xs) (length ws - length vs) ∙ drop-drop (length ws - length vs) (length vs) xs))

  -- behind the front of a list all is as it was
  pub behind-front : (xs vs : List A) (i : ℕ) → length vs ≤ i → drop i (over xs vs) ≡ drop i xs
  unfolding over
  behind-front xs vs i h =
      let e : length vs + (i - length vs) ≡ i = omega arith in
      rw (← e) (drop-append-add vs (drop (length vs) xs) (i - length vs) ∙ drop-drop (i - length vs) (length vs) xs)

  gone-is : (at k : ℕ) (l : List A) → gone at k l ≡ take at l ++ drop (at + k) l
  unfolding gone
  gone-is at k l = refl

  front-back : (xs vs : List A) (n : ℕ) → length vs ≡ n → take n (over xs vs) ≡ vs
  unfolding over
  front-back xs vs n e = take_at vs (drop (length vs) xs) n e

  -- a run from behind the front moved down to it
  pub moved_down : (xs vs : List A) (to at k : ℕ) → length vs ≡ to → to ≤ at → at + k ≤ length xs
      → over (over xs vs) (gone to (at - to) (take (at + k) (over xs vs))) ≡ over xs (vs ++ take k (drop at xs))
  moved_down xs vs to at k e h l =
      let at-is : to + (at - to) ≡ at = omega arith in
      let front : take to (take (at + k) (over xs vs)) ≡ vs = take-take to (at + k) (over xs vs) (omega arith) ∙ front-back xs vs to e in
      let back : drop (to + (at - to)) (take (at + k) (over xs vs)) ≡ take k (drop at xs) = rw (at-is, drop-take at k (over xs vs), behind-front xs vs at (omega arith)) in
      ap (over (over xs vs)) (joins front back) ∙ over-over xs vs (vs ++ take k (drop at xs)) (rw length-append (omega arith))
    where
      joins : take to (take (at + k) (over xs vs)) ≡ vs → drop (to + (at - to)) (take (at + k) (over xs vs)) ≡ take k (drop at xs) → gone to (at - to) (take (at + k) (over xs vs)) ≡ vs ++ take k (drop at xs)
      joins f g = gone-is to (at - to) (take (at + k) (over xs vs)) ∙ rw (f, g)
