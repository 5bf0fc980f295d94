-- What elements moved up or down one by one make of a list, and what a rotation does, said by the definitions.
-- Assumes nothing.
use mathlib.Core.Path.{◌≡◌, sym, ap, ◌∙◌}
use mathlib.Core.List.{List, [], ◌∷◌, ◌++◌, append_assoc}
use Prim.Native.Nat.{ℕ, suc, ◌+◌, ◌-◌, ◌<◌, ◌≤◌}
use native.Mathlib.Omega.{arith}
use lib.ListN.{length, get_or, take, drop, set, length-append, length-take, length-drop, take-append-drop, get_or-append}
use lib.Seq.{paste, length-take-le, take-append-le, take-take, take-suc, drop_at, drop-drop, drop-cons, get_or-drop, get_or-take, set_at, set_split}
use Rattle.std.proofs.lemmas.List.{drop-take}
use Rattle.std.proofs.lemmas.List.Edits.{paste_more, drop-paste}
use Rattle.std.specs.List.{copy_within}
use borrow.Rule.Slice.PartMut.{put_mid}
use Rattle.wire_model.specs.BigEndian.{over}
use Rattle.moves_model.specs.Lists.{put, gone, slice, turned}

module _ {A : Type 0} where
  -- the elements from f up to t, as a part of a slice
  part : (f t : ℕ) (xs : List A) → f ≤ t → drop f (take t xs) ≡ take (t - f) (drop f xs)
  part f t xs h =
      let e : t ≡ f + (t - f) = omega arith in
      ap (λ (m : ℕ). drop f (take m xs)) e ∙ drop-take f (t - f) xs

  -- ── one element more moved down by k, or up ──

  down : (xs : List A) (at k m : ℕ) (v : A) → at + m + k < length xs → v ≡ get_or (paste xs at (drop (at + k) xs) m) (at + m + k) v
      → set (paste xs at (drop (at + k) xs) m) (at + m) v ≡ paste xs at (drop (at + k) xs) (m + 1)
  down xs at k m v h e =
      let s = drop (at + k) xs in
      let l : m < length s = simp length-drop (omega arith) in
      let t : at + k + m ≡ at + m + k = omega arith in
      let r : get_or (paste xs at s m) (at + m + k) v ≡ get_or xs (at + m + k) v =
      sym (get_or-drop (at + m) (paste xs at s m) k v) ∙ ap (λ (z : List A). get_or z k v) (drop-paste xs at s m (omega arith) (omega arith)) ∙ get_or-drop (at + m) xs k v in
      let q : get_or s m v ≡ v = get_or-drop (at + k) xs m v ∙ rw t (sym (e ∙ r)) in
      ap (λ (z : A). set (paste xs at s m) (at + m) z) (sym q) ∙ paste_more xs at s m v (omega arith) l

  pub closing : (xs : List A) (at k i : ℕ) (v : A) → at ≤ i → i + k < length xs → v ≡ get_or (paste xs at (drop (at + k) xs) (i - at)) (i + k) v
      → set (paste xs at (drop (at + k) xs) (i - at)) i v ≡ paste xs at (drop (at + k) xs) (i + 1 - at)
  closing xs at k i v a h e =
      let s = drop (at + k) xs in
      let p = paste xs at s (i - at) in
      let f : at + (i - at) ≡ i = omega arith in
      let g : i - at + 1 ≡ i + 1 - at = omega arith in
      ap (λ (z : ℕ). set p z v) (sym f) ∙ down xs at k (i - at) v (omega arith) (e ∙ ap (λ (z : ℕ). get_or p (z + k) v) (sym f)) ∙ ap (paste xs at s) g

  up : (xs : List A) (k j n : ℕ) (v : A) → j + 1 + k + n ≤ length xs → v ≡ get_or (paste xs (suc (j + k)) (drop (suc j) xs) n) j v
      → set (paste xs (suc (j + k)) (drop (suc j) xs) n) (j + k) v ≡ paste xs (j + k) (drop j xs) (suc n)
  up xs k j n v h e =
      let p = take (j + k) xs in
      let y = get_or xs (j + k) v in
      let t = take n (drop (suc j) xs) in
      let d = drop (suc (j + k) + n) xs in
      let l : length p ≡ j + k = length-take-le (j + k) xs (omega arith) in
      let c : take (suc (j + k)) xs ≡ p ++ (y ∷ []) = take-suc xs (j + k) v (omega arith) in
      let w : paste xs (suc (j + k)) (drop (suc j) xs) n ≡ p ++ (y ∷ (t ++ d)) = rw (c, append_assoc, append_assoc) in
      let q : length (take (suc (j + k)) xs) ≡ suc (j + k) = length-take-le (suc (j + k)) xs (omega arith) in
      let r : v ≡ get_or xs j v =
      e ∙ ap (λ (z : List A). get_or z j v) (append_assoc (take (suc (j + k)) xs) t d)
      ∙ get_or-append (take (suc (j + k)) xs) (t ++ d) v j (omega arith) ∙ get_or-take (suc (j + k)) xs j v (omega arith) in
      let f : j + k + suc n ≡ suc (j + k) + n = omega arith in
      rw (w, drop-cons xs j v (omega arith), ← r, f, append_assoc) (set_at p y (t ++ d) v (j + k) l)

  pub opening : (xs : List A) (k total i : ℕ) (v : A) → 0 < i → i ≤ total → total + k ≤ length xs → v ≡ get_or (paste xs (i + k) (drop i xs) (total - i)) (i - 1) v
      → set (paste xs (i + k) (drop i xs) (total - i)) (i - 1 + k) v ≡ paste xs (i - 1 + k) (drop (i - 1) xs) (total - (i - 1))
  opening xs k total i v a b h e =
      let j = i - 1 in
      let n = total - i in
      let f : i ≡ suc j = omega arith in
      let c : i + k ≡ suc (j + k) = omega arith in
      let g : suc n ≡ total - j = omega arith in
      let p : paste xs (i + k) (drop i xs) n ≡ paste xs (suc (j + k)) (drop (suc j) xs) n =
      ap (λ (z : ℕ). paste xs z (drop i xs) n) c ∙ ap (λ (z : ℕ). paste xs (suc (j + k)) (drop z xs) n) f in
      ap (λ (z : List A). set z (j + k) v) p ∙ up xs k j n v (omega arith) (e ∙ ap (λ (z : List A). get_or z j v) p) ∙ ap (paste xs (j + k) (drop j xs)) g

  -- what is left behind the k goes to at
  pub closed : (xs : List A) (total at k : ℕ) → at + k ≤ total → total ≤ length xs → copy_within xs (at + k) total at ≡ over xs (gone at k (take total xs))
  unfolding over gone
  closed xs total at k h l =
      let n : length (take at xs ++ take (total - (at + k)) (drop (at + k) xs)) ≡ at + (total - (at + k)) = simp (length-append, length-take, length-drop) (omega arith) in
      rw (take-take at total xs (omega arith), part (at + k) total xs h, n)

  -- none taken out
  pub none_gone : (xs : List A) (total at : ℕ) → total ≤ length xs → xs ≡ over xs (gone at 0 (take total xs))
  unfolding over gone
  none_gone xs total at l =
      let e : at + 0 ≡ at = omega arith in
      rw (e, take-append-drop at (take total xs), length-take-le total xs l) (sym (take-append-drop total xs))

  -- room is made, and what is new is copied there
  pub put_in : (xs new : List A) (total at : ℕ) → at ≤ total → total + length new ≤ length xs → put_mid at (at + length new - at) (copy_within xs at total (at + length new)) new ≡ over xs (put at new (take total xs))
  unfolding over put
  put_in xs new total at h l =
      let m = at + length new in
      let s = take (total - at) (drop at xs) in
      let r = s ++ drop (m + (total - at)) xs in
      let w : copy_within xs at total m ≡ take m xs ++ r = append_assoc (take m xs) s (drop (m + (total - at)) xs) in
      let q : length (take m xs) ≡ m = length-take-le m xs (omega arith) in
      let a : take at (take m xs ++ r) ≡ take at xs = take-append-le at (take m xs) r (omega arith) ∙ take-take at m xs (omega arith) in
      let e : at + (m - at) ≡ m = omega arith in
      let d : drop (m - at) (drop at (take m xs ++ r)) ≡ r = drop-drop (m - at) at (take m xs ++ r) ∙ rw e (drop_at (take m xs) r m q) in
      let n : length (take at xs ++ (new ++ s)) ≡ m + (total - at) = simp (length-append, length-take, length-drop) (omega arith) in
      rw (w, a, d, take-take at total xs h, part at total xs h, n, append_assoc, append_assoc)

  -- the same of one element
  pub put_one : (xs : List A) (total at : ℕ) (new : A) → at ≤ total → total < length xs → set (copy_within xs at total (at + 1)) at new ≡ over xs (put at (new ∷ []) (take total xs))
  put_one xs total at new h l =
      let ys = copy_within xs at total (at + 1) in
      let n : at < length ys = simp (length-append, length-take, length-drop) (omega arith) in
      let e : at + 1 - at ≡ 1 = omega arith in
      let f : at + 1 ≡ suc at = omega arith in
      let m : put_mid at 1 ys (new ∷ []) ≡ set ys at new = ap (λ (z : List A). take at ys ++ (new ∷ z)) (drop-drop 1 at ys ∙ ap (λ (k : ℕ). drop k ys) f) ∙ sym (set_split ys at new n) in
      sym m ∙ ap (λ (k : ℕ). put_mid at k ys (new ∷ [])) (sym e) ∙ put_in xs (new ∷ []) total at h (omega arith)

  -- the two runs of a part change places
  pub rotated : (xs : List A) (a b c : ℕ) → a ≤ b → b ≤ c → put_mid a (c - a) xs (drop (b - a) (take (c - a) (drop a xs)) ++ take (b - a) (take (c - a) (drop a xs))) ≡ turned a b c xs
  unfolding turned slice
  rotated xs a b c h k =
      let e : a + (b - a) ≡ b = omega arith in
      let f : a + (c - a) ≡ c = omega arith in
      let u : drop (b - a) (take (c - a) (drop a xs)) ≡ drop b (take c xs) = ap (drop (b - a)) (sym (part a c xs (omega arith))) ∙ drop-drop (b - a) a (take c xs) ∙ ap (λ (m : ℕ). drop m (take c xs)) e in
      let v : take (b - a) (take (c - a) (drop a xs)) ≡ drop a (take b xs) = take-take (b - a) (c - a) (drop a xs) (omega arith) ∙ sym (part a b xs h) in
      let w : drop (c - a) (drop a xs) ≡ drop c xs = drop-drop (c - a) a xs ∙ ap (λ (m : ℕ). drop m xs) f in
      rw (u, v, w)
