-- The loop that reverses a run, and three of them that turn two runs.
-- Assumes nothing.
use mathlib.Core.Path.{◌≡◌, refl, sym, ap, ◌∙◌}
use mathlib.Core.List.{List, [], ◌∷◌, ◌++◌, append_assoc, reverse, reverse-cons, reverse-append, reverse-reverse}
use Prim.Native.Nat.{ℕ, suc, ◌+◌, ◌-◌, ◌<◌, ◌≤◌}
use native.Mathlib.Omega.{arith}
use lib.ListN.{length, get_or, take, drop, set, length-append, length-set, length-reverse, length-take, length-drop, take-append-drop}
use lib.Seq.{set_at, get_or_at, take_at, drop_at, drop-append-le, length-take-le}
use Rattle.moves_model.specs.Lists.{slice, rev, reversed, turned}

module _ {A : Type 0} where
  rev_ends : (x : A) (w : List A) (y : A) → rev (x ∷ (w ++ (y ∷ []))) ≡ y ∷ (rev w ++ (x ∷ []))
  unfolding rev
  rev_ends x w y = reverse-cons x (w ++ (y ∷ [])) ∙ ap (λ (l : List A). l ++ (x ∷ [])) (reverse-append w (y ∷ []))

  rev_small : (m : List A) → length m ≤ 1 → rev m ≡ m
  unfolding rev
  rev_small [] h = refl
  rev_small (x ∷ []) h = refl
  rev_small (x ∷ y ∷ m) h = absurd (omega arith)

  rev-length : (m : List A) → length (rev m) ≡ length m
  unfolding rev
  rev-length m = length-reverse m

  rev-rev : (x y : List A) → rev (rev x ++ rev y) ≡ y ++ x
  unfolding rev
  rev-rev x y = reverse-append (reverse x) (reverse y) ∙ ap (λ (l : List A). l ++ reverse (reverse x)) (reverse-reverse y) ∙ ap (λ (l : List A). y ++ l) (reverse-reverse x)

  flip_at : (p x r : List A) (a b : ℕ) → length p ≡ a → length p + length x ≡ b → reversed a b (p ++ (x ++ r)) ≡ p ++ (rev x ++ r)
  unfolding reversed slice
  flip_at p x r a b e f =
      let l : length (p ++ x) ≡ b = length-append p x ∙ f in
      let s = sym (append_assoc p x r) in
      let t : take b (p ++ (x ++ r)) ≡ p ++ x = rw s (take_at (p ++ x) r b l) in
      let d : drop b (p ++ (x ++ r)) ≡ r = rw s (drop_at (p ++ x) r b l) in
      rw (t, d, take_at p (x ++ r) a e, drop_at p x a e)

  three_at : (p x y s : List A) (a b c : ℕ) → length p ≡ a → length p + length x ≡ b → length p + (length x + length y) ≡ c
      → reversed a c (reversed b c (reversed a b (p ++ (x ++ (y ++ s))))) ≡ p ++ ((y ++ x) ++ s)
  three_at p x y s a b c e f g =
      let n = rev-length x in
      let m = rev-length y in
      rw (flip_at p x (y ++ s) a b e f, ← (append_assoc p (rev x) (y ++ s)))
      (rw (flip_at (p ++ rev x) y s b c (simp length-append (omega arith)) (simp length-append (omega arith)), append_assoc p (rev x) (rev y ++ s), ← (append_assoc (rev x) (rev y) s))
      (flip_at p (rev x ++ rev y) s a c e (simp length-append (omega arith)) ∙ rw (rev-rev x y)))

  -- ── the parts of a list ──

  tail : (xs : List A) (b c : ℕ) → b ≤ c → c ≤ length xs → drop b xs ≡ slice b c xs ++ drop c xs
  unfolding slice
  tail xs b c k l =
      ap (drop b) (sym (take-append-drop c xs)) ∙ drop-append-le b (take c xs) (drop c xs) (omega (arith, length-take-le c xs l))

  slice_length : (xs : List A) (f t : ℕ) → t ≤ length xs → length (slice f t xs) ≡ t - f
  unfolding slice
  slice_length xs f t h = simp (length-drop, length-take) (omega arith)

  split : (xs : List A) (f t : ℕ) → f ≤ t → t ≤ length xs → xs ≡ take f xs ++ (slice f t xs ++ drop t xs)
  split xs f t h l = sym (take-append-drop f xs) ∙ ap (λ (z : List A). take f xs ++ z) (tail xs f t h l)

  pub three : (xs : List A) (a b c : ℕ) → a ≤ b → b ≤ c → c ≤ length xs → reversed a c (reversed b c (reversed a b xs)) ≡ turned a b c xs
  unfolding turned
  three xs a b c h k l =
      let p = length-take-le a xs (omega arith) in
      let x = slice_length xs a b (omega arith) in
      let y = slice_length xs b c l in
      let e : xs ≡ take a xs ++ (slice a b xs ++ (slice b c xs ++ drop c xs)) = split xs a b h (omega arith) ∙ ap (λ (z : List A). take a xs ++ (slice a b xs ++ z)) (tail xs b c k l) in
      ap (λ (z : List A). reversed a c (reversed b c (reversed a b z))) e
      ∙ three_at (take a xs) (slice a b xs) (slice b c xs) (drop c xs) a b c p (omega arith) (omega arith)

-- ── the loop: m, of d elements, is what is left to reverse ──

pub record Flip {A : Type 0} (xs₀ : List A) (from to : ℕ) (xs : List A) (i d : ℕ) : Type 0 where
  pub kept : length xs ≡ length xs₀
  p : List A
  m : List A
  s : List A
  is : xs ≡ p ++ (m ++ s)
  goal : reversed from to xs₀ ≡ p ++ (rev m ++ s)
  pub at : length p ≡ i
  pub left : length m ≡ d

module _ {A : Type 0} where
  pub flip_none : (xs : List A) (from to : ℕ) → from ≤ to → to ≤ length xs → Flip xs from to xs from (to - from)
  unfolding reversed
  flip_none xs from to h k =
      record {
        kept = refl;
        p = take from xs;
        m = slice from to xs;
        s = drop to xs;
        is = split xs from to h k;
        goal = refl;
        at = length-take-le from xs (omega arith);
        left = slice_length xs from to k;
      }

  abbrev Ends : List A → Type 0
  Ends m = (x : A) × (w : List A) × (y : A) × (m ≡ x ∷ (w ++ (y ∷ [])))

  snoc : (b : A) (l : List A) → (w : List A) × (y : A) × (b ∷ l ≡ w ++ (y ∷ []))
  snoc b [] = ([], b, refl)
  snoc b (c ∷ l) = let s = snoc c l in (b ∷ s.0, s.1, ap (λ (r : List A). b ∷ r) s.2)

  ends : (m : List A) → 1 < length m → Ends m
  ends [] h = absurd (omega arith)
  ends (x ∷ []) h = absurd (omega arith)
  ends (x ∷ b ∷ l) h = let s = snoc b l in (x, s.0, s.1, ap (λ (r : List A). x ∷ r) s.2)

  -- the two ends of the middle exchanged
  swap : (p w s : List A) (x y u v : A) (i j : ℕ) → length p ≡ i → j ≡ i + (length w + 1)
      → (let xs = p ++ (x ∷ (w ++ (y ∷ s))) in u ≡ get_or xs i u → v ≡ get_or xs j v → set (set xs i v) j u ≡ p ++ (y ∷ (w ++ (x ∷ s))))
  swap p w s x y u v i j e f g h =
      let l : (z : A) → length (p ++ (z ∷ w)) ≡ j = λ z. simp length-append (omega arith) in
      let a : (z t : A) → p ++ (z ∷ (w ++ (t ∷ s))) ≡ (p ++ (z ∷ w)) ++ (t ∷ s) = λ z t. sym (append_assoc p (z ∷ w) (t ∷ s)) in
      let q : u ≡ x = g ∙ get_or_at p x (w ++ (y ∷ s)) u i e in
      let r : v ≡ y = h ∙ ap (λ (z : List A). get_or z j v) (a x y) ∙ get_or_at (p ++ (x ∷ w)) y s v j (l x) in
      rw (q, r, set_at p x (w ++ (y ∷ s)) y i e, a y y, set_at (p ++ (y ∷ w)) y s x j (l y), append_assoc)

  pub flip_turn : {xs₀ xs : List A} {from to i d : ℕ} (j : ℕ) (u v : A) → 1 < d → j ≡ i + (d - 1) → u ≡ get_or xs i u → v ≡ get_or xs j v → Flip xs₀ from to xs i d
      → Flip xs₀ from to (set (set xs i v) j u) (i + 1) (d - 2)
  flip_turn {xs₀} {xs} {from} {to} {i} {d} j u v h e at_i at_j r = go (ends r.m (omega (arith, r.left)))
    where
      go : Ends r.m → Flip xs₀ from to (set (set xs i v) j u) (i + 1) (d - 2)
      go (x, w, y, f) =
          let l : suc (length w + 1) ≡ d = sym (simp length-append at (ap length f)) ∙ r.left in
          let q : xs ≡ r.p ++ (x ∷ (w ++ (y ∷ r.s))) = r.is ∙ rw (f, append_assoc) in
          record {
            kept = simp length-set r.kept;
            p = r.p ++ (y ∷ []);
            m = w;
            s = x ∷ r.s;
            is = ap (λ (z : List A). set (set z i v) j u) q ∙ swap r.p w r.s x y u v i j r.at (omega arith) (at_i ∙ ap (λ (z : List A). get_or z i u) q) (at_j ∙ ap (λ (z : List A). get_or z j v) q) ∙ sym (append_assoc r.p (y ∷ []) (w ++ (x ∷ r.s)));
            goal = r.goal ∙ rw (f, rev_ends) (simp append_assoc);
            at = simp length-append (omega (arith, r.at));
            left = omega arith;
          }

  pub flip_done : {xs₀ xs : List A} {from to i d : ℕ} → d ≤ 1 → Flip xs₀ from to xs i d → xs ≡ reversed from to xs₀
  flip_done h r = r.is ∙ sym (r.goal ∙ ap (λ (l : List A). r.p ++ (l ++ r.s)) (rev_small r.m (omega (arith, r.left))))
