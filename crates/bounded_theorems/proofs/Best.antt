-- What a pass keeps is the best, and there is one best alone: where better is the order of a rank.
-- Assumes nothing.
use mathlib.Core.Path.{◌≡◌, refl, sym, ◌∙◌}
use mathlib.Core.Bool.{Bool, true, false, cond}
use mathlib.Core.Logic.{◌↔◌, ◌⊎◌, inl, inr, ⊎_elim}
use mathlib.Core.List.Memᴰ
use mathlib.Core.List.{List, [], ◌∷◌, Memᴰ}
use mathlib.Core.Option.{Option, none, some}
use Prim.Native.Nat.{ℕ, suc, ◌-◌, ◌^◌, ◌<◌, ◌≤◌}
use native.Mathlib.Omega.{arith}
use lib.Dec.{ltb}
use borrow.Author.Tests.{ltb-true, ltb-false, lt-ltb, le-ltb}
use Rattle.serial_model.specs.Serial.{ahead}
use Rattle.serial_model.specs.Facts.{arc_order, plus-ahead}
use Rattle.set_reach.specs.Kept.{keeps, kept, lower, higher}
use Rattle.bounded_theorems.specs.Conditions.{OnArc, Best, NoSuch}

-- better is the order of a rank, for numbers that are on
pub record Ranked (On : ℕ → Type 0) (better : ℕ → ℕ → Bool) : Type 0 where
  pub rank : ℕ → ℕ
  pub order : (m n : ℕ) → On m → On n → better m n ≡ ltb (rank m) (rank n)
  pub one : (m n : ℕ) → On m → On n → rank m ≡ rank n → m ≡ n

-- ── an arc ranks ──

module _ (m base : ℕ) (fits : base < 2 ^ suc m) where
  same_offset : (a b : ℕ) → OnArc m base a → OnArc m base b → ahead (suc m) base a ≡ ahead (suc m) base b → a ≡ b
  same_offset a b p q e = sym (plus-ahead (suc m) base a fits p.0) ∙ rw e (plus-ahead (suc m) base b fits q.0)

  pub lower_ranked : Ranked (OnArc m base) (lower (suc m))
  lower_ranked =
      record {
        rank = ahead (suc m) base;
        order = λ a b p q. arc_order m base a b fits p.0 q.0 p.1 q.1;
        one = same_offset;
      }

  flip : (x y : ℕ) → x < 2 ^ m → y < 2 ^ m → ltb y x ≡ ltb (2 ^ m - x) (2 ^ m - y)
  flip x y p q = go (ltb y x) refl
    where
      go : (b : Bool) → ltb y x ≡ b → b ≡ ltb (2 ^ m - x) (2 ^ m - y)
      go true e = let h = ltb-true y x e in sym (lt-ltb (2 ^ m - x) (2 ^ m - y) (omega arith))
      go false e = let h = ltb-false y x e in sym (le-ltb (2 ^ m - x) (2 ^ m - y) (omega arith))

  pub higher_ranked : Ranked (OnArc m base) (higher (suc m))
  higher_ranked =
      record {
        rank = λ a. 2 ^ m - ahead (suc m) base a;
        order = λ a b p q. arc_order m base b a fits q.0 p.0 q.1 p.1 ∙ flip (ahead (suc m) base a) (ahead (suc m) base b) p.1 q.1;
        one = λ a b p q e. same_offset a b p q (let x = p.1 in let y = q.1 in omega arith);
      }

-- ── the pass ──

module _ {On : ℕ → Type 0} {better : ℕ → ℕ → Bool} (r : Ranked On better) where
  -- the one that is kept is one of them, and none has a lower rank
  abbrev Keeps : ℕ → List ℕ → ℕ → Type 0
  Keeps n ns k = Memᴰ k (n ∷ ns) × ((m : ℕ) → Memᴰ m (n ∷ ns) → r.rank k ≤ r.rank m)

  keeps_on : (n m : ℕ) (ms : List ℕ) (b : Bool) → better m n ≡ b → On m → On n → (k : ℕ) → Keeps (cond b m n) ms k → Keeps n (m ∷ ms) k
  keeps_on n m ms true e om on k h =
      let l = ltb-true (r.rank m) (r.rank n) (sym (r.order m n om on) ∙ e) in
      let a = h.1 m (Memᴰ.head refl) in (
        Memᴰ.tail h.0,
        λ x i. ⊎_elim (λ z. rw z (omega arith)) (λ j. h.1 x j) (Memᴰ.cases_cons i),
      )
  keeps_on n m ms false e om on k h =
      let l = ltb-false (r.rank m) (r.rank n) (sym (r.order m n om on) ∙ e) in
      let a = h.1 n (Memᴰ.head refl) in (
        ⊎_elim (λ z. Memᴰ.head z) (λ j. Memᴰ.tail (Memᴰ.tail j)) (Memᴰ.cases_cons h.0),
        λ x i. ⊎_elim (λ z. h.1 x (Memᴰ.head z)) (λ j. ⊎_elim (λ z. rw z (omega arith)) (λ u. h.1 x (Memᴰ.tail u)) (Memᴰ.cases_cons j)) (Memᴰ.cases_cons i),
      )

  picked-on : (b : Bool) (n m : ℕ) → On m → On n → On (cond b m n)
  picked-on true n m om on = om
  picked-on false n m om on = on

  keeps_best : (n : ℕ) (ns : List ℕ) → ((m : ℕ) → Memᴰ m (n ∷ ns) → On m) → Keeps n ns (keeps better n ns)
  unfolding keeps
  keeps_best n [] all = (Memᴰ.head refl, λ m i. ⊎_elim (λ z. rw z (omega arith)) (λ j. absurd (Memᴰ.not-nil j)) (Memᴰ.cases_cons i))
  keeps_best n (m ∷ ms) all =
      let on = all n (Memᴰ.head refl) in
      let om = all m (Memᴰ.tail (Memᴰ.head refl)) in
      keeps_on n m ms (better m n) refl om on _
      (keeps_best (cond (better m n) m n) ms
      (λ x i. ⊎_elim (λ z. rw z (picked-on (better m n) n m om on)) (λ j. all x (Memᴰ.tail (Memᴰ.tail j))) (Memᴰ.cases_cons i)))

  module _ {Is : ℕ → Type 0} (on : (n : ℕ) → Is n → On n) where
    -- there is one best alone
    pub best_one : (a b : ℕ) → Best better Is a → Best better Is b → a ≡ b
    best_one a b p q =
        let x = ltb-false (r.rank b) (r.rank a) (sym (r.order b a (on b q.0) (on a p.0)) ∙ p.1 b q.0) in
        let y = ltb-false (r.rank a) (r.rank b) (sym (r.order a b (on a p.0) (on b q.0)) ∙ q.1 a p.0) in
        r.one a b (on a p.0) (on b q.0) (omega arith)

    module _ (ns : List ℕ) (is : (n : ℕ) → Memᴰ n ns ↔ Is n) where
      -- what a pass keeps is it; nothing is kept where there is none
      pub kept_best : ((n : ℕ) × Best better Is n × ◌≡◌ {A = Option ℕ} (kept better ns) (some n)) ⊎ (NoSuch Is × ◌≡◌ {A = Option ℕ} (kept better ns) none)
      unfolding kept
      kept_best = go ns is
        where
          go : (ns : List ℕ) → ((n : ℕ) → Memᴰ n ns ↔ Is n) → ((n : ℕ) × Best better Is n × ◌≡◌ {A = Option ℕ} (kept better ns) (some n)) ⊎ (NoSuch Is × ◌≡◌ {A = Option ℕ} (kept better ns) none)
          go [] is = inr ((λ n i. Memᴰ.not-nil ((is n).1 i)), refl)
          go (n ∷ ns) is =
              let h = keeps_best n ns (λ m i. on m ((is m).0 i)) in
              let k = keeps better n ns in
              let ik = (is k).0 h.0 in
              inl (k, (ik, λ m im. r.order m k (on m im) (on k ik) ∙ le-ltb (r.rank m) (r.rank k) (h.1 m ((is m).1 im))), refl)
