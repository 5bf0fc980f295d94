-- An order and a merge of entries that are mapped are mapped ones themselves; and messages picked, part by part.
-- Assumes nothing.
use mathlib.Core.Path.{◌≡◌, refl, sym, ap, ◌∙◌}
use mathlib.Core.List.{List, [], ◌∷◌, ◌++◌, map, nil≢cons, cons≢nil, head-eq_of_cons-eq, tail-eq_of_cons-eq}
use Prim.Native.Nat.{ℕ, zero, suc, ◌+◌, ◌<◌, ◌≤◌}
use native.Mathlib.Omega.{arith}
use lib.ListN.{take, drop}
use Rattle.arrival_plan.specs.Plan.{Msg, Message, message, in_order, Order, none_left, one_of, Merge, neither, left, right}
use Rattle.arrival_plan.proofs.Maps.{map-append}
use Rattle.skips_plan.proofs.Runs.{Picks, no_more, takes, leaves}

module _ {A B : Type 0} (f : A → B) where
  -- a list in front of another
  pub record Two (a b : List B) (l : List A) : Type 0 where
    pub first : List A
    pub second : List A
    pub is : l ≡ first ++ second
    pub first-is : a ≡ map f first
    pub second_is : b ≡ map f second

  pub two : (a b : List B) (l : List A) → a ++ b ≡ map f l → Two a b l
  two [] b l e = record { first = []; second = l; is = refl; first-is = refl; second_is = e }
  two (x ∷ a) b [] e = absurd (cons≢nil e)
  two (x ∷ a) b (y ∷ l) e =
      let t = two a b l (tail-eq_of_cons-eq e) in
      record {
        first = y ∷ t.first;
        second = t.second;
        is = ap (λ (r : List A). y ∷ r) t.is;
        first-is = λ i. ◌∷◌ (head-eq_of_cons-eq e i) (t.first-is i);
        second_is = t.second_is;
      }

  -- an order
  pub record Unmapped (l : List B) (r : List A) : Type 0 where
    pub list : List A
    pub is : l ≡ map f list
    pub order : Order A list r

  unmap_one : {l : List B} (xs : List B) (a : B) (ys : List B) (first second : List A) → xs ≡ map f first → a ∷ ys ≡ map f second
      → ((r : List A) → xs ++ ys ≡ map f r → Unmapped l r) → Unmapped (a ∷ l) (first ++ second)
  unmap_one xs a ys first [] e g ih = absurd (cons≢nil g)
  unmap_one xs a ys first (x ∷ second) e g ih =
      let u = ih (first ++ second) ((λ i. e i ++ tail-eq_of_cons-eq g i) ∙ sym (map-append f first second)) in
      record { list = x ∷ u.list; is = λ i. ◌∷◌ (head-eq_of_cons-eq g i) (u.is i); order = one_of first x second u.order }

  pub order_unmap : {l m : List B} → Order B l m → (r : List A) → m ≡ map f r → Unmapped l r
  order_unmap none_left [] e = record { list = []; is = refl; order = none_left }
  order_unmap none_left (x ∷ r) e = absurd (nil≢cons e)
  order_unmap (one_of xs a ys {l} o) r e =
      let t = two xs (a ∷ ys) r e in
      rw t.is (unmap_one xs a ys t.first t.second t.first-is t.second_is (λ k g. order_unmap o k g))

  -- a merge
  pub record Unmerged (a b : List B) (r : List A) : Type 0 where
    pub first : List A
    pub second : List A
    pub first-is : a ≡ map f first
    pub second_is : b ≡ map f second
    pub merge : Merge A first second r

  pub merge_unmap : {a b m : List B} → Merge B a b m → (r : List A) → m ≡ map f r → Unmerged a b r
  merge_unmap neither [] e = record { first = []; second = []; first-is = refl; second_is = refl; merge = neither }
  merge_unmap neither (x ∷ r) e = absurd (nil≢cons e)
  merge_unmap (left g) [] e = absurd (cons≢nil e)
  merge_unmap (right g) [] e = absurd (cons≢nil e)
  merge_unmap (left g) (x ∷ r) e =
      let u = merge_unmap g r (tail-eq_of_cons-eq e) in
      record { first = x ∷ u.first; second = u.second; first-is = λ i. ◌∷◌ (head-eq_of_cons-eq e i) (u.first-is i); second_is = u.second_is; merge = left u.merge }
  merge_unmap (right g) (x ∷ r) e =
      let u = merge_unmap g r (tail-eq_of_cons-eq e) in
      record { first = u.first; second = x ∷ u.second; first-is = u.first-is; second_is = λ i. ◌∷◌ (head-eq_of_cons-eq e i) (u.second_is i); merge = right u.merge }

-- and then more of the first
module _ {A : Type 0} where
  merge_all : (c : List A) → Merge A c [] c
  merge_all [] = neither
  merge_all (x ∷ c) = left (merge_all c)

  pub merge_on : {a b m : List A} (c : List A) → Merge A a b m → Merge A (a ++ c) b (m ++ c)
  merge_on c neither = merge_all c
  merge_on c (left g) = left (merge_on c g)
  merge_on c (right g) = right (merge_on c g)

-- ── messages picked ──

-- with the others they are all
pub record Left (P : Message → Type 0) (t l : List Message) : Type 0 where
  pub others : List Message
  pub merge : Merge Message t others l

pub left_out : {P : Message → Type 0} {l t : List Message} → Picks P l t → Left P t l
left_out no_more = record { others = []; merge = neither }
left_out (takes k) = let e = left_out k in record { others = e.others; merge = left e.merge }
left_out (leaves {m} h k) = let e = left_out k in record { others = m ∷ e.others; merge = right e.merge }

-- some of the first d, and all of the others
pub record Parts (d n : ℕ) (os : List Msg) (l : List Message) : Type 0 where
  pub some : List Message
  pub others : List Message
  pub is : l ≡ some ++ in_order (n + d) (drop d os)
  pub parted : Merge Message some others (in_order n (take d os))

module _ (P : Message → Type 0) (bound : ℕ) (low : (m : Message) → P m → m.ssn < bound) where
  all_come : (n : ℕ) (os : List Msg) {l : List Message} → bound ≤ n → Picks P (in_order n os) l → l ≡ in_order n os
  all_come n [] h no_more = refl
  all_come n (m ∷ os) h (takes k) = ap (λ (r : List Message). message n m ∷ r) (all_come (suc n) os (omega arith) k)
  all_come n (m ∷ os) h (leaves e k) = absurd (omega (arith, low (message n m) e))

  pub parts : (d n : ℕ) (os : List Msg) {l : List Message} → bound ≤ n + d → Picks P (in_order n os) l → Parts d n os l
  parts zero n os h k = let e : n + 0 ≡ n = omega arith in record { some = []; others = []; is = rw e (all_come n os (omega arith) k); parted = neither }
  parts (suc d) n [] h no_more = record { some = []; others = []; is = refl; parted = neither }
  parts (suc d) n (m ∷ os) h (takes k) =
      let e : n + suc d ≡ suc n + d = omega arith in
      let p = parts d (suc n) os (omega arith) k in
      record { some = message n m ∷ p.some; others = p.others; is = rw e (ap (λ (r : List Message). message n m ∷ r) p.is); parted = left p.parted }
  parts (suc d) n (m ∷ os) h (leaves g k) =
      let e : n + suc d ≡ suc n + d = omega arith in
      let p = parts d (suc n) os (omega arith) k in
      record { some = p.some; others = message n m ∷ p.others; is = rw e p.is; parted = right p.parted }
