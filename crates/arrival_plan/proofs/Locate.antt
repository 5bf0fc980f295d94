-- Where the next chunk stands among those that are due.
-- Assumes nothing.
use mathlib.Core.Path.{◌≡◌, refl, sym, ap, ◌∙◌}
use mathlib.Core.Bool.{true, false}
use mathlib.Core.List.{List, [], ◌∷◌, ◌++◌, map, append_assoc, nil≢cons, head-eq_of_cons-eq, tail-eq_of_cons-eq}
use mathlib.Core.Logic.{◌⊎◌, inl, inr}
use Prim.Native.Nat.{ℕ}
use Rattle.fragments.specs.Frag.{Frag}
use Rattle.arrival_plan.specs.Plan.{Carried, chunk, Order, none_left, one_of}
use Rattle.arrival_plan.proofs.Shape.{Mark, came, due, missing}
use Rattle.arrival_plan.proofs.Loose.{Part, part, missing-of, was, is}

-- ── the first of an order ──

pub order_nil : {A : Type 0} {l : List A} → Order A [] l → l ≡ []
order_nil none_left = refl

pub record Picked (A : Type 0) (a : A) (r l : List A) : Type 0 where
  pub front : List A
  pub back : List A
  pub is : l ≡ front ++ a ∷ back
  pub others : Order A r (front ++ back)

pub order_cons : {A : Type 0} {a : A} {r l : List A} → Order A (a ∷ r) l → Picked A a r l
order_cons (one_of xs a ys o) = record { front = xs; back = ys; is = refl; others = o }

-- ── a chunk of the ordered ones, or of the others ──

-- a list with an element has an element
no_nil : {A : Type 0} (xs : List A) (a : A) (ys : List A) → ◌≡◌ {A = List A} [] (xs ++ a ∷ ys) → ⊥
no_nil [] a ys e = nil≢cons e
no_nil (x ∷ xs) a ys e = nil≢cons e

pub record At (g : Frag → Carried) (c : Carried) (l : List Frag) (whole : List Frag → List Carried) (others : List Carried) : Type 0 where
  pub front : List Frag
  pub it : Frag
  pub back : List Frag
  pub is : l ≡ front ++ it ∷ back
  pub chunk-is : c ≡ g it
  pub others_are : others ≡ whole (front ++ back)

at_map : (g : Frag → Carried) (l : List Frag) (xs : List Carried) (c : Carried) (ys : List Carried) → map g l ≡ xs ++ c ∷ ys → At g c l (λ (r : List Frag). map g r) (xs ++ ys)
at_map g [] xs c ys e = absurd (no_nil xs c ys e)
at_map g (f ∷ l) [] c ys e = record { front = []; it = f; back = l; is = refl; chunk-is = sym (head-eq_of_cons-eq e); others_are = sym (tail-eq_of_cons-eq e) }
at_map g (f ∷ l) (x ∷ xs) c ys e =
    let i = at_map g l xs c ys (tail-eq_of_cons-eq e) in
    record {
      front = f ∷ i.front;
      it = i.it;
      back = i.back;
      is = ap (λ (r : List Frag). f ∷ r) i.is;
      chunk-is = i.chunk-is;
      others_are = λ j. ◌∷◌ (sym (head-eq_of_cons-eq e) j) (i.others_are j);
    }

-- the chunks of a plan, by the fragments of its two kinds
abbrev pub chunks : List Frag → List Frag → List Carried
chunks os us = map (chunk false) os ++ map (chunk true) us

pub at-chunks : (os us : List Frag) (xs : List Carried) (c : Carried) (ys : List Carried) → chunks os us ≡ xs ++ c ∷ ys
    → At (chunk false) c os (λ (r : List Frag). chunks r us) (xs ++ ys) ⊎ At (chunk true) c us (λ (r : List Frag). chunks os r) (xs ++ ys)
at-chunks [] us xs c ys e = inr (at_map (chunk true) us xs c ys e)
at-chunks (f ∷ os) us [] c ys e = inl (record { front = []; it = f; back = os; is = refl; chunk-is = sym (head-eq_of_cons-eq e); others_are = sym (tail-eq_of_cons-eq e) })
at-chunks (f ∷ os) us (x ∷ xs) c ys e = go (at-chunks os us xs c ys (tail-eq_of_cons-eq e))
  where
    go : At (chunk false) c os (λ (r : List Frag). chunks r us) (xs ++ ys) ⊎ At (chunk true) c us (λ (r : List Frag). chunks os r) (xs ++ ys)
        → At (chunk false) c (f ∷ os) (λ (r : List Frag). chunks r us) (x ∷ (xs ++ ys)) ⊎ At (chunk true) c us (λ (r : List Frag). chunks (f ∷ os) r) (x ∷ (xs ++ ys))
    go (inl i) =
        inl (record {
          front = f ∷ i.front;
          it = i.it;
          back = i.back;
          is = ap (λ (r : List Frag). f ∷ r) i.is;
          chunk-is = i.chunk-is;
          others_are = λ j. ◌∷◌ (sym (head-eq_of_cons-eq e) j) (i.others_are j);
        })
    go (inr i) =
        inr (record {
          front = i.front;
          it = i.it;
          back = i.back;
          is = i.is;
          chunk-is = i.chunk-is;
          others_are = λ j. ◌∷◌ (sym (head-eq_of_cons-eq e) j) (i.others_are j);
        })

-- ── its message ──

record In-marks (l : List Mark) (r x : List Frag) (f : Frag) (y : List Frag) : Type 0 where
  u : List Mark
  v : List Mark
  is : l ≡ u ++ due f ∷ v
  others : missing (u ++ came f ∷ v) ++ r ≡ x ++ y

record Behind (l : List Mark) (r x : List Frag) (f : Frag) (y : List Frag) : Type 0 where
  z : List Frag
  is : x ≡ missing l ++ z
  others : r ≡ z ++ f ∷ y

in_marks : (l : List Mark) (r x : List Frag) (f : Frag) (y : List Frag) → missing l ++ r ≡ x ++ f ∷ y → In-marks l r x f y ⊎ Behind l r x f y
in_marks [] r x f y e = inr (record { z = x; is = refl; others = e })
in_marks (came w ∷ l) r x f y e = go (in_marks l r x f y e)
  where
    go : In-marks l r x f y ⊎ Behind l r x f y → In-marks (came w ∷ l) r x f y ⊎ Behind (came w ∷ l) r x f y
    go (inl i) = inl (record { u = came w ∷ i.u; v = i.v; is = ap (λ (k : List Mark). came w ∷ k) i.is; others = i.others })
    go (inr i) = inr (record { z = i.z; is = i.is; others = i.others })
in_marks (due w ∷ l) r [] f y e =
    inl (record { u = []; v = l; is = ap (λ (k : Frag). due k ∷ l) (head-eq_of_cons-eq e); others = tail-eq_of_cons-eq e })
in_marks (due w ∷ l) r (k ∷ x) f y e = go (in_marks l r x f y (tail-eq_of_cons-eq e))
  where
    go : In-marks l r x f y ⊎ Behind l r x f y → In-marks (due w ∷ l) r (k ∷ x) f y ⊎ Behind (due w ∷ l) r (k ∷ x) f y
    go (inl i) =
        inl (record {
          u = due w ∷ i.u;
          v = i.v;
          is = ap (λ (m : List Mark). due w ∷ m) i.is;
          others = λ j. ◌∷◌ (head-eq_of_cons-eq e j) (i.others j);
        })
    go (inr i) = inr (record { z = i.z; is = λ j. ◌∷◌ (sym (head-eq_of_cons-eq e) j) (i.is j); others = i.others })

pub record In-parts (ps : List Part) (x : List Frag) (f : Frag) (y : List Frag) : Type 0 where
  pub a : List Part
  pub o : ℕ
  pub i : ℕ
  pub u : List Mark
  pub v : List Mark
  pub b : List Part
  pub before : ps ≡ was a o i u f v b
  pub after : missing-of (is a o i u f v b) ≡ x ++ y

pub in_parts : (ps : List Part) (x : List Frag) (f : Frag) (y : List Frag) → missing-of ps ≡ x ++ f ∷ y → In-parts ps x f y
in_parts [] x f y e = absurd (no_nil x f y e)
in_parts (p ∷ ps) x f y e = go (in_parts ps) (in_marks p.marks (missing-of ps) x f y e)
  where
    go : ((z : List Frag) (g : Frag) (w : List Frag) → missing-of ps ≡ z ++ g ∷ w → In-parts ps z g w) → In-marks p.marks (missing-of ps) x f y ⊎ Behind p.marks (missing-of ps) x f y → In-parts (p ∷ ps) x f y
    go ih (inl m) =
        record {
          a = [];
          o = p.first;
          i = p.ppi;
          u = m.u;
          v = m.v;
          b = ps;
          before = ap (λ (l : List Mark). part p.first p.ppi l ∷ ps) m.is;
          after = m.others;
        }
    go ih (inr m) =
        let r = ih m.z f y m.others in
        record {
          a = p ∷ r.a;
          o = r.o;
          i = r.i;
          u = r.u;
          v = r.v;
          b = r.b;
          before = ap (λ (l : List Part). p ∷ l) r.before;
          after = ap (λ (l : List Frag). missing p.marks ++ l) r.after ∙ sym (append_assoc (missing p.marks) m.z y) ∙ ap (λ (l : List Frag). l ++ y) (sym m.is);
        }
