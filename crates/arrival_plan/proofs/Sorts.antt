-- The unordered messages may be listed in any order: sorted, they lie as in the arc, and an order of the one list is an order of the other.
-- Assumes nothing.
use mathlib.Core.Path.{◌≡◌, refl, sym, ap, subst, ◌∙◌}
use mathlib.Core.Bool.{Bool, true, false, cond}
use mathlib.Core.List.{List, [], ◌∷◌, ◌++◌, map, map-append, append_assoc, head-eq_of_cons-eq, tail-eq_of_cons-eq}
use mathlib.Core.Logic.{◌⊎◌, inl, inr}
use Prim.Native.Nat.{ℕ, ◌+◌, ◌<◌, ◌≤◌}
use native.Mathlib.Omega.{arith}
use lib.Dec.{leb}
use lib.ListN.{length}
use borrow.Author.Tests.{leb-true, leb-false}
use Rattle.fragments.specs.Frag.{Frag}
use Rattle.reassembly_state.specs.Model.{readable}
use Rattle.arrival_plan.specs.Plan.{Msg, Cut, Whole, Apart, Unordered, Plan, Carried, chunk, frags_of, chunks_of, Message, message, Event, pushes, final, out, Roomy, Order, none_left, one_of, Came, starts, Unrefused}
use Rattle.arrival_plan.proofs.Loose.{Listed}
use Rattle.arrival_plan.proofs.Arrived.{append-nil-both, arrival-listed}

-- ── orders of two blocks that change places ──

module _ {A : Type 0} where
  pub record In-first (xs : List A) (c : A) (ys p q : List A) : Type 0 where
    pub rest : List A
    pub is : p ≡ xs ++ c ∷ rest
    pub others : ys ≡ rest ++ q

  pub record In-second (xs : List A) (c : A) (ys p q : List A) : Type 0 where
    pub front : List A
    pub is : xs ≡ p ++ front
    pub others : q ≡ front ++ c ∷ ys

  pub which : (xs : List A) (c : A) (ys p q : List A) → xs ++ c ∷ ys ≡ p ++ q → In-first xs c ys p q ⊎ In-second xs c ys p q
  which xs c ys [] q e = inr (record { front = xs; is = refl; others = sym e })
  which [] c ys (b ∷ p) q e = inl (record { rest = p; is = λ i. ◌∷◌ (sym (head-eq_of_cons-eq e) i) p; others = tail-eq_of_cons-eq e })
  which (x ∷ xs) c ys (b ∷ p) q e = go (which xs c ys p q (tail-eq_of_cons-eq e))
    where
      go : In-first xs c ys p q ⊎ In-second xs c ys p q → In-first (x ∷ xs) c ys (b ∷ p) q ⊎ In-second (x ∷ xs) c ys (b ∷ p) q
      go (inl i) = inl (record { rest = i.rest; is = λ j. ◌∷◌ (sym (head-eq_of_cons-eq e) j) (i.is j); others = i.others })
      go (inr i) = inr (record { front = i.front; is = λ j. ◌∷◌ (head-eq_of_cons-eq e j) (i.is j); others = i.others })

  -- one more, at a place
  at_place : {l : List A} (xs : List A) (c : A) (ys k m : List A) → Order A l k → k ≡ xs ++ ys → xs ++ c ∷ ys ≡ m → Order A (c ∷ l) m
  at_place {l} xs c ys k m o e g = subst (λ (r : List A). Order A (c ∷ l) r) g (one_of xs c ys (subst (λ (r : List A). Order A l r) e o))

  abbrev pub Swaps : List A → List A → Type 0
  Swaps l k = (a x y b : List A) → k ≡ a ++ (x ++ (y ++ b)) → Order A l (a ++ (y ++ (x ++ b)))

  module _ (l xs : List A) (c : A) (ys : List A) (ih : Swaps l (xs ++ ys)) (a x y b : List A) where
    in_a : In-first xs c ys a (x ++ (y ++ b)) → Order A (c ∷ l) (a ++ (y ++ (x ++ b)))
    in_a i =
        let r = i.rest in
        let e : xs ++ ys ≡ (xs ++ r) ++ (x ++ (y ++ b)) = rw i.others (simp append_assoc) in
        at_place xs c (r ++ (y ++ (x ++ b))) ((xs ++ r) ++ (y ++ (x ++ b))) (a ++ (y ++ (x ++ b))) (ih (xs ++ r) x y b e) (simp append_assoc) (rw i.is (simp append_assoc))

    in_x : (f : List A) → xs ≡ a ++ f → In-first f c ys x (y ++ b) → Order A (c ∷ l) (a ++ (y ++ (x ++ b)))
    in_x f g i =
        let r = i.rest in
        let e : xs ++ ys ≡ a ++ ((f ++ r) ++ (y ++ b)) = rw (g, i.others) (simp append_assoc) in
        at_place (a ++ (y ++ f)) c (r ++ b) (a ++ (y ++ ((f ++ r) ++ b))) (a ++ (y ++ (x ++ b))) (ih a (f ++ r) y b e) (simp append_assoc) (rw i.is (simp append_assoc))

    in_y : (f : List A) → xs ≡ a ++ (x ++ f) → In-first f c ys y b → Order A (c ∷ l) (a ++ (y ++ (x ++ b)))
    in_y f g i =
        let r = i.rest in
        let e : xs ++ ys ≡ a ++ (x ++ ((f ++ r) ++ b)) = rw (g, i.others) (simp append_assoc) in
        at_place (a ++ f) c (r ++ (x ++ b)) (a ++ ((f ++ r) ++ (x ++ b))) (a ++ (y ++ (x ++ b))) (ih a x (f ++ r) b e) (simp append_assoc) (rw i.is (simp append_assoc))

    in_b : (f : List A) → xs ≡ a ++ (x ++ f) → In-second f c ys y b → Order A (c ∷ l) (a ++ (y ++ (x ++ b)))
    in_b f g i =
        let r = i.front in
        let e : xs ++ ys ≡ a ++ (x ++ (y ++ (r ++ ys))) = rw (g, i.is) (simp append_assoc) in
        at_place (a ++ (y ++ (x ++ r))) c ys (a ++ (y ++ (x ++ (r ++ ys)))) (a ++ (y ++ (x ++ b))) (ih a x y (r ++ ys) e) (simp append_assoc) (rw i.others (simp append_assoc))

    swap_one : xs ++ c ∷ ys ≡ a ++ (x ++ (y ++ b)) → Order A (c ∷ l) (a ++ (y ++ (x ++ b)))
    swap_one e = go (which xs c ys a (x ++ (y ++ b)) e)
      where
        go₃ : (f : List A) → xs ≡ a ++ (x ++ f) → In-first f c ys y b ⊎ In-second f c ys y b → Order A (c ∷ l) (a ++ (y ++ (x ++ b)))
        go₃ f g (inl i) = in_y f g i
        go₃ f g (inr i) = in_b f g i

        go₂ : (f : List A) → xs ≡ a ++ f → In-first f c ys x (y ++ b) ⊎ In-second f c ys x (y ++ b) → Order A (c ∷ l) (a ++ (y ++ (x ++ b)))
        go₂ f g (inl i) = in_x f g i
        go₂ f g (inr i) = go₃ i.front (g ∙ ap (λ (r : List A). a ++ r) i.is) (which i.front c ys y b (sym i.others))

        go : In-first xs c ys a (x ++ (y ++ b)) ⊎ In-second xs c ys a (x ++ (y ++ b)) → Order A (c ∷ l) (a ++ (y ++ (x ++ b)))
        go (inl i) = in_a i
        go (inr i) = go₂ i.front i.is (which i.front c ys x (y ++ b) (sym i.others))

  pub swap : {l k : List A} → Order A l k → Swaps l k
  swap none_left a x y b e =
      let p = append-nil-both a (x ++ (y ++ b)) (sym e) in
      let q = append-nil-both x (y ++ b) p.1 in
      let r = append-nil-both y b q.1 in
      rw (p.0, q.0, r.0, r.1) none_left
  swap (one_of xs c ys {l = l} o) a x y b e = swap_one l xs c ys (λ a' x' y' b' e'. swap o a' x' y' b' e') a x y b e

-- ── sorted by place ──

put : Msg → List Msg → List Msg
put m [] = m ∷ []
put m (k ∷ ks) = cond (leb m.first k.first) (m ∷ k ∷ ks) (k ∷ put m ks)

pub sorted : List Msg → List Msg
sorted [] = []
sorted (m ∷ ms) = put m (sorted ms)

not_empty : (base o p : ℕ) (l : List Frag) → Cut base o p l → 0 < length l
not_empty base o p [] h = absurd h
not_empty base o p (f ∷ l) h = omega arith

apart_put : (m k : Msg) (l : List Msg) → Apart m (k ∷ l) → Apart m (put k l)
unfolding put
apart_put m k [] h = h
apart_put m k (x ∷ l) h = go (leb k.first x.first) (apart_put m k l (h.0, h.1.1))
  where
    go : (t : Bool) → Apart m (put k l) → Apart m (cond t (k ∷ x ∷ l) (x ∷ put k l))
    go true i = h
    go false i = (h.1.0, i)

apart_sorted : (m : Msg) (l : List Msg) → Apart m l → Apart m (sorted l)
unfolding sorted
apart_sorted m [] h = tt
apart_sorted m (k ∷ l) h = apart_put m k (sorted l) (h.0, apart_sorted m l h.1)

module _ (base max : ℕ) where
  listed-put : (o : ℕ) (m : Msg) (l : List Msg) → Whole base max m → o ≤ m.first → Apart m l → Listed base max o l → Listed base max o (put m l)
  unfolding put
  listed-put o m [] w k a h = (w, k, tt)
  listed-put o m (x ∷ l) w k a h = go (leb m.first x.first) refl a.0 (listed-put (x.first + length x.frags) m l w)
    where
      n : 0 < length x.frags
      n = not_empty base x.first x.ppi x.frags h.0.cut

      go : (t : Bool) → leb m.first x.first ≡ t → (m.first + length m.frags ≤ x.first) ⊎ (x.first + length x.frags ≤ m.first)
          → (x.first + length x.frags ≤ m.first → Apart m l → Listed base max (x.first + length x.frags) l → Listed base max (x.first + length x.frags) (put m l))
          → Listed base max o (cond t (m ∷ x ∷ l) (x ∷ put m l))
      go true e (inl p) ih = (w, k, (h.0, p, h.2))
      go true e (inr p) ih = let g = leb-true m.first x.first e in let z = n in absurd (omega arith)
      go false e (inl p) ih = let g = leb-false m.first x.first e in absurd (omega arith)
      go false e (inr p) ih = (h.0, h.1, ih p a.1 h.2)

  pub listed_sorted : (l : List Msg) → Unordered base max l → Listed base max 0 (sorted l)
  unfolding sorted
  listed_sorted [] h = tt
  listed_sorted (m ∷ l) h = listed-put 0 m (sorted l) h.0 (omega arith) (apart_sorted m l h.1) (listed_sorted l h.2)

-- ── an order of what the messages hold ──

module _ {A : Type 0} (g : Msg → List A) where
  unfoldable pub flat : List Msg → List A
  flat [] = []
  flat (m ∷ l) = g m ++ flat l

  put-flat : (ps a : List A) (m : Msg) (l : List Msg) → Order A ps (a ++ (g m ++ flat l)) → Order A ps (a ++ flat (put m l))
  unfolding put flat
  put-flat ps a m [] o = o
  put-flat ps a m (k ∷ l) o = go (leb m.first k.first) (put-flat ps (a ++ g k) m l)
    where
      go : (t : Bool) → (Order A ps ((a ++ g k) ++ (g m ++ flat l)) → Order A ps ((a ++ g k) ++ flat (put m l))) → Order A ps (a ++ flat (cond t (m ∷ k ∷ l) (k ∷ put m l)))
      go true ih = o
      go false ih = rw append_assoc at (ih (rw append_assoc (swap o a (g m) (g k) (flat l) refl)))

  put_back : (ps a : List A) (m : Msg) (l : List Msg) → Order A ps (a ++ flat (put m l)) → Order A ps (a ++ (g m ++ flat l))
  unfolding put flat
  put_back ps a m [] o = o
  put_back ps a m (k ∷ l) o = go (leb m.first k.first) (put_back ps (a ++ g k) m l) o
    where
      go : (t : Bool) → (Order A ps ((a ++ g k) ++ flat (put m l)) → Order A ps ((a ++ g k) ++ (g m ++ flat l))) → Order A ps (a ++ flat (cond t (m ∷ k ∷ l) (k ∷ put m l)))
          → Order A ps (a ++ (g m ++ (g k ++ flat l)))
      go true ih o = o
      go false ih o = swap (ih (rw append_assoc o)) a (g k) (g m) (flat l) (append_assoc a (g k) (g m ++ flat l))

  pub sorted_flat : (ps a : List A) (l : List Msg) → Order A ps (a ++ flat l) → Order A ps (a ++ flat (sorted l))
  unfolding sorted flat
  sorted_flat ps a [] o = o
  sorted_flat ps a (m ∷ l) o = put-flat ps a m (sorted l) (rw append_assoc at (sorted_flat ps (a ++ g m) l (rw append_assoc o)))

  pub sorted_back : (ps a : List A) (l : List Msg) → Order A ps (a ++ flat (sorted l)) → Order A ps (a ++ flat l)
  unfolding sorted flat
  sorted_back ps a [] o = o
  sorted_back ps a (m ∷ l) o = rw append_assoc at (sorted_back ps (a ++ g m) l (rw append_assoc (put_back ps a m (sorted l) o)))

pub flat-chunks : (l : List Msg) → map (chunk true) (frags_of l) ≡ flat (λ (m : Msg). map (chunk true) m.frags) l
unfolding flat
flat-chunks [] = refl
flat-chunks (m ∷ l) = map-append (chunk true) m.frags (frags_of l) ∙ ap (λ (r : List Carried). map (chunk true) m.frags ++ r) (flat-chunks l)

flat_messages : (l : List Msg) → map (message 0) l ≡ flat (λ (m : Msg). message 0 m ∷ []) l
unfolding flat
flat_messages [] = refl
flat_messages (m ∷ l) = ap (λ (r : List Message). message 0 m ∷ r) (flat_messages l)

-- no push is refused, and once nothing is readable everything came out
pub arrives_all : (si base max : ℕ) (os us : List Msg) → Plan base max os us → (es : List Event) → Order Carried (pushes es) (chunks_of os us) → Roomy (starts si max) es
    → Unrefused (starts si max) es × (readable (final (starts si max) es) ≡ false → Came os us (out (starts si max) es) (final (starts si max) es))
arrives_all si base max os us plan es o r =
    let k : Order Carried (pushes es) (chunks_of os (sorted us)) =
    rw (flat-chunks (sorted us)) (sorted_flat (λ (m : Msg). map (chunk true) m.frags) (pushes es) (map (chunk false) (frags_of os)) us (rw (flat-chunks us) at o)) in
    let a = arrival-listed si base max os (sorted us) plan.few plan.ordered (listed_sorted base max us plan.unordered) es k r in (
      a.0,
      λ z.
          let e = a.1 z in
          let p : Order Message e.loose (map (message 0) us) =
          rw (flat_messages us) (sorted_back (λ (m : Msg). message 0 m ∷ []) e.loose [] us (rw (flat_messages (sorted us)) at e.some_order)) in
          record { loose = e.loose; some_order = p; merged = e.merged; nothing-held = e.nothing-held; no_bytes = e.no_bytes },
    )
