-- The ordered list, as the messages not yet taken; and what a push of a due chunk makes of it.
-- Assumes nothing.
use mathlib.Core.Path.{◌≡◌, sym, ap, subst, ◌∙◌}
use mathlib.Core.Bool.{Bool, true, false}
use mathlib.Core.List.{List, [], ◌∷◌, ◌++◌, map}
use Prim.Native.Nat.{ℕ, suc, ◌+◌, ◌^◌, ◌<◌, ◌≤◌}
use native.Mathlib.Omega.{arith}
use lib.ListN.{length, length-append}
use borrow.Author.Tests.{le-ltb, eq-eqb, ne_eqb}
use Rattle.serial_model.specs.Serial.{before}
use Rattle.fragments.specs.Frag.{Frag, ssn_of, has_tsn, tsn_before, has_ssn, ssn_before}
use Rattle.fragments.specs.Words.{size, any, placed}
use Rattle.fragment_sets.specs.Sets.{set_of, stored}
use Rattle.reassembly_state.specs.Model.{queue, room_for}
use Rattle.arrival_plan.specs.Plan.{Later, Cut, Whole, Numbered, Ordered, chunk}
use Rattle.arrival_plan.proofs.Lists.{Is, Is_ppi, size-append, is-append, any_none, placed_at, set-at, stored_at}
use Rattle.arrival_plan.proofs.Numbers.{ssn-lt, ssn_ge}
use Rattle.arrival_plan.proofs.Shape.{Mark, came, due, all_of, arrived, all_append, arrived-append, arrived_small, length-all, below, above, around, split}
use Rattle.arrival_plan.proofs.Pushes.{Enters, set-push, set-old}
use Rattle.arrival_plan.proofs.Loose.{Part, part, msg, held_of, held-append, same-msgs, was, is}

-- ── numbers ──

module _ (p : Frag → Bool) (v : Bool) (k : ℕ) (h : (x : Frag) → ssn_of x ≡ k → p x ≡ v) where
  numbered_is : (l : List Mark) → Numbered k (all_of l) → Is p v (arrived l)
  numbered_is [] n = tt
  numbered_is (came x ∷ l) n = (h x n.0, numbered_is l n.1)
  numbered_is (due x ∷ l) n = numbered_is l n.1

numbered-at : (k : ℕ) (u : List Mark) (f : Frag) (v : List Mark) → Numbered k (all_of (u ++ due f ∷ v)) → ssn_of f ≡ k
numbered-at k [] f v n = n.0
numbered-at k (came x ∷ u) f v n = numbered-at k u f v n.1
numbered-at k (due x ∷ u) f v n = numbered-at k u f v n.1

pub has_it : (k : ℕ) (l : List Mark) → Numbered k (all_of l) → Is (has_ssn k) true (arrived l)
has_it k l n = numbered_is (has_ssn k) true k (λ x e. eq-eqb (ssn_of x) k e) l n

module _ (base : ℕ) where
  later_ppi : (o p : ℕ) (l : List Mark) → Later base o p (all_of l) → Is_ppi p (arrived l)
  later_ppi o p [] h = tt
  later_ppi o p (came x ∷ l) h = (h.0.ppi, later_ppi (suc o) p l h.1)
  later_ppi o p (due x ∷ l) h = later_ppi (suc o) p l h.1

  cut_ppi : (o p : ℕ) (l : List Mark) → Cut base o p (all_of l) → Is_ppi p (arrived l)
  cut_ppi o p [] h = tt
  cut_ppi o p (came x ∷ l) h = (h.0.ppi, later_ppi (suc o) p l h.1)
  cut_ppi o p (due x ∷ l) h = later_ppi (suc o) p l h.1

module _ (base max : ℕ) where
  pub low_sets : (n k : ℕ) (a : List Part) → Ordered base max n (map msg a) → n + length a ≤ k → k < 2 ^ 15
      → Is (ssn_before k) true (held_of a) × Is (has_ssn k) false (held_of a)
  low_sets n k [] h l m = (tt, tt)
  low_sets n k (p ∷ a) h l m =
      let r = low_sets (suc n) k a h.2 (omega arith) m in (
        is-append (ssn_before k) true (arrived p.marks) (held_of a) (numbered_is (ssn_before k) true n (λ x e. rw e (ssn-lt n k (omega arith) m)) p.marks h.1) r.0,
        is-append (has_ssn k) false (arrived p.marks) (held_of a) (numbered_is (has_ssn k) false n (λ x e. rw e (ne_eqb n k (λ z. omega arith))) p.marks h.1) r.1,
      )

  pub high_sets : (n k : ℕ) (b : List Part) → Ordered base max n (map msg b) → k < n → n + length b ≤ 2 ^ 15
      → Is (ssn_before k) false (held_of b) × Is (has_ssn k) false (held_of b)
  high_sets n k [] h l m = (tt, tt)
  high_sets n k (p ∷ b) h l m =
      let r = high_sets (suc n) k b h.2 (omega arith) (omega arith) in (
        is-append (ssn_before k) false (arrived p.marks) (held_of b) (numbered_is (ssn_before k) false n (λ x e. rw e (ssn_ge n k (omega arith) (omega arith))) p.marks h.1) r.0,
        is-append (has_ssn k) false (arrived p.marks) (held_of b) (numbered_is (has_ssn k) false n (λ x e. rw e (ne_eqb n k (λ z. omega arith))) p.marks h.1) r.1,
      )

  pub later-sets : (n k : ℕ) (b : List Part) → Ordered base max n (map msg b) → k < n → n + length b ≤ 2 ^ 15
      → Is (λ (x : Frag). before 16 k (ssn_of x)) true (held_of b)
  later-sets n k [] h l m = tt
  later-sets n k (p ∷ b) h l m =
      is-append (λ (x : Frag). before 16 k (ssn_of x)) true (arrived p.marks) (held_of b)
      (numbered_is (λ (x : Frag). before 16 k (ssn_of x)) true n (λ x e. rw e (ssn-lt k n l (omega arith))) p.marks h.1) (later-sets (suc n) k b h.2 (omega arith) (omega arith))

  record Amid (n : ℕ) (a : List Part) (p : Part) (b : List Part) : Type 0 where
    left : Ordered base max n (map msg a)
    whole : Whole base max (msg p)
    pub number : Numbered (n + length a) (all_of p.marks)
    right : Ordered base max (suc (n + length a)) (map msg b)

  amid : (n : ℕ) (a : List Part) (p : Part) (b : List Part) → Ordered base max n (map msg (a ++ p ∷ b)) → Amid n a p b
  amid n [] p b h = let e : n + 0 ≡ n = omega arith in record { left = tt; whole = h.0; number = rw e h.1; right = rw e h.2 }
  amid n (x ∷ a) p b h =
      let e : n + suc (length a) ≡ suc n + length a = omega arith in
      let i = amid (suc n) a p b h.2 in
      record { left = (h.0, h.1, i.left); whole = i.whole; number = rw e i.number; right = rw e i.right }

-- ── the push ──

module _ (a : List Part) (o i : ℕ) (u : List Mark) (f : Frag) (v : List Mark) (b : List Part) (base max n : ℕ)
    (few : n + length (was a o i u f v b) ≤ 32767) (h : Ordered base max n (map msg (was a o i u f v b))) where
  pub is-ordered : Ordered base max n (map msg (is a o i u f v b))
  is-ordered = rw (same-msgs o i u f v a b) h

  mid : Amid base max n a (part o i (u ++ due f ∷ v)) b
  mid = amid base max n a (part o i (u ++ due f ∷ v)) b h

  number : ssn_of f ≡ n + length a
  number = numbered-at (n + length a) u f v mid.number

  pub count : n + length a + length b < 32767
  count = omega (arith, few, length-append a (part o i (u ++ due f ∷ v) ∷ b))

  low : Is (ssn_before (ssn_of f)) true (held_of a) × Is (has_ssn (ssn_of f)) false (held_of a)
  low = rw number (low_sets base max n (n + length a) a mid.left (omega arith) (omega (arith, count)))

  high : Is (ssn_before (ssn_of f)) false (held_of b) × Is (has_ssn (ssn_of f)) false (held_of b)
  high = rw number (high_sets base max (suc (n + length a)) (n + length a) b mid.right (omega arith) (omega (arith, count)))

  own : Is (has_ssn (ssn_of f)) true (arrived (u ++ due f ∷ v))
  own = subst (λ (k : ℕ). Is (has_ssn k) true (arrived (u ++ due f ∷ v))) (sym number) (has_it (n + length a) (u ++ due f ∷ v) mid.number)

  pub its-set : set_of (ssn_of f) (held_of (was a o i u f v b)) ≡ arrived (u ++ due f ∷ v)
  its-set = rw (held-append a (part o i (u ++ due f ∷ v) ∷ b)) (set-at (ssn_of f) (held_of a) (held_of b) low.1 high.1 (arrived (u ++ due f ∷ v)) own)

  sides : (Is (tsn_before f.tsn) true (arrived u) × Is (has_tsn f.tsn) false (arrived u))
      × (Is (tsn_before f.tsn) false (arrived v) × Is (has_tsn f.tsn) false (arrived v))
  sides =
      let s = split base i o u f v mid.whole.cut in
      let w = around base i o u f v mid.whole.cut in
      let e = length-all (u ++ due f ∷ v) in
      let g = length-append u (due f ∷ v) in (
        rw s.0 (below base o (o + length u) (o + length u) (arrived u) (omega arith) (omega (arith, mid.whole.arc)) w.0),
        rw s.0 (above base (suc (o + length u)) (suc (o + length u) + length v) (o + length u) (arrived v) (omega arith) (omega (arith, mid.whole.arc)) w.1),
      )

  place-own : placed (tsn_before f.tsn) f (arrived (u ++ due f ∷ v)) ≡ arrived (u ++ came f ∷ v)
  place-own = rw (arrived-append u (due f ∷ v), arrived-append u (came f ∷ v)) (placed_at (tsn_before f.tsn) f (arrived u) (arrived v) sides.0.0 sides.1.0)

  new-own : any (has_tsn f.tsn) (set_of (ssn_of f) (held_of (was a o i u f v b))) ≡ false
  new-own = rw (its-set, arrived-append u (due f ∷ v)) (any_none (has_tsn f.tsn) (arrived u ++ arrived v) (is-append (has_tsn f.tsn) false (arrived u) (arrived v) sides.0.1 sides.1.1))

  pub fits_own : size (set_of (ssn_of f) (held_of (was a o i u f v b))) + length f.bytes ≤ max
  unfolding size
  fits_own =
      let z : size (all_of (u ++ due f ∷ v)) ≡ size (all_of u) + (length f.bytes + size (all_of v)) = ap size (all_append u (due f ∷ v)) ∙ size-append (all_of u) (f ∷ all_of v) in
      let y : size (arrived (u ++ due f ∷ v)) ≡ size (arrived u) + size (arrived v) = ap size (arrived-append u (due f ∷ v)) ∙ size-append (arrived u) (arrived v) in
      rw its-set (omega (arith, arrived_small u, arrived_small v, mid.whole.small))

  stored-own : stored f (held_of (was a o i u f v b)) ≡ held_of (is a o i u f v b)
  stored-own =
      let s = split base i o u f v mid.whole.cut in
      let p : Is_ppi f.ppi (arrived (u ++ due f ∷ v)) = subst (λ (k : ℕ). Is_ppi k (arrived (u ++ due f ∷ v))) (sym s.2) (cut_ppi base o i (u ++ due f ∷ v) mid.whole.cut) in
      rw (held-append a (part o i (u ++ due f ∷ v) ∷ b), held-append a (part o i (u ++ came f ∷ v) ∷ b))
      (stored_at f (held_of a) (held_of b) low.0 high.0 low.1 high.1 (arrived (u ++ due f ∷ v)) (arrived (u ++ came f ∷ v)) own p place-own)

  -- its place is found, and nothing else changes; its number is not before the expected one
  pub set-pushed-at : (e si : ℕ) (fin uno : List Frag) → e ≤ n + length a → room_for (queue si e max fin uno (held_of (was a o i u f v b))) f ≡ true
      → Enters (queue si e max fin uno (held_of (was a o i u f v b))) (chunk false f) (queue si e max fin uno (held_of (is a o i u f v b)))
  set-pushed-at e si fin uno k r =
      let s : before 16 (ssn_of f) e ≡ false = rw number (ssn_ge (n + length a) e k (omega (arith, count))) in
      set-push (queue si e max fin uno (held_of (was a o i u f v b))) f (held_of (is a o i u f v b))
      (le-ltb max (size (set_of (ssn_of f) (held_of (was a o i u f v b))) + length f.bytes) fits_own) s new-own r stored-own

  pub set-pushed : (si : ℕ) (fin uno : List Frag) → room_for (queue si n max fin uno (held_of (was a o i u f v b))) f ≡ true
      → Enters (queue si n max fin uno (held_of (was a o i u f v b))) (chunk false f) (queue si n max fin uno (held_of (is a o i u f v b)))
  set-pushed si fin uno r = set-pushed-at n si fin uno (omega arith) r

  -- its number is before the expected one: it is turned away, and nothing changes
  pub set-turned-away : (e si : ℕ) (fin uno : List Frag) → n + length a < e → e < 2 ^ 15
      → Enters (queue si e max fin uno (held_of (was a o i u f v b))) (chunk false f) (queue si e max fin uno (held_of (was a o i u f v b)))
  set-turned-away e si fin uno k l =
      let s : before 16 (ssn_of f) e ≡ true = rw number (ssn-lt (n + length a) e k l) in
      set-old (queue si e max fin uno (held_of (was a o i u f v b))) f
      (le-ltb max (size (set_of (ssn_of f) (held_of (was a o i u f v b))) + length f.bytes) fits_own) s
