-- What a take gives: the oldest finished message, or the next set when all of it came.
-- Assumes nothing.
use mathlib.Core.Path.{◌≡◌, refl, sym, ap, subst, ◌∙◌}
use mathlib.Core.Bool.{Bool, true, false, not, and-false}
use mathlib.Core.List.{List, [], ◌∷◌, ◌++◌}
use Prim.Native.Nat.{ℕ, suc, ◌^◌, ◌<◌, ◌≤◌}
use native.Mathlib.Omega.{arith}
use lib.ListN.{length, take, drop}
use lib.Seq.{take_at, drop_at}
use borrow.Author.Tests.{lt-ltb, eqb-true, ne_eqb}
use Rattle.serial_model.specs.Serial.{before}
use Rattle.fragments.specs.Frag.{Frag, ends, ssn_of, has_ssn}
use Rattle.fragments.specs.Words.{joined, while}
use Rattle.fragment_sets.specs.Sets.{complete}
use Rattle.reassembly_state.specs.Model.{Queue, queue, through_end, ready_set, moved_on, Turn, first_ssn, first_ppi, ordered_turn, finished_turn, turn, readable}
use Rattle.arrival_plan.specs.Plan.{null, Later, Cut, Message, after_take, given}
use Rattle.arrival_plan.proofs.Lists.{Is, while-is}
use Rattle.arrival_plan.proofs.Numbers.{ssn_ge}

-- ── a take by what comes out: one message, or none ──

abbrev filled : List Message → Bool
filled [] = false
filled (m ∷ ms) = true

pub record Gives (q : Queue) (ms : List Message) (k : Queue) : Type 0 where
  pub is : readable q ≡ filled ms
  pub after : after_take q ≡ k
  pub said : (rest : List Message) → given q rest ≡ ms ++ rest

abbrev pub mess : ℕ → ℕ → List ℕ → Message
mess s p b = record { ssn = s; ppi = p; bytes = b }

abbrev one : List Frag → ℕ → Queue → Turn
one l s k = record { frags = l; ssn = s; queue = k }

gives_one : (q : Queue) (x : Frag) (l : List Frag) (s : ℕ) (k : Queue) → turn q ≡ one (x ∷ l) s k → Gives q (mess s x.ppi (joined (x ∷ l)) ∷ []) k
unfolding readable first_ppi
gives_one q x l s k e =
    let r = lt-ltb 0 (suc (length l)) (omega arith) in
    record { is = rw (e, r); after = rw (e, r); said = λ rest. rw (e, r) }

gives_none : (q : Queue) → (turn q).frags ≡ [] → Gives q [] q
unfolding readable
gives_none q e = record { is = rw e; after = rw e; said = λ rest. rw e }

-- ── a finished message ──

through_here : (x : Frag) (l : List Frag) → ends x ≡ true → through_end (x ∷ l) ≡ 1
unfolding while
through_here x l e = rw e

through-on : (x : Frag) (l : List Frag) → ends x ≡ false → through_end (x ∷ l) ≡ suc (through_end l)
unfolding while
through-on x l e = rw e

module _ (base p : ℕ) (r : List Frag) where
  through : (o : ℕ) (x : Frag) (l : List Frag) → ends x ≡ null l → Later base o p l → through_end (x ∷ (l ++ r)) ≡ suc (length l)
  through o x [] e h = through_here x r e
  through o x (y ∷ l) e h = through-on x (y ∷ (l ++ r)) e ∙ ap suc (through (suc o) y l h.0.end h.1)

-- the front l of the finished list is a message
turn-finished : (si n max : ℕ) (x : Frag) (l r uno ord : List Frag) → through_end (x ∷ (l ++ r)) ≡ suc (length l)
    → turn (queue si n max (x ∷ (l ++ r)) uno ord) ≡ one (x ∷ l) 0 (queue si n max r uno ord)
unfolding turn finished_turn
turn-finished si n max x l r uno ord e =
    let k = through_end (x ∷ (l ++ r)) in
    let front : take k (x ∷ (l ++ r)) ≡ x ∷ l = take_at (x ∷ l) r k (sym e) in
    let back : drop k (x ∷ (l ++ r)) ≡ r = drop_at (x ∷ l) r k (sym e) in
    rw (lt-ltb 0 (suc (length (l ++ r))) (omega arith)) (λ i. one (front i) 0 (queue si n max (back i) uno ord))

pub take-oldest : (base o p si n max : ℕ) (l r uno ord : List Frag) → Cut base o p l
    → Gives (queue si n max (l ++ r) uno ord) (mess 0 p (joined l) ∷ []) (queue si n max r uno ord)
take-oldest base o p si n max [] r uno ord h = absurd h
take-oldest base o p si n max (x ∷ l) r uno ord h =
    let q = queue si n max (x ∷ (l ++ r)) uno ord in
    let k = queue si n max r uno ord in
    subst (λ (i : ℕ). Gives q (mess 0 i (joined (x ∷ l)) ∷ []) k) h.0.ppi
    (gives_one q x l 0 k (turn-finished si n max x l r uno ord (through base p r (suc o) x l h.0.end h.1)))

-- ── the next set ──

module _ (n : ℕ) where
  own-set : (x : Frag) (l r : List Frag) → Is (has_ssn n) true (x ∷ l) → Is (has_ssn n) false r → while (has_ssn (ssn_of x)) (l ++ r) ≡ l
  own-set x l r h k = rw (eqb-true (ssn_of x) n h.0) (while-is (has_ssn n) l r h.1 k)

  -- not complete, or none yet
  ready_open : (l r : List Frag) → Is (has_ssn n) true l → complete l ≡ false → Is (has_ssn n) false r → Is (λ (x : Frag). before 16 n (ssn_of x)) true r → ready_set n (l ++ r) ≡ []
  unfolding ready_set
  ready_open [] [] h c k b = refl
  ready_open [] (x ∷ r) h c k b = rw b.0
  ready_open (x ∷ l) r h c k b = rw (own-set x l r h k, c, and-false (not (before 16 n (ssn_of x))))

  -- complete, and not after the expected number
  ready_at : (e : ℕ) (x : Frag) (l r : List Frag) → Is (has_ssn n) true (x ∷ l) → complete (x ∷ l) ≡ true → Is (has_ssn n) false r → n ≤ e → e < 2 ^ 15
      → ready_set e (x ∷ (l ++ r)) ≡ x ∷ l
  unfolding ready_set
  ready_at e x l r h c k m b = rw (own-set x l r h k, c, eqb-true (ssn_of x) n h.0, ssn_ge e n m b)

  moved_on_lem : (x : Frag) (l : List Frag) → has_ssn n x ≡ true → n < 2 ^ 15 → moved_on n (x ∷ l) ≡ suc n
  unfolding moved_on
  moved_on_lem x l e b = rw e (omega arith)

  not_moved : (e : ℕ) (x : Frag) (l : List Frag) → has_ssn n x ≡ true → n < e → moved_on e (x ∷ l) ≡ e
  unfolding moved_on
  not_moved e x l h k = rw (eqb-true (ssn_of x) n h, ne_eqb n e (λ z. omega arith))

module _ (si n max : ℕ) (uno : List Frag) where
  turn-ordered : (l m : List Frag) → ready_set n l ≡ m → turn (queue si n max [] uno l) ≡ ordered_turn (queue si n max [] uno l) m
  unfolding turn
  turn-ordered l m e = rw e

  -- nothing comes out
  pub take_open : (l r : List Frag) → Is (has_ssn n) true l → complete l ≡ false → Is (has_ssn n) false r → Is (λ (x : Frag). before 16 n (ssn_of x)) true r
      → Gives (queue si n max [] uno (l ++ r)) [] (queue si n max [] uno (l ++ r))
  unfolding ordered_turn
  take_open l r h c k b = gives_none (queue si n max [] uno (l ++ r)) (ap (λ (t : Turn). t.frags) (turn-ordered (l ++ r) [] (ready_open n l r h c k b)))

  -- complete: it comes out, and the next number is expected
  pub take_whole : (x : Frag) (l r : List Frag) → Is (has_ssn n) true (x ∷ l) → complete (x ∷ l) ≡ true → Is (has_ssn n) false r → n < 2 ^ 15
      → Gives (queue si n max [] uno (x ∷ (l ++ r))) (mess n x.ppi (joined (x ∷ l)) ∷ []) (queue si (suc n) max [] uno r)
  unfolding ordered_turn first_ssn
  take_whole x l r h c k b =
      gives_one (queue si n max [] uno (x ∷ (l ++ r))) x l n (queue si (suc n) max [] uno r)
      (turn-ordered (x ∷ (l ++ r)) (x ∷ l) (ready_at n n x l r h c k (omega arith) b)
      ∙ rw (moved_on_lem n x l h.0 b, drop_at (x ∷ l) r (suc (length l)) refl)
      (ap (λ (s : ℕ). one (x ∷ l) s (queue si (suc n) max [] uno r)) (eqb-true (ssn_of x) n h.0)))

  -- complete, of a number before the expected one: it comes out, and the same number is expected
  pub take_waiting : (m : ℕ) (x : Frag) (l r : List Frag) → Is (has_ssn m) true (x ∷ l) → complete (x ∷ l) ≡ true → Is (has_ssn m) false r → m < n → n < 2 ^ 15
      → Gives (queue si n max [] uno (x ∷ (l ++ r))) (mess m x.ppi (joined (x ∷ l)) ∷ []) (queue si n max [] uno r)
  unfolding ordered_turn first_ssn
  take_waiting m x l r h c k b d =
      gives_one (queue si n max [] uno (x ∷ (l ++ r))) x l m (queue si n max [] uno r)
      (turn-ordered (x ∷ (l ++ r)) (x ∷ l) (ready_at m n x l r h c k (omega arith) d)
      ∙ rw (not_moved m n x l h.0 b, drop_at (x ∷ l) r (suc (length l)) refl)
      (ap (λ (s : ℕ). one (x ∷ l) s (queue si n max [] uno r)) (eqb-true (ssn_of x) m h.0)))
