-- The message in turn of any queue: where it stands among all that the queue holds, and what is left without it.
-- Assumes nothing.
use mathlib.Core.Path.{◌≡◌, refl, sym, ap, ◌∙◌}
use mathlib.Core.Bool.{Bool, true, false, not, ◌&&◌, cond}
use mathlib.Core.List.{List, [], ◌∷◌, ◌++◌}
use Prim.Native.Nat.{ℕ, zero, suc, ◌+◌, ◌-◌, ◌≤◌, ◌<◌}
use native.Mathlib.Omega.{arith}
use borrow.Author.Tests.{lt-ltb, le-ltb, eq-eqb, ne_eqb}
use native.Mathlib.Decide.{dec_le}
use lib.Dec.{eqb}
use lib.ListN.{length, take, drop, length-append, length-drop, length-take}
use lib.Seq.{take-append_seam, take-append-le, drop-append-add, drop-append_seam}
use Rattle.serial_model.specs.Serial.{next, before}
use Rattle.moves_model.specs.Lists.{gone}
use Rattle.fragments.specs.Frag.{Frag, ssn_of, has_ssn}
use Rattle.fragments.specs.Words.{size, while, past}
use Rattle.fragment_sets.specs.Sets.{complete}
use Rattle.fragments.proofs.Pool.{size-gone}
use Rattle.fragments.proofs.Words.{while-past}
use Rattle.reassembly_state.specs.Model.{Queue, queue, held, ready_set, moved_on, Turn, first_ssn, ordered_turn, finished_turn, turn, through_end}
use Rattle.reassembly_state.specs.State.{counts}
use Rattle.reassembly_state.specs.Rows.{without_message}
use Rattle.reassembly_state.proofs.Parts.{gone-first, gone-last}
use Rattle.streams_turn.specs.Turned.{first_of}

-- ── fronts ──

module _ {A : Type 0} where
  -- a front that may be longer than the list
  front-is : (k : ℕ) (l : List A) → take k l ≡ take (length (take k l)) l
  front-is zero l = refl
  front-is (suc k) [] = refl
  front-is (suc k) (x ∷ l) = ap (λ (m : List A). x ∷ m) (front-is k l)

  drop-front : (k : ℕ) (l : List A) → drop k l ≡ drop (length (take k l)) l
  drop-front zero l = refl
  drop-front (suc k) [] = refl
  drop-front (suc k) (x ∷ l) = drop-front k l

-- ── the first ordered set is a front of the ordered ones ──

pub ready_front : (e : ℕ) (l : List Frag) → ready_set e l ≡ take (length (ready_set e l)) l
unfolding ready_set
ready_front e [] = refl
ready_front e (x ∷ xs) = go (not (before 16 e (ssn_of x)) && complete (x ∷ while (has_ssn (ssn_of x)) xs))
  where
    front : (p : Frag → Bool) (l : List Frag) → while p l ≡ take (length (while p l)) l
    front p l = sym (ap (take (length (while p l))) (sym (while-past p l)) ∙ take-append_seam (while p l) (past p l))

    go : (b : Bool) → cond b (x ∷ while (has_ssn (ssn_of x)) xs) [] ≡ take (length (cond b (x ∷ while (has_ssn (ssn_of x)) xs) [])) (x ∷ xs)
    go true = ap (λ (m : List Frag). x ∷ m) (front (has_ssn (ssn_of x)) xs)
    go false = refl

-- ── the turn ──

moved_by : (e : ℕ) (l : List Frag) → 0 < length l → moved_on e l ≡ cond (eqb (first_ssn l) e) (next 16 e) e
unfolding moved_on first_ssn
moved_by e [] h = absurd (omega arith)
moved_by e (x ∷ l) h = refl

-- a turn of m: it stands at i, what is left, and whether it has an SSN
pub record Stands (m : Queue) (i : ℕ) (ordered : Bool) (t : Turn) : Type 0 where
  pub there : t.frags ≡ take (length t.frags) (drop i (held m))
  pub within : i + length t.frags ≤ length (held m)
  pub rest : held t.queue ≡ gone i (length t.frags) (held m)
  pub ssn-is : t.ssn ≡ cond ordered (first_ssn t.frags) 0
  pub counts_are : 0 < length t.frags → counts t.queue ≡ without_message (counts m) (length t.frags) (size t.frags) t.ssn

-- bytes that are left
left-bytes : (m : Queue) (i : ℕ) (frags : List Frag) (q : Queue) → frags ≡ take (length frags) (drop i (held m)) → held q ≡ gone i (length frags) (held m) → size (held q) ≡ size (held m) - size frags
left-bytes m i frags q a b = let e = ap size b in let f = ap size a in omega (arith, e, f, size-gone (held m) i (length frags))

counts-set : (q : Queue) (si next max f u o n : ℕ) → q.si ≡ si → q.next ≡ next → q.max ≡ max → length q.finished ≡ f → length q.unordered ≡ u → length q.ordered ≡ o → size (held q) ≡ n
    → counts q ≡ record { si = si; next_ssn = next; max_message_size = max; finished = f; unordered = u; ordered = o; n_bytes = n }
unfolding counts
counts-set q si next max f u o n a b c d e g h = rw (a, b, c, d, e, g, h)

module _ (m : Queue) where
  finished-stands : 0 < length m.finished → Stands m 0 false (finished_turn m (through_end m.finished))
  unfolding finished_turn without_message counts
  finished-stands h =
      let n = through_end m.finished in
      let k = length (take n m.finished) in
      let few : k ≤ length m.finished = rw length-take (omega arith) in
      let back : drop n m.finished ≡ drop k m.finished = drop-front n m.finished in
      let there : take n m.finished ≡ take k (held m) = front-is n m.finished ∙ sym (take-append-le k m.finished (m.unordered ++ m.ordered) few) in
      let q = queue m.si m.next m.max (drop n m.finished) m.unordered m.ordered in
      let rest : held q ≡ gone 0 k (held m) = ap (λ (l : List Frag). l ++ (m.unordered ++ m.ordered)) back ∙ gone-first m.finished m.unordered m.ordered k few in
      let some = lt-ltb 0 (length m.finished) h in
      let shorter : length (drop n m.finished) ≡ length m.finished - k = ap length back ∙ length-drop k m.finished in
      record {
        there = there;
        within = rw (length-append m.finished (m.unordered ++ m.ordered)) (omega arith);
        rest = rest;
        ssn-is = refl;
        counts_are = λ z. counts-set q _ _ _ _ _ _ _ refl refl refl shorter refl refl (left-bytes m 0 (take n m.finished) q there rest) ∙ rw some;
      }

  ordered-stands : length m.finished ≡ 0 → Stands m (length m.finished + length m.unordered) true (ordered_turn m (ready_set m.next m.ordered))
  unfolding ordered_turn without_message counts
  ordered-stands e =
      let r = ready_set m.next m.ordered in
      let k = length r in
      let i = length m.finished + length m.unordered in
      let front = ready_front m.next m.ordered in
      let few : k ≤ length m.ordered = omega (arith, ap length front, length-take k m.ordered) in
      let behind : drop i (held m) ≡ m.ordered = drop-append-add m.finished (m.unordered ++ m.ordered) (length m.unordered) ∙ drop-append_seam m.unordered m.ordered in
      let there : r ≡ take k (drop i (held m)) = front ∙ ap (take k) (sym behind) in
      let q = queue m.si (moved_on m.next r) m.max m.finished m.unordered (drop k m.ordered) in
      let rest : held q ≡ gone i k (held m) = gone-last m.finished m.unordered m.ordered k in
      let none = le-ltb 0 (length m.finished) (omega arith) in
      record {
        there = there;
        within = rw (length-append m.finished (m.unordered ++ m.ordered), length-append m.unordered m.ordered) (omega arith);
        rest = rest;
        ssn-is = refl;
        counts_are = λ z. counts-set q _ _ _ _ _ _ _ refl (moved_by m.next r z) refl refl refl (length-drop k m.ordered) (left-bytes m i r q there rest) ∙ rw none;
      }

  pub turn-finished : 0 < length m.finished → turn m ≡ finished_turn m (through_end m.finished)
  unfolding turn
  turn-finished h = rw (lt-ltb 0 (length m.finished) h)

  pub turn-ordered : length m.finished ≡ 0 → turn m ≡ ordered_turn m (ready_set m.next m.ordered)
  unfolding turn
  turn-ordered e = rw (le-ltb 0 (length m.finished) (omega arith))

  pub stands : Stands m (first_of m) (eqb (length m.finished) 0) (turn m)
  stands = go (dec_le 1 (length m.finished))
    where
      go : Dec (1 ≤ length m.finished) → Stands m (first_of m) (eqb (length m.finished) 0) (turn m)
      go (yes f) = rw (lt-ltb 0 (length m.finished) f, ne_eqb (length m.finished) 0 (λ z. omega arith), turn-finished f) (finished-stands f)
      go (no f) = let e : length m.finished ≡ 0 = omega arith in rw (le-ltb 0 (length m.finished) (omega arith), eq-eqb (length m.finished) 0 e, turn-ordered e) (ordered-stands e)
