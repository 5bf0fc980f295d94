-- Every call on eight streams leaves sound ones sound, with a table and a pool as long as before; it does and answers what the queue of its stream does.
-- Assumes nothing.
use mathlib.Core.Path.{◌≡◌, refl, sym, ap, subst, ◌∙◌}
use mathlib.Core.Bool.{Bool, true, false, cond}
use mathlib.Core.List.{List, [], ◌∷◌, map}
use Prim.Native.Nat.{ℕ, zero, suc, ◌+◌, ◌*◌, ◌<◌, ◌≤◌}
use native.Mathlib.Omega.{arith}
use borrow.Author.Tests.{ltb-true, ltb-false, le-ltb, le-leb, lt-leb}
use mathlib.Core.Option as option
use lib.Dec.{ltb}
use lib.ListN.{length, get_or, set, length-map}
use lib.Seq.{set-get_or}
use Rattle.wire_model.specs.Facts.{over-length}
use Rattle.wire_model.specs.Refusal.{Refusal, none, refuse, Told, says}
use Rattle.table.specs.Rows.{total}
use Rattle.table.proofs.Columns.{rows_long}
use Rattle.fragments.specs.Frag.{row_of}
use Rattle.fragments.specs.Words.{size, joined, concat}
use Rattle.fragments.specs.Pool.{cut}
use Rattle.fragments.proofs.Pool.{fit_cut, cut-size, joined_length}
use Rattle.reassembly_state.specs.Limits.{frags_most, bytes_most}
use Rattle.reassembly_state.specs.Model.{Queue, queue, no_message, readable, taken}
use Rattle.reassembly_applicable.specs.Applicable.{Found, found_in}
use Rattle.streams_model.specs.Limits.{streams_most}
use Rattle.streams_model.specs.Room.{draws, room_among}
use Rattle.streams_model.specs.State.{State, sums, unsound, queue_of, split, view, held_by, lay, no_queue, After, Read, reads, own, with_own, refused, unless, on_stream, looked, pushed, is_readable, read, forward_ordered, forward_unordered, forward_bounded, applicable, num_bytes}
use Rattle.streams_model.proofs.Laws.{sound, held-view, fragments-length, split-length, lay-own}
use Rattle.streams_model.proofs.Laid.{view-lay, sound_lay}
use Rattle.streams_theorems.specs.Runs.{Act, Push, Take, IsReadable, NumBytes, SkipOrdered, SkipUnordered, SkipBounded, Applicable, refusal_of, left, answer, start}
use Rattle.streams_theorems.specs.Rule.{Drawn}
use Rattle.streams_theorems.proofs.Acts.{tells, room_of}
use Rattle.streams_theorems.proofs.Good.{Good, changed, changed_good}

-- ── what a state holds ──

-- a sound state with a pool of n bytes, and the queues that it holds
pub record Holds (n : ℕ) (s : State) (qs : List Queue) : Type 0 where
  pub sound : unsound s ≡ false
  pub rows : length s.rows ≡ frags_most
  pub pool : length s.pool ≡ n
  pub seen : view s ≡ qs
  pub good : Good n qs

pub unless_none : {B : Type 0} {r : Refusal} → r ≡ none → (f : Refusal → B) (x : B) → unless r f x ≡ x
unless_none e f x = rw e

unless_refuse : {B : Type 0} {r : Refusal} {m : ℕ} → r ≡ refuse m → (f : Refusal → B) (x : B) → unless r f x ≡ f (refuse m)
unless_refuse e f x = rw e

-- ── a call that is refused before its stream is asked: all stays ──

module _ (s : State) (k m : ℕ) (r : refused s k ≡ refuse m) where
  stays : {A : Type 0} (z : A) (x : After A) → on_stream z s k x ≡ record { told = says (refuse m) z; state = s }
  stays z x = unless_refuse r _ x

  looks : {A : Type 0} (z v : A) → looked z s k v ≡ says (refuse m) z
  looks z v = unless_refuse r _ (says none v)

  reading : (b : List ℕ) → read s k b ≡ reads (says (refuse m) no_message) s b
  unfolding read
  reading b = unless_refuse r _ _

  pub left-refused : (a : Act) → left s k a ≡ s
  unfolding pushed forward_ordered forward_unordered forward_bounded
  left-refused (Push c) = ap (λ (y : After Bool). y.state) (stays false _)
  left-refused (Take b) = ap (λ (y : Read). y.state) (reading b)
  left-refused IsReadable = refl
  left-refused NumBytes = refl
  left-refused (SkipOrdered ssn) = ap (λ (y : After Bool). y.state) (stays false _)
  left-refused (SkipUnordered tsn) = ap (λ (y : After Bool). y.state) (stays false _)
  left-refused (SkipBounded ssn tsn) = ap (λ (y : After Bool). y.state) (stays false _)
  left-refused (Applicable ssn tsn peer) = refl

  pub answer-refused : (a : Act) → refusal_of (answer s k a) ≡ refuse m
  unfolding pushed is_readable num_bytes forward_ordered forward_unordered forward_bounded applicable
  answer-refused (Push c) = ap (λ (y : After Bool). y.told.refusal) (stays false _)
  answer-refused (Take b) = ap (λ (y : Read). y.told.refusal) (reading b)
  answer-refused IsReadable = ap (λ (t : Told Bool). t.refusal) (looks false _)
  answer-refused NumBytes = ap (λ (t : Told ℕ). t.refusal) (looks 0 _)
  answer-refused (SkipOrdered ssn) = ap (λ (y : After Bool). y.told.refusal) (stays false _)
  answer-refused (SkipUnordered tsn) = ap (λ (y : After Bool). y.told.refusal) (stays false _)
  answer-refused (SkipBounded ssn tsn) = ap (λ (y : After Bool). y.told.refusal) (stays false _)
  answer-refused (Applicable ssn tsn peer) = ap (λ (t : Told Found). t.refusal) (looks (found_in option.none) _)

-- refused with 19
pub numbered : (s : State) → unsound s ≡ false → (k : ℕ) → streams_most ≤ k → refused s k ≡ refuse 19
numbered s e k beyond = rw (e, le-leb streams_most k beyond)

-- ── a call on a sound state ──

pub asked : (s : State) → unsound s ≡ false → (k : ℕ) → k < streams_most → refused s k ≡ none
asked s e k below = rw (e, lt-leb streams_most k below)

module _ {n : ℕ} {s : State} {qs : List Queue} (h : Holds n s qs) where
  long : bytes_most ≤ n
  long = omega (arith, (sound s h.sound).long, h.pool)

  laid_holds : {ms : List Queue} → Good n ms → Holds n (lay ms s) ms
  unfolding lay
  laid_holds {ms} g =
      let long : bytes_most ≤ n = long in
      record {
        sound = sound_lay ms s g.fit g.few (omega (arith, g.small, h.pool)) (omega (arith, h.pool));
        rows = over-length s.rows (map row_of (held_by ms)) (rw (length-map (held_by ms) row_of, h.rows) g.few) ∙ h.rows;
        pool = over-length s.pool (joined (held_by ms)) (rw (joined_length (held_by ms), h.pool) g.small) ∙ h.pool;
        seen = view-lay ms s g.fit;
        good = g;
      }

  -- ── a call on one of the eight ──

  module _ (k : ℕ) (below : k < streams_most) where
    laid-changed : (a : Act) → Holds n (lay (changed qs k a) s) (changed qs k a)
    laid-changed a = laid_holds (changed_good h.good k below long a)

    -- a look leaves all as it is
    unchanged : Holds n s (set qs k (get_or qs k no_queue))
    unchanged = rw (set-get_or qs k no_queue) h

    -- what a call that changes something leaves
    laid-over : {A : Type 0} (z : A) (x : After A) {ms : List Queue} → x.state ≡ lay ms s → Holds n (lay ms s) ms → Holds n (on_stream z s k x).state ms
    laid-over {A} z x {ms} e g = subst (λ (t : State). Holds n t ms) (sym (ap (λ (y : After A). y.state) (unless_none (asked s h.sound k below) _ x) ∙ e)) g

    pub left_holds : (a : Act) → Holds n (left s k a) (changed qs k a)
    unfolding pushed read forward_ordered forward_unordered forward_bounded
    left_holds (Push c) = laid-over false _ (rw h.seen) (laid-changed (Push c))
    left_holds (Take b) = subst (λ (t : State). Holds n t (changed qs k (Take b))) (sym (ap (λ (y : Read). y.state) (unless_none (asked s h.sound k below) _ _) ∙ rw h.seen)) (laid-changed (Take b))
    left_holds IsReadable = unchanged
    left_holds NumBytes = unchanged
    left_holds (SkipOrdered ssn) = laid-over false _ (rw h.seen) (laid-changed (SkipOrdered ssn))
    left_holds (SkipUnordered tsn) = laid-over false _ (rw h.seen) (laid-changed (SkipUnordered tsn))
    left_holds (SkipBounded ssn tsn) = laid-over false _ (rw h.seen) (laid-changed (SkipBounded ssn tsn))
    left_holds (Applicable ssn tsn peer) = unchanged

    pub answer-is : (a : Act) → answer s k a ≡ tells (room_of (room_among qs k) a) (get_or qs k no_queue) a
    unfolding pushed read is_readable num_bytes forward_ordered forward_unordered forward_bounded applicable
    answer-is (Push c) = rw (h.sound, lt-leb streams_most k below, h.seen)
    answer-is (Take b) = rw (h.sound, lt-leb streams_most k below, h.seen)
    answer-is IsReadable = rw (h.sound, lt-leb streams_most k below, h.seen)
    answer-is NumBytes = rw (h.sound, lt-leb streams_most k below, h.seen)
    answer-is (SkipOrdered ssn) = rw (h.sound, lt-leb streams_most k below)
    answer-is (SkipUnordered tsn) = rw (h.sound, lt-leb streams_most k below)
    answer-is (SkipBounded ssn tsn) = rw (h.sound, lt-leb streams_most k below)
    answer-is (Applicable ssn tsn peer) = rw (h.sound, lt-leb streams_most k below, h.seen)

    pub readable-is : is_readable s k ≡ says none (readable (get_or qs k no_queue))
    unfolding is_readable
    readable-is = rw (h.sound, lt-leb streams_most k below, h.seen)

    -- where nothing is readable, a take answers that nothing is there, and leaves all as it is
    pub unreadable_nothing : is_readable s k ≡ says none false → (buffer : List ℕ) → read s k buffer ≡ reads (says none no_message) s buffer
    unfolding read taken
    unreadable_nothing r buffer =
        let e : readable (own s k) ≡ false = rw h.seen (ap (λ (t : Told Bool). t.values) (sym readable-is ∙ r)) in
        let same : with_own s k (own s k) ≡ s = rw (set-get_or (view s) k no_queue) (lay-own s (sound s h.sound) h.rows) in
        unless_none (asked s h.sound k below) _ _ ∙ rw (e, same)

-- ── sound states stay sound ──

-- what a sound state holds, forged ones too
pub holds_own : (s : State) → unsound s ≡ false → length s.rows ≡ frags_most → length s.queues ≡ streams_most → Holds (length s.pool) s (view s)
unfolding view
holds_own s e full eight =
    let k = sound s e in
    record {
      sound = e;
      rows = full;
      pool = refl;
      seen = refl;
      good = record {
        eight = split-length s.queues _ ∙ eight;
        fit = rw (held-view s) (fit_cut _ s.pool);
        few = rw (held-view s, fragments-length s k full) k.few;
        small = rw (held-view s) (omega (arith, cut-size _ s.pool k.within, k.within));
      };
    }

pub queues_eight : {n : ℕ} {s : State} {qs : List Queue} → Holds n s qs → length s.queues ≡ streams_most
unfolding view
queues_eight {s = s} h = sym (split-length s.queues _) ∙ ap length h.seen ∙ h.good.eight

-- whatever is asked, of whatever number
pub call_holds : {n : ℕ} {s : State} {qs : List Queue} → Holds n s qs → (k : ℕ) (a : Act) → Holds n (left s k a) (cond (ltb k streams_most) (changed qs k a) qs)
call_holds {n} {s} {qs} h k a = go (ltb k streams_most) refl
  where
    go : (b : Bool) → ltb k streams_most ≡ b → Holds n (left s k a) (cond b (changed qs k a) qs)
    go true e = left_holds h k (ltb-true k streams_most e) a
    go false e = rw (left-refused s k 19 (numbered s h.sound k (ltb-false k streams_most e)) a) h

-- ── fresh ──

-- n empty queues, of the streams from i on
abbrev from : ℕ → ℕ → ℕ → List Queue
from max i zero = []
from max i (suc n) = queue i 0 max [] [] [] ∷ from max (suc i) n

from_at : (max i n k : ℕ) → k < n → get_or (from max i n) k no_queue ≡ queue (i + k) 0 max [] [] []
from_at max i zero k h = absurd (omega arith)
from_at max i (suc n) zero h = let e : i + 0 ≡ i = omega arith in rw e
from_at max i (suc n) (suc k) h = let e : i + suc k ≡ suc i + k = omega arith in rw e (from_at max (suc i) n k (omega arith))

-- eight empty queues, of the streams 0 to 7
abbrev pub starts : ℕ → List Queue
starts max = from max 0 streams_most

module _ (max : ℕ) (ws pool : List ℕ) where
  pub fresh-view : view (start max ws pool) ≡ starts max
  unfolding view split queue_of cut
  fresh-view = refl

  pub fresh_sound : bytes_most ≤ length pool → unsound (start max ws pool) ≡ false
  unfolding unsound sums total
  fresh_sound p = rw (le-ltb (length pool) bytes_most p, le-ltb (length pool) 0 (omega arith))

  pub fresh_holds : length ws ≡ 4 * frags_most → bytes_most ≤ length pool → Holds (length pool) (start max ws pool) (starts max)
  unfolding concat size
  fresh_holds w p =
      record {
        sound = fresh_sound p;
        rows = rows_long frags_most ws w;
        pool = refl;
        seen = fresh-view;
        good = record { eight = refl; fit = tt; few = omega arith; small = omega arith };
      }

pub fresh-drawn : (max : ℕ) → Drawn (starts max)
unfolding draws size
fresh-drawn max = record { frags = omega arith; bytes = omega arith }

pub fresh-own : (max k : ℕ) → k < streams_most → get_or (starts max) k no_queue ≡ queue k 0 max [] [] []
fresh-own max k below = let e : 0 + k ≡ k = omega arith in rw e at (from_at max 0 streams_most k below)
