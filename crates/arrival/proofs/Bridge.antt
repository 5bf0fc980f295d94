-- A state that holds a queue of the model: each call leads to one that holds what the model's call leaves, and answers what that answers.
-- Assumes nothing.
use mathlib.Core.Path.{◌≡◌, refl, sym, ap, subst, ◌∙◌}
use mathlib.Core.Bool.{Bool, true, false, cond}
use mathlib.Core.List.{List, [], ◌∷◌, map}
use Prim.Native.Nat.{ℕ, ◌+◌, ◌*◌, ◌≤◌}
use native.Mathlib.Omega.{arith}
use borrow.Author.Tests.{le-ltb}
use lib.Dec.{ltb, eqb}
use lib.ListN.{length, take, length-map}
use lib.Seq.{take_at}
use Rattle.wire_model.specs.BigEndian.{over}
use Rattle.wire_model.specs.Facts.{over-length}
use Rattle.wire_model.specs.Refusal.{none, refuse, says}
use Rattle.serial_model.specs.Serial.{before}
use Rattle.table.proofs.Columns.{rows_long}
use Rattle.fragments.specs.Frag.{Frag, ssn_of, has_tsn, row_of}
use Rattle.fragments.specs.Words.{size, joined, any}
use Rattle.fragment_sets.specs.Sets.{set_of}
use Rattle.loose_fragments.specs.Loose.{reach}
use Rattle.loose_fragments.specs.declared.Span.{Span}
use Rattle.fragments.specs.Pool.{cut}
use Rattle.fragments.proofs.Pool.{joined_length}
use Rattle.reassembly_state.specs.Limits.{frags_most, bytes_most}
use Rattle.reassembly_state.specs.Model.{Queue, held, Given, room_for, keep_ordered, move_run, keep_loose, push_ordered, push_unordered, push, Turn, finished_turn, ordered_turn, first_ppi, turn, readable, no_message, message_of, Took, took, taken}
use Rattle.reassembly_state.specs.State.{State, unsound, view, lay, After, laid, pushed, is_readable, Read, lay_taken, read}
use Rattle.reassembly_queue.specs.Queue.{state_of, fresh}
use Rattle.reassembly_state.proofs.Laws.{sound}
use Rattle.reassembly_state.proofs.Laid.{view-lay, sound_lay}
use Rattle.reassembly_theorems.proofs.Stays.{Good, taken_good, push_good, fresh_sound}
use Rattle.arrival_plan.specs.Plan as model
use Rattle.arrival.specs.Calls.{Chunk, Call, Push, Take, pushes, after_push, ran, Roomy, Long, Came, given, out, Unrefused}
use Rattle.arrival_plan.proofs.Maps.{Each}
use Rattle.arrival.proofs.Planned.{frag_of, piece_of, Of}

-- ── the stream stays ──

both : {A : Type 0} (P : A → Type 0) (b : Bool) {x y : A} → P x → P y → P (cond b x y)
both P true h k = h
both P false h k = k

pub record Own (q m : Queue) : Type 0 where
  pub is : m.si ≡ q.si

module _ (q : Queue) where
  abbrev pub Kept : Given Bool → Type 0
  Kept g = Own q g.queue

  same : Own q q
  same = record { is = refl }

  module _ (room : Bool) (f : Frag) where
    kept-own : Kept (keep_ordered q f)
    unfolding keep_ordered
    kept-own = record { is = refl }

    moved-own : (l : List Frag) (s : Span) → Kept (move_run q l s)
    unfolding move_run
    moved-own l s = both Kept (ltb s.from s.to) (record { is = refl }) (record { is = refl })

    loose-own : Kept (keep_loose q f)
    unfolding keep_loose
    loose-own = moved-own _ _

    ordered-own : Kept (push_ordered room q f)
    unfolding push_ordered
    ordered-own =
        both Kept (ltb q.max (size (set_of (ssn_of f) q.ordered) + length f.bytes)) same
        (both Kept (before 16 (ssn_of f) q.next) same (both Kept (any (has_tsn f.tsn) (set_of (ssn_of f) q.ordered)) same (both Kept room kept-own same)))

    unordered-own : Kept (push_unordered room q f)
    unfolding push_unordered
    unordered-own =
        both Kept (ltb q.max (reach f q.unordered)) same (both Kept (any (has_tsn f.tsn) q.unordered) same (both Kept room loose-own same))

    pub push-own : (stream : ℕ) (u : Bool) → Kept (push room q stream u f)
    unfolding push
    push-own stream u = both Kept (eqb stream q.si) (both Kept u unordered-own ordered-own) same

  turn-own : Own q (turn q).queue
  unfolding turn finished_turn ordered_turn
  turn-own = both (λ (t : Turn). Own q t.queue) (ltb 0 (length q.finished)) (record { is = refl }) (record { is = refl })

  pub take_own : Own q (model.after_take q)
  take_own = both (Own q) (readable q) turn-own same

-- ── what a state holds ──

pub record Holds (s : State) (q : Queue) : Type 0 where
  pub sound : unsound s ≡ false
  pub rows : length s.rows ≡ frags_most
  pub seen : view s ≡ q
  pub good : Good bytes_most q

module _ {s : State} {q : Queue} (h : Holds s q) where
  pub laid_holds : (m : Queue) → Good bytes_most m → Holds (lay m s) m
  unfolding lay
  laid_holds m g =
      let long = (sound s h.sound).long in
      record {
        sound = sound_lay m s g.fit g.few (omega (arith, g.small)) long;
        rows = over-length s.rows (map row_of (held m)) (rw (length-map (held m) row_of, h.rows) g.few) ∙ h.rows;
        seen = view-lay m s g.fit;
        good = g;
      }

  -- ── a push ──

  module _ (c : Chunk) (own : Of q.si c) where
    abbrev pushing : Given Bool
    pushing = push (room_for q (frag_of c)) q q.si c.fields.unordered (frag_of c)

    push-is : pushed s c.fields c.bytes ≡ laid s pushing
    unfolding pushed
    push-is = rw (h.sound, h.seen, own)

    pub push_holds : Holds (after_push s c) (model.after_push q (piece_of c))
    push_holds =
        subst (λ (a : After Bool). Holds a.state pushing.queue) (sym push-is)
        (laid_holds pushing.queue (push_good h.good (omega arith) (frag_of c) q.si c.fields.unordered))

    pub push-told : (pushed s c.fields c.bytes).told ≡ pushing.told
    push-told = ap (λ (a : After Bool). a.told) push-is

  -- ── a take ──

  pub readable-is : is_readable s ≡ says none (readable q)
  unfolding is_readable
  readable-is = rw (h.sound, h.seen)

  pub read_is : (buffer : List ℕ) → read s buffer ≡ lay_taken s (taken q buffer)
  unfolding read
  read_is buffer = rw (h.sound, h.seen)

-- a message of the model, as an answer and a buffer tell it
abbrev pub told : model.Message → Came
told m =
    record {
      told = record { comes = true; ssn = m.ssn; ppi = m.ppi; size = length m.bytes; position = 0; given = false };
      bytes = m.bytes;
    }

-- into a buffer long enough
module _ (q : Queue) (buffer : List ℕ) (long : readable q ≡ true → size (turn q).frags ≤ length buffer) where
  abbrev full : Took
  full = took (says none (message_of (turn q))) (turn q).queue (over buffer (joined (turn q).frags))

  abbrev empty : Took
  empty = took (says none no_message) q buffer

  taken_is : taken q buffer ≡ cond (readable q) full empty
  unfolding taken
  taken_is = go (readable q) refl
    where
      go : (b : Bool) → readable q ≡ b
          → cond b (cond (ltb (length buffer) (size (turn q).frags)) (took (says (refuse 10) no_message) q buffer) full) empty ≡ cond b full empty
      go true e = rw (le-ltb (length buffer) (size (turn q).frags) (long e))
      go false e = refl

  -- one answer or the other
  by_taken : (P : Took → Bool → Type 0) → P full true → P empty false → P (taken q buffer) (readable q)
  by_taken P f e = rw taken_is (go (readable q))
    where
      go : (b : Bool) → P (cond b full empty) b
      go true = f
      go false = e

  queue-is : (taken q buffer).queue ≡ model.after_take q
  queue-is = by_taken (λ (t : Took) (b : Bool). t.queue ≡ cond b (turn q).queue q) refl refl

  pub take_unrefused : (taken q buffer).told.refusal ≡ none
  take_unrefused = by_taken (λ (t : Took) (b : Bool). t.told.refusal ≡ none) refl refl

  front : take (size (turn q).frags) (over buffer (joined (turn q).frags)) ≡ joined (turn q).frags
  unfolding over
  front = take_at (joined (turn q).frags) _ (size (turn q).frags) (joined_length (turn q).frags)

  module _ (s : State) (ms : List model.Message) where
    pub given_is : given (lay_taken s (taken q buffer)) (map told ms) ≡ map told (model.given q ms)
    unfolding message_of
    given_is =
        by_taken (λ (t : Took) (b : Bool). given (lay_taken s t) (map told ms) ≡ map told (cond b (record { ssn = (turn q).ssn; ppi = first_ppi (turn q).frags; bytes = joined (turn q).frags } ∷ ms) ms))
        (rw (front, joined_length (turn q).frags))
        refl

-- ── a run ──

abbrev pub events : List Call → List model.Event
events [] = []
events (Push c ∷ cs) = model.Push (piece_of c) ∷ events cs
events (Take b ∷ cs) = model.Take ∷ events cs

pub event_pushes : (calls : List Call) → model.pushes (events calls) ≡ map piece_of (pushes calls)
event_pushes [] = refl
event_pushes (Push c ∷ cs) = ap (λ (l : List model.Carried). piece_of c ∷ l) (event_pushes cs)
event_pushes (Take b ∷ cs) = event_pushes cs

module _ {s : State} {q : Queue} (h : Holds s q) (b : List ℕ) where
  -- "long enough" of the state is so of the model
  pub long_for : (is_readable s ≡ says none true → size (turn (view s)).frags ≤ length b) → readable q ≡ true → size (turn q).frags ≤ length b
  long_for k e = rw h.seen at (k (readable-is h ∙ ap (says none) e))

  pub take_holds : (readable q ≡ true → size (turn q).frags ≤ length b) → Holds (read s b).state (model.after_take q)
  take_holds l =
      subst (λ (r : Read). Holds r.state (model.after_take q)) (sym (read_is h b))
      (subst (Holds (lay (taken q b).queue s)) (queue-is q b l) (laid_holds h (taken q b).queue (taken_good h.good b)))

-- calls of one stream on a state, beside the model's events
pub record Walked (s : State) (q : Queue) (calls : List Call) : Type 0 where
  pub holds : Holds (ran s calls) (model.final q (events calls))
  pub roomy : model.Roomy q (events calls)
  pub came : out s calls ≡ map told (model.out q (events calls))
  pub answered : model.Unrefused q (events calls) → Unrefused s calls

pub walk : {s : State} {q : Queue} → Holds s q → (calls : List Call) → Each (Of q.si) (pushes calls) → Roomy s calls → Long s calls → Walked s q calls
walk {s = s} h [] o r l = record { holds = h; roomy = tt; came = refl; answered = λ u. tt }
walk {s = s} {q = q} h (Push c ∷ cs) o r l =
    let w = walk {s = after_push s c} (push_holds h c o.0) cs (rw (push-own q _ (frag_of c) q.si c.fields.unordered).is o.1) r.1 l in
    record {
      holds = w.holds;
      roomy = (rw h.seen at r.0, w.roomy);
      came = w.came;
      answered = λ u. (rw (push-told h c o.0) u.0, w.answered u.1);
    }
walk {s = s} {q = q} h (Take b ∷ cs) o r l =
    let k = long_for h b l.0 in
    let w = walk {s = (read s b).state} (take_holds h b k) cs (rw (take_own q).is o) r l.1 in
    record {
      holds = w.holds;
      roomy = w.roomy;
      came = rw (w.came, read_is h b, given_is q b k s (model.out (model.after_take q) (events cs)));
      answered = λ u. (rw (read_is h b) (take_unrefused q b k), w.answered u);
    }

-- ── the start ──

pub fresh_holds : (si max : ℕ) (ws pool : List ℕ) → length ws ≡ 4 * frags_most → bytes_most ≤ length pool → Holds (state_of (fresh si max) ws pool) (model.starts si max)
unfolding view cut size
fresh_holds si max ws pool w p =
    record {
      sound = fresh_sound si max ws pool p;
      rows = rows_long frags_most ws w;
      seen = refl;
      good = record { fit = tt; few = omega arith; small = omega arith };
    }

-- ── and back: what the model's run meets, the calls meet ──

abbrev pub Long_on : Queue → List Call → Type 0
Long_on q [] = Unit {0}
Long_on q (Push c ∷ cs) = Long_on (model.after_push q (piece_of c)) cs
Long_on q (Take b ∷ cs) = (size (turn q).frags ≤ length b) × Long_on (model.after_take q) cs

pub back : {s : State} {q : Queue} → Holds s q → (calls : List Call) → Each (Of q.si) (pushes calls) → model.Roomy q (events calls) → Long_on q calls → Roomy s calls × Long s calls
back {s = s} h [] o r l = (tt, tt)
back {s = s} {q = q} h (Push c ∷ cs) o r l =
    let k = back {s = after_push s c} (push_holds h c o.0) cs (rw (push-own q _ (frag_of c) q.si c.fields.unordered).is o.1) r.1 l in
    ((rw h.seen r.0, k.0), k.1)
back {s = s} {q = q} h (Take b ∷ cs) o r l =
    let k = back {s = (read s b).state} (take_holds h b (λ e. l.0)) cs (rw (take_own q).is o) r l.1 in
    (k.0, (λ e. rw h.seen l.0, k.1))
