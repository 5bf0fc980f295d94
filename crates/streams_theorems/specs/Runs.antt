-- Runs of calls on eight streams, and on one stream alone: "from fresh, queue and pool handed on as in demand 3".
-- Assumes nothing.
use Rattle.std.specs.Prelude.{◌≡◌, Bool, true, cond, List, [], ◌∷◌, ℕ, ◌≤◌, eqb, length}
use Rattle.wire_model.specs.Refusal.{Refusal, refuse, Told}
use Rattle.fragments.specs.Words.{size}
use Rattle.reassembly_state.specs.Model.{Queue, held, push, Message}
use Rattle.reassembly_state.specs.State as one
use Rattle.reassembly_state.specs.State.{fragment_of}
use Rattle.reassembly_bounded.specs.Bounded as bounded
use Rattle.reassembly_applicable.specs.Applicable as applicable
use Rattle.reassembly_applicable.specs.Applicable.{Found}
use Rattle.streams_model.specs.Limits.{own_frags, own_bytes}
use Rattle.streams_model.specs.Shape.{fresh_streams}
use Rattle.streams_model.specs.Room.{room_among}
use Rattle.streams_model.specs.State as streams
use Rattle.streams_model.specs.State.{State, state_of, view, own}
use Rattle.arrival.specs.Calls.{Chunk}

-- ── calls and answers ──

-- what is asked of a stream: a push, a take into a lent buffer, the two looks, the three skips, and how much of a skip is applicable
pub data Act : Type 0 where
  Push : Chunk → Act
  Take : List ℕ → Act
  IsReadable : Act
  NumBytes : Act
  SkipOrdered : ℕ → Act
  SkipUnordered : ℕ → Act
  SkipBounded : ℕ → ℕ → Act
  Applicable : ℕ → ℕ → ℕ → Act

-- a call: the number of a stream, any number, and what is asked of it
pub record Call : Type 0 where
  pub stream : ℕ
  pub act : Act

-- what a call answers: the whole of what it tells, and of a take also the lent buffer as it leaves it
pub data Answer : Type 0 where
  Says : Told Bool → Answer
  Gives : Told Message → List ℕ → Answer
  Counts : Told ℕ → Answer
  Finds : Told Found → Answer

-- what it is refused with, or none
abbrev pub refusal_of : Answer → Refusal
refusal_of (Says t) = t.refusal
refusal_of (Gives t b) = t.refusal
refusal_of (Counts t) = t.refusal
refusal_of (Finds t) = t.refusal

-- ── eight streams ──

-- what a call leaves
abbrev pub left : State → ℕ → Act → State
left s k (Push c) = (streams.pushed s k c.fields c.bytes).state
left s k (Take b) = (streams.read s k b).state
left s k IsReadable = s
left s k NumBytes = s
left s k (SkipOrdered ssn) = (streams.forward_ordered s k ssn).state
left s k (SkipUnordered tsn) = (streams.forward_unordered s k tsn).state
left s k (SkipBounded ssn tsn) = (streams.forward_bounded s k ssn tsn).state
left s k (Applicable ssn tsn peer) = s

abbrev pub answer : State → ℕ → Act → Answer
answer s k (Push c) = Says (streams.pushed s k c.fields c.bytes).told
answer s k (Take b) = Gives (streams.read s k b).told (streams.read s k b).buffer
answer s k IsReadable = Says (streams.is_readable s k)
answer s k NumBytes = Counts (streams.num_bytes s k)
answer s k (SkipOrdered ssn) = Says (streams.forward_ordered s k ssn).told
answer s k (SkipUnordered tsn) = Says (streams.forward_unordered s k tsn).told
answer s k (SkipBounded ssn tsn) = Says (streams.forward_bounded s k ssn tsn).told
answer s k (Applicable ssn tsn peer) = Finds (streams.applicable s k ssn tsn peer)

-- "from fresh": any words as long as the table, any pool that is long enough
abbrev pub start : ℕ → List ℕ → List ℕ → State
start max ws pool = state_of (fresh_streams max) ws pool

-- "queue and pool handed on": what one call leaves is what the next is lent
abbrev pub ran : State → List Call → State
ran s [] = s
ran s (c ∷ cs) = ran (left s c.stream c.act) cs

-- the calls on stream k, in order
abbrev pub calls_on : ℕ → List Call → List Act
calls_on k [] = []
calls_on k (c ∷ cs) = cond (eqb c.stream k) (c.act ∷ calls_on k cs) (calls_on k cs)

-- "its answers, taken bytes and byte count": what the calls on stream k answer, in order
abbrev pub answers_on : ℕ → State → List Call → List Answer
answers_on k s [] = []
answers_on k s (c ∷ cs) =
    cond (eqb c.stream k) (answer s c.stream c.act ∷ answers_on k (left s c.stream c.act) cs) (answers_on k (left s c.stream c.act) cs)

-- P holds of each call on stream k, and of the state that it is lent
abbrev pub EachOn : ℕ → (State → Act → Type 0) → State → List Call → Type 0
EachOn k P s [] = Unit {0}
EachOn k P s (c ∷ cs) = (c.stream ≡ k → P s c.act) × EachOn k P (left s c.stream c.act) cs

-- ── one stream alone: the queue of document 01, with a table and a pool of its own ──

abbrev pub left_alone : one.State → Act → one.State
left_alone s (Push c) = (one.pushed s c.fields c.bytes).state
left_alone s (Take b) = (one.read s b).state
left_alone s IsReadable = s
left_alone s NumBytes = s
left_alone s (SkipOrdered ssn) = (one.forward_ordered s ssn).state
left_alone s (SkipUnordered tsn) = (one.forward_unordered s tsn).state
left_alone s (SkipBounded ssn tsn) = (bounded.forward_bounded s ssn tsn).state
left_alone s (Applicable ssn tsn peer) = s

abbrev pub answer_alone : one.State → Act → Answer
answer_alone s (Push c) = Says (one.pushed s c.fields c.bytes).told
answer_alone s (Take b) = Gives (one.read s b).told (one.read s b).buffer
answer_alone s IsReadable = Says (one.is_readable s)
answer_alone s NumBytes = Counts (one.num_bytes s)
answer_alone s (SkipOrdered ssn) = Says (one.forward_ordered s ssn).told
answer_alone s (SkipUnordered tsn) = Says (one.forward_unordered s tsn).told
answer_alone s (SkipBounded ssn tsn) = Says (bounded.forward_bounded s ssn tsn).told
answer_alone s (Applicable ssn tsn peer) = Finds (applicable.applicable s ssn tsn peer)

abbrev pub ran_alone : one.State → List Act → one.State
ran_alone s [] = s
ran_alone s (a ∷ acts) = ran_alone (left_alone s a) acts

abbrev pub answers_alone : one.State → List Act → List Answer
answers_alone s [] = []
answers_alone s (a ∷ acts) = answer_alone s a ∷ answers_alone (left_alone s a) acts

-- ── room ──

-- what is said of a push alone, and of its chunk
abbrev pub OfPush : (Chunk → Type 0) → Act → Type 0
OfPush P (Push c) = P c
OfPush P (Take b) = Unit {0}
OfPush P IsReadable = Unit {0}
OfPush P NumBytes = Unit {0}
OfPush P (SkipOrdered ssn) = Unit {0}
OfPush P (SkipUnordered tsn) = Unit {0}
OfPush P (SkipBounded ssn tsn) = Unit {0}
OfPush P (Applicable ssn tsn peer) = Unit {0}

-- a push has room: "after the push, the streams' draws" do not "add to more than the common part, in either measure"
abbrev pub Roomy : ℕ → State → Act → Type 0
Roomy k s a = OfPush (λ (c : Chunk). room_among (view s) k (fragment_of c.fields c.bytes) ≡ true) a

-- a call is not refused with 8: it has room, or is answered before room is asked for
abbrev pub NotFull : ℕ → State → Act → Type 0
NotFull k s a = (t : Told Bool) → answer s k a ≡ Says t → t.refusal ≡ refuse 8 → ⊥

-- what a push would leave, if there is room
abbrev pub would_leave : Queue → Chunk → Queue
would_leave q c = (push true q c.fields.stream_identifier c.fields.unordered (fragment_of c.fields c.bytes)).queue

-- "within its own 16 and 4,096"
pub record WithinOwn (q : Queue) : Type 0 where
  pub frags : length (held q) ≤ own_frags
  pub bytes : size (held q) ≤ own_bytes

-- "each of its pushes would leave it within its own 16 and 4,096"
abbrev pub OnItsOwn : ℕ → State → Act → Type 0
OnItsOwn k s a = OfPush (λ (c : Chunk). WithinOwn (would_leave (own s k) c)) a
