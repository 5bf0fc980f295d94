-- The guarantee with skips: "same plan of messages, skips allowed anywhere", of the calls themselves: `pushed`, `read`, `forward_ordered` and
-- `forward_unordered`, by which the calls promise what they answer and leave, one after the other on one queue, its table and its pool.
-- What stands in quotes is the request, phrase by phrase, or demand 3, which it extends.
-- Assumes nothing.
use Rattle.std.specs.Prelude.{◌≡◌, Bool, true, false, cond, List, [], ◌∷◌, ◌++◌, map, ℕ, suc, ◌*◌, ◌^◌, ◌<◌, ◌≤◌, ltb, length, take, drop}
use Rattle.wire_model.specs.Refusal.{Refusal, none, says}
use Rattle.serial_model.specs.Serial.{before}
use Rattle.fragments.specs.Frag.{Frag}
use Rattle.fragments.specs.Words.{size}
use Rattle.reassembly_state.specs.Limits.{frags_most, bytes_most}
use Rattle.reassembly_state.specs.Model.{turn, room_for, no_message}
use Rattle.reassembly_state.specs.State.{State, view, fragments, fragment_of, pushed, is_readable, reads, read, forward_ordered, forward_unordered, num_bytes}
use Rattle.reassembly_queue.specs.Queue.{state_of, fresh}
use Rattle.arrival_plan.specs.Plan.{tsn_at, Order, Merge}
use Rattle.arrival.specs.Calls.{Chunk, Sent, bytes_of, chunks_of, Plan, Came, given, message, in_order}

-- ── the calls ──

-- a push, a take into a lent buffer, an ordered skip to an SSN, an unordered skip to a TSN
pub data Call : Type 0 where
  Push : Chunk → Call
  Take : List ℕ → Call
  SkipOrdered : ℕ → Call
  SkipUnordered : ℕ → Call

-- what a call leaves
abbrev pub left : State → Call → State
left s (Push c) = (pushed s c.fields c.bytes).state
left s (Take b) = (read s b).state
left s (SkipOrdered ssn) = (forward_ordered s ssn).state
left s (SkipUnordered tsn) = (forward_unordered s tsn).state

-- what it is refused with
abbrev pub refusal : State → Call → Refusal
refusal s (Push c) = (pushed s c.fields c.bytes).told.refusal
refusal s (Take b) = (read s b).told.refusal
refusal s (SkipOrdered ssn) = (forward_ordered s ssn).told.refusal
refusal s (SkipUnordered tsn) = (forward_unordered s tsn).told.refusal

-- the message that it gives, if it is a take and one comes, before later ones
abbrev pub gives : State → Call → List Came → List Came
gives s (Push c) ms = ms
gives s (Take b) ms = given (read s b) ms
gives s (SkipOrdered ssn) ms = ms
gives s (SkipUnordered tsn) ms = ms

-- "queue and pool go from call to call unaltered": what one call leaves is what the next is lent
abbrev pub ran : State → List Call → State
ran s [] = s
ran s (c ∷ cs) = ran (left s c) cs

-- the messages that came, in the order in which they came
abbrev pub out : State → List Call → List Came
out s [] = []
out s (c ∷ cs) = gives s c (out (left s c) cs)

-- P holds of each call and the state that it is lent
abbrev pub AtEach : (State → Call → Type 0) → State → List Call → Type 0
AtEach P s [] = Unit {0}
AtEach P s (c ∷ cs) = P s c × AtEach P (left s c) cs

-- the chunks that are pushed
abbrev pub pushes : List Call → List Chunk
pushes [] = []
pushes (Push c ∷ cs) = c ∷ pushes cs
pushes (Take b ∷ cs) = pushes cs
pushes (SkipOrdered ssn ∷ cs) = pushes cs
pushes (SkipUnordered tsn ∷ cs) = pushes cs

-- the SSNs that ordered skips name, and the TSNs that unordered ones do
abbrev pub ssns : List Call → List ℕ
ssns [] = []
ssns (Push c ∷ cs) = ssns cs
ssns (Take b ∷ cs) = ssns cs
ssns (SkipOrdered ssn ∷ cs) = ssn ∷ ssns cs
ssns (SkipUnordered tsn ∷ cs) = ssns cs

abbrev pub tsns : List Call → List ℕ
tsns [] = []
tsns (Push c ∷ cs) = tsns cs
tsns (Take b ∷ cs) = tsns cs
tsns (SkipOrdered ssn ∷ cs) = tsns cs
tsns (SkipUnordered tsn ∷ cs) = tsn ∷ tsns cs

-- ── the premises ──

-- "room never exceeded"
abbrev pub Roomy : State → Call → Type 0
Roomy s (Push c) = room_for (view s) (fragment_of c.fields c.bytes) ≡ true
Roomy s (Take b) = Unit {0}
Roomy s (SkipOrdered ssn) = Unit {0}
Roomy s (SkipUnordered tsn) = Unit {0}

-- "take buffers long enough": for the message in turn, if there is one
abbrev pub Long : State → Call → Type 0
Long s (Push c) = Unit {0}
Long s (Take b) = is_readable s ≡ says none true → size (turn (view s)).frags ≤ length b
Long s (SkipOrdered ssn) = Unit {0}
Long s (SkipUnordered tsn) = Unit {0}

-- "an SSN of the plan": ordered messages are numbered from 0 on
abbrev pub Named : List Sent → List ℕ → Type 0
Named os [] = Unit {0}
Named os (s ∷ l) = (s < length os) × Named os l

-- "a TSN in the same arc"
pub record InArc (base t : ℕ) : Type 0 where
  pub place : ℕ
  pub is : t ≡ tsn_at base place
  pub arc : place < 2 ^ 31

abbrev pub AllInArc : ℕ → List ℕ → Type 0
AllInArc base [] = Unit {0}
AllInArc base (t ∷ l) = InArc base t × AllInArc base l

-- calls on a state; `never` are chunks that do not come: none, where the request has it that each comes
pub record Run (base : ℕ) (os us : List Sent) (s : State) (calls : List Call) (never : List Chunk) : Type 0 where
  -- "Each chunk comes once, in any order"
  pub once : Order Chunk (pushes calls ++ never) (chunks_of os ++ chunks_of us)
  pub room : AtEach Roomy s calls
  pub long : AtEach Long s calls
  -- "Each ordered skip names an SSN of the plan"
  pub named : Named os (ssns calls)
  -- "each unordered one a TSN in the same arc"
  pub in_arc : AllInArc base (tsns calls)

-- ── how far skips went ──

-- how many numbers there are up to the highest of these; 0 if there is none
abbrev pub numbers_up_to : List ℕ → ℕ
numbers_up_to [] = 0
numbers_up_to (s ∷ l) = cond (ltb s (numbers_up_to l)) (numbers_up_to l) (suc s)

-- how many messages are numbered up to "the highest skipped SSN"
abbrev pub up_to : List Call → ℕ
up_to calls = numbers_up_to (ssns calls)

-- "the highest skipped TSN": t, or a later one of the list
abbrev pub highest : ℕ → List ℕ → ℕ
highest t [] = t
highest t (u ∷ l) = highest (cond (before 32 t u) u t) l

-- all TSNs are after t
abbrev pub AllAfter : ℕ → List Chunk → Type 0
AllAfter t [] = Unit {0}
AllAfter t (c ∷ cs) = (before 32 t c.fields.tsn ≡ true) × AllAfter t cs

-- "all .. TSNs are after the highest skipped TSN (all, if none was)"
abbrev pub Untouched : List ℕ → List Chunk → Type 0
Untouched [] cs = Unit {0}
Untouched (t ∷ l) cs = AllAfter (highest t l) cs

-- "messages touched by a skip"
abbrev pub Touched : List ℕ → List Sent → Type 0
Touched l [] = Unit {0}
Touched l (m ∷ ms) = (Untouched l m.chunks → ⊥) × Touched l ms

-- a chunk, unordered or not, that a skip makes needless: its TSN is not after the highest skipped one, or its message's number is not
abbrev pub Needless : List Call → Bool → Chunk → Type 0
Needless calls true c = Untouched (tsns calls) (c ∷ []) → ⊥
Needless calls false c = c.fields.stream_sequence_number < up_to calls

abbrev pub AllNeedless : List Call → List Chunk → Type 0
AllNeedless calls [] = Unit {0}
AllNeedless calls (c ∷ cs) = Needless calls c.fields.unordered c × AllNeedless calls cs

-- ── the claims ──

-- At any time, whatever has not come: "every message taken is a whole message of the plan, byte for byte"
pub record Taken (os us : List Sent) (s : State) (calls : List Call) : Type 0 where
  -- the ordered messages that came, and those that did not; "none comes twice"
  pub came : List Came
  pub lost : List Came
  pub numbered : Merge Came came lost (in_order 0 os)
  -- the unordered messages that came, in the order in which they came, and those that did not; "none comes twice"
  pub loose : List Sent
  pub gone : List Sent
  pub unnumbered : Order Sent (loose ++ gone) us
  -- "ordered ones come in number order"; an unordered message has SSN 0
  pub merged : Merge Came came (map (message 0) loose) (out s calls)
  -- no call was refused
  pub unrefused : AtEach (λ (t : State) (c : Call). refusal t c ≡ none) s calls

-- a chunk as it is held
abbrev pub piece : Chunk → Frag
piece c = fragment_of c.fields c.bytes

-- "once taking ends"
pub record Arrived (os us : List Sent) (s : State) (calls : List Call) : Type 0 where
  pub taken : Taken os us s calls
  -- "every ordered message numbered after the highest skipped SSN comes out": behind those up to it that came; the others up to it are all that did not
  pub early : List Came
  pub numbered : Merge Came early taken.lost (in_order 0 (take (up_to calls) os))
  pub behind : taken.came ≡ early ++ in_order (up_to calls) (drop (up_to calls) os)
  -- "every unordered message all of whose TSNs are after the highest skipped TSN does too": those that did not come are others
  pub touched : Touched (tsns calls) taken.gone
  -- "What remains held may only be pieces of unordered messages touched by a skip": of their chunks some are held, the others are not
  pub pieces : List Chunk
  pub others : List Chunk
  pub parted : Merge Chunk pieces others (chunks_of taken.gone)
  pub held : fragments (ran s calls) ≡ map piece pieces
  -- "and the byte count is their sum"
  pub bytes : num_bytes (ran s calls) ≡ says none (length (bytes_of pieces))
  -- one more take answers that nothing is there, and leaves all as it is
  pub no_more : (buffer : List ℕ) → read (ran s calls) buffer ≡ reads (says none no_message) (ran s calls) buffer

-- "same plan of messages"; "Start from a fresh queue"; its table and "the pool at its full limit" hold anything
abbrev pub Always : Type 0
Always =
    (si base max : ℕ) (os us : List Sent) → Plan si base max os us
    → (ws pool : List ℕ) → length ws ≡ 4 * frags_most → bytes_most ≤ length pool
    → (calls : List Call) (never : List Chunk) → Run base os us (state_of (fresh si max) ws pool) calls never
    → Taken os us (state_of (fresh si max) ws pool) calls

-- and where every chunk came, but for some that a skip makes needless: "Take until nothing is readable"
abbrev pub Arrival : Type 0
Arrival =
    (si base max : ℕ) (os us : List Sent) → Plan si base max os us
    → (ws pool : List ℕ) → length ws ≡ 4 * frags_most → bytes_most ≤ length pool
    → (calls : List Call) (never : List Chunk) → Run base os us (state_of (fresh si max) ws pool) calls never → AllNeedless calls never
    → is_readable (ran (state_of (fresh si max) ws pool) calls) ≡ says none false
    → Arrived os us (state_of (fresh si max) ws pool) calls

-- and taking ends: as many takes at the end as the table has records are enough
abbrev pub Arrival_then_takes : Type 0
Arrival_then_takes =
    (si base max : ℕ) (os us : List Sent) → Plan si base max os us
    → (ws pool : List ℕ) → length ws ≡ 4 * frags_most → bytes_most ≤ length pool
    → (calls : List Call) (buffers : List (List ℕ)) → frags_most ≤ length buffers
    → (never : List Chunk) → Run base os us (state_of (fresh si max) ws pool) (calls ++ map Take buffers) never → AllNeedless (calls ++ map Take buffers) never
    → Arrived os us (state_of (fresh si max) ws pool) (calls ++ map Take buffers)
