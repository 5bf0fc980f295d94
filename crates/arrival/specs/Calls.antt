-- "Arrival order does not matter", of the calls themselves: `pushed` and `read`, by which push and read promise what they answer and leave, one
-- after the other on one queue, its table and its pool. What stands in quotes is the demand, phrase by phrase.
-- Assumes nothing.
use Rattle.std.specs.Prelude.{◌≡◌, Bool, true, false, cond, List, [], ◌∷◌, ◌++◌, map, ℕ, suc, ◌+◌, ◌*◌, ◌^◌, ◌≤◌, length, take}
use Rattle.wire_model.specs.Refusal.{none, says}
use Rattle.data_fields.specs.declared.ChunkPayloadData.{ChunkPayloadData}
use Rattle.fragments.specs.Words.{size}
use Rattle.reassembly_state.specs.Limits.{frags_most, bytes_most}
use Rattle.reassembly_state.specs.Model.{Message, no_message, turn, room_for}
use Rattle.reassembly_state.specs.State.{State, view, fragments, fragment_of, pushed, is_readable, Read, reads, read, num_bytes}
use Rattle.reassembly_queue.specs.Queue.{state_of, fresh}
use Rattle.arrival_plan.specs.Plan.{tsn_at, Order, Merge}

-- ── "one stream's messages" ──

-- a chunk as it is pushed: its fields, and its user data
pub record Chunk : Type 0 where
  pub fields : ChunkPayloadData
  pub bytes : List ℕ

-- a message of the stream, cut: its payload identifier, the place of its first TSN in the arc, and its chunks
pub record Sent : Type 0 where
  pub ppi : ℕ
  pub first : ℕ
  pub chunks : List Chunk

-- a message is unordered, or ordered with a number
pub data Kind : Type 0 where
  Loose : Kind
  Number : ℕ → Kind

-- "its message's U mark and, if ordered, its number"
abbrev pub Bears : Kind → ChunkPayloadData → Type 0
Bears Loose p = p.unordered ≡ true
Bears (Number n) p = (p.unordered ≡ false) × (p.stream_sequence_number ≡ n)

-- whether nothing follows
abbrev pub null : List Chunk → Bool
null [] = true
null (c ∷ cs) = false

-- the bytes of chunks, one behind the other
abbrev pub bytes_of : List Chunk → List ℕ
bytes_of [] = []
bytes_of (c ∷ cs) = c.bytes ++ bytes_of cs

-- a chunk of a message, the first or not, the last or not, at place o of an arc of TSNs that starts at base
pub record Part (si base : ℕ) (kind : Kind) (ppi o : ℕ) (first last : Bool) (c : Chunk) : Type 0 where
  -- "one stream's"
  pub stream : c.fields.stream_identifier ≡ si
  -- "consecutive TSNs"
  pub tsn : c.fields.tsn ≡ tsn_at base o
  -- "the first alone marked beginning"
  pub beginning : c.fields.beginning_fragment ≡ first
  -- "the last alone ending"
  pub ending : c.fields.ending_fragment ≡ last
  -- "one payload identifier per message"
  pub identifier : c.fields.payload_type ≡ ppi
  -- "each chunk bearing its message's U mark and, if ordered, its number"
  pub bears : Bears kind c.fields

module _ (si base : ℕ) (kind : Kind) (ppi : ℕ) where
  -- the chunks behind the first
  abbrev pub Later : ℕ → List Chunk → Type 0
  Later o [] = Unit {0}
  Later o (c ∷ cs) = Part si base kind ppi o false (null cs) c × Later (suc o) cs

  -- "one or more chunks"
  abbrev pub Cut : ℕ → List Chunk → Type 0
  Cut o [] = ⊥
  Cut o (c ∷ cs) = Part si base kind ppi o true (null cs) c × Later (suc o) cs

-- a message of the plan
pub record Whole (si base max : ℕ) (kind : Kind) (m : Sent) : Type 0 where
  -- "none over the size limit"
  pub small : length (bytes_of m.chunks) ≤ max
  -- "cut into one or more chunks of consecutive TSNs, .."
  pub cut : Cut si base kind m.ppi m.first m.chunks
  -- "in one arc shorter than 2^31": places are below 2^31
  pub arc : m.first + length m.chunks ≤ 2 ^ 31

-- ordered messages, numbered on from n
abbrev pub Ordered : (si base max n : ℕ) → List Sent → Type 0
Ordered si base max n [] = Unit {0}
Ordered si base max n (m ∷ ms) = Whole si base max (Number n) m × Ordered si base max (suc n) ms

-- unordered messages
abbrev pub Unordered : (si base max : ℕ) → List Sent → Type 0
Unordered si base max [] = Unit {0}
Unordered si base max (m ∷ ms) = Whole si base max Loose m × Unordered si base max ms

-- all chunks of messages
abbrev pub chunks_of : List Sent → List Chunk
chunks_of [] = []
chunks_of (m ∷ ms) = m.chunks ++ chunks_of ms

-- t is the TSN of none
abbrev pub Absent : ℕ → List Chunk → Type 0
Absent t [] = Unit {0}
Absent t (c ∷ cs) = (c.fields.tsn ≡ t → ⊥) × Absent t cs

-- "TSNs are distinct"
abbrev pub Distinct : List Chunk → Type 0
Distinct [] = Unit {0}
Distinct (c ∷ cs) = Absent c.fields.tsn cs × Distinct cs

-- the plan: ordered messages in number order, unordered ones listed in any order
pub record Plan (si base max : ℕ) (os us : List Sent) : Type 0 where
  -- "Ordered messages, at most 32,767"
  pub few : length os ≤ 32767
  -- "are numbered on from 0"
  pub ordered : Ordered si base max 0 os
  -- the others bear U
  pub unordered : Unordered si base max us
  -- "TSNs are distinct": asked of unordered messages alone, since nothing rests on it for ordered ones
  pub distinct : Distinct (chunks_of us)

-- ── the calls ──

-- a push, or a take into a lent buffer; "no skip"
pub data Call : Type 0 where
  Push : Chunk → Call
  Take : List ℕ → Call

-- the chunks that are pushed
abbrev pub pushes : List Call → List Chunk
pushes [] = []
pushes (Push c ∷ cs) = c ∷ pushes cs
pushes (Take b ∷ cs) = pushes cs

-- what a push leaves
abbrev pub after_push : State → Chunk → State
after_push s c = (pushed s c.fields c.bytes).state

-- "queue and pool go from call to call unaltered": what one call leaves is what the next is lent
abbrev pub ran : State → List Call → State
ran s [] = s
ran s (Push c ∷ cs) = ran (after_push s c) cs
ran s (Take b ∷ cs) = ran (read s b).state cs

-- "room never exceeded": at most 512 fragments and 65,536 bytes with each push
abbrev pub Roomy : State → List Call → Type 0
Roomy s [] = Unit {0}
Roomy s (Push c ∷ cs) = (room_for (view s) (fragment_of c.fields c.bytes) ≡ true) × Roomy (after_push s c) cs
Roomy s (Take b ∷ cs) = Roomy (read s b).state cs

-- "take buffers long enough": for the message in turn, if there is one
abbrev pub Long : State → List Call → Type 0
Long s [] = Unit {0}
Long s (Push c ∷ cs) = Long (after_push s c) cs
Long s (Take b ∷ cs) = (is_readable s ≡ says none true → size (turn (view s)).frags ≤ length b) × Long (read s b).state cs

-- ── what comes out ──

-- a message that came: what the answer says of it, and as many bytes from the front of the lent buffer
pub record Came : Type 0 where
  pub told : Message
  pub bytes : List ℕ

abbrev pub came : Message → List ℕ → Came
came m buffer = record { told = m; bytes = take m.size buffer }

-- a take's message, if one comes, before later ones
abbrev pub given : Read → List Came → List Came
given r ms = cond r.told.values.comes (came r.told.values r.buffer ∷ ms) ms

-- the messages that came, in the order in which they came
abbrev pub out : State → List Call → List Came
out s [] = []
out s (Push c ∷ cs) = out (after_push s c) cs
out s (Take b ∷ cs) = given (read s b) (out (read s b).state cs)

-- no call is refused
abbrev pub Unrefused : State → List Call → Type 0
Unrefused s [] = Unit {0}
Unrefused s (Push c ∷ cs) = ((pushed s c.fields c.bytes).told.refusal ≡ none) × Unrefused (after_push s c) cs
Unrefused s (Take b ∷ cs) = ((read s b).told.refusal ≡ none) × Unrefused (read s b).state cs

-- a message as it has to come, with SSN n: the whole record, and "byte for byte"
abbrev pub message : ℕ → Sent → Came
message n m =
    record {
      told = record { comes = true; ssn = n; ppi = m.ppi; size = length (bytes_of m.chunks); position = 0; given = false };
      bytes = bytes_of m.chunks;
    }

-- ordered messages as they have to come, from number n on
abbrev pub in_order : ℕ → List Sent → List Came
in_order n [] = []
in_order n (m ∷ ms) = message n m ∷ in_order (suc n) ms

-- ── the claim ──

-- calls on a state, as the demand has them
pub record Run (os us : List Sent) (s : State) (calls : List Call) : Type 0 where
  -- "Each chunk comes once, in any order, takes anywhere between"
  pub once : Order Chunk (pushes calls) (chunks_of os ++ chunks_of us)
  -- "room never exceeded"
  pub room : Roomy s calls
  -- "take buffers long enough"
  pub long : Long s calls

-- what the demand says of them
pub record Arrived (os us : List Sent) (s : State) (calls : List Call) : Type 0 where
  -- "unordered ones in some order", "each once and byte for byte": an unordered message has SSN 0
  pub loose : List Came
  pub some_order : Order Came loose (map (message 0) us)
  -- "ordered messages came out in number order"
  pub merged : Merge Came (in_order 0 os) loose (out s calls)
  -- "nothing is held"
  pub nothing-held : fragments (ran s calls) ≡ []
  -- "the byte count is 0"
  pub no_bytes : num_bytes (ran s calls) ≡ says none 0
  -- no push and no take was refused
  pub unrefused : Unrefused s calls
  -- one more take answers that nothing is there, and leaves all as it is
  pub no_more : (buffer : List ℕ) → read (ran s calls) buffer ≡ reads (says none no_message) (ran s calls) buffer

-- "Start from a fresh queue"; its table and "the pool at its full limit" hold anything; "Take until nothing is readable"
abbrev pub Arrival : Type 0
Arrival =
    (si base max : ℕ) (os us : List Sent) → Plan si base max os us
    → (ws pool : List ℕ) → length ws ≡ 4 * frags_most → bytes_most ≤ length pool
    → (calls : List Call) → Run os us (state_of (fresh si max) ws pool) calls
    → is_readable (ran (state_of (fresh si max) ws pool) calls) ≡ says none false
    → Arrived os us (state_of (fresh si max) ws pool) calls

-- "Take until nothing is readable" has an end: 512 takes at the end, as many as the table has records, are enough
abbrev pub Arrival_then_takes : Type 0
Arrival_then_takes =
    (si base max : ℕ) (os us : List Sent) → Plan si base max os us
    → (ws pool : List ℕ) → length ws ≡ 4 * frags_most → bytes_most ≤ length pool
    → (calls : List Call) (buffers : List (List ℕ)) → frags_most ≤ length buffers
    → Run os us (state_of (fresh si max) ws pool) (calls ++ map Take buffers)
    → Arrived os us (state_of (fresh si max) ws pool) (calls ++ map Take buffers)
