-- Eight streams as they are lent: counts by value, rows of one table, bytes of one pool; what each stream holds, and every call.
-- Assumes nothing.
use Rattle.std.specs.Prelude.{ℕ, ◌+◌, Bool, true, false, not, ◌||◌, ◌&&◌, List, [], ◌∷◌, map, ltb, leb, eqb, length, take, drop, get_or, set}
use Rattle.std.proofs.Math.Option as option
use Rattle.wire_model.specs.Refusal.{Refusal, none, refuse, when, first, Told, says}
use Rattle.data_fields.specs.declared.ChunkPayloadData.{ChunkPayloadData}
use Rattle.table.specs.Rows.{rows_of, total}
use Rattle.table.specs.declared.Row.{Row}
use Rattle.fragments.specs.Frag.{Frag, long_length}
use Rattle.fragments.specs.Words.{size, concat}
use Rattle.fragments.specs.Pool.{cut, lay_rows, lay_bytes}
use Rattle.reassembly_state.specs.Limits.{frags_most, bytes_most}
use Rattle.reassembly_state.specs.Model.{Queue, queue, held, Given, push, Message, no_message, Took, taken, readable, skip_ordered, skip_unordered}
use Rattle.reassembly_state.specs.State.{count, counts, fragment_of}
use Rattle.reassembly_state.specs.declared.Counts.{Counts}
use Rattle.set_reach.specs.Bounded.{skip_bounded}
use Rattle.set_reach.specs.Applicable.{Found, found_in, applies}
use Rattle.streams_model.specs.Limits.{streams_most}
use Rattle.streams_model.specs.Shape.{queues_of}
use Rattle.streams_model.specs.Room.{room_among}
use Rattle.streams_model.specs.declared.Streams.{Streams}

pub record State : Type 0 where
  pub queues : List Counts
  pub rows : List Row
  pub pool : List ℕ

-- a struct, and the words and bytes lent beside it
abbrev pub state_of : Streams → List ℕ → List ℕ → State
state_of q ws pool = record { queues = queues_of q; rows = rows_of frags_most ws; pool = pool }

-- a number of each, added
abbrev pub summed : (Counts → ℕ) → List Counts → ℕ
summed f [] = 0
summed f (q ∷ qs) = f q + summed f qs

-- the number of fragments of all streams
abbrev pub rows_held : List Counts → ℕ
rows_held qs = summed count qs

-- a stream's byte count, and the sum of the streams'
abbrev pub bytes_of : Counts → ℕ
bytes_of q = q.n_bytes

abbrev pub bytes_said : List Counts → ℕ
bytes_said qs = summed bytes_of qs

-- each stream's byte count is the sum of the lengths that its records say; a stream's records stand behind those of the streams before it
unfoldable pub sums : List Counts → List Row → Bool
sums [] rows = true
sums (q ∷ qs) rows = eqb (total long_length (take (count q) rows)) q.n_bytes && sums qs (drop (count q) rows)

-- refusal 0: "a count above its table, pool shorter than its limit, a place outside the lent pool .., a byte count that is not the sum of held lengths"
unfoldable pub unsound : State → Bool
unsound s =
    ltb frags_most (rows_held s.queues)
    || (ltb (length s.pool) bytes_most
    || (ltb (length s.pool) (total long_length (take (rows_held s.queues) s.rows)) || not (sums s.queues s.rows)))

-- ── what they hold ──

-- the fragments of all, stream after stream
abbrev pub fragments : State → List Frag
fragments s = cut (take (rows_held s.queues) s.rows) s.pool

-- the queue of these counts that holds these fragments: finished messages, loose unordered fragments, ordered sets
unfoldable pub queue_of : Counts → List Frag → Queue
queue_of q fs =
    queue q.si q.next_ssn q.max_message_size (take q.finished fs) (take q.unordered (drop q.finished fs))
    (drop (q.finished + q.unordered) fs)

-- each stream's own
unfoldable pub split : List Counts → List Frag → List Queue
split [] fs = []
split (q ∷ qs) fs = queue_of q (take (count q) fs) ∷ split qs (drop (count q) fs)

unfoldable pub view : State → List Queue
view s = split s.queues (fragments s)

-- ── how a change is laid over them: what is held goes to the front of rows and pool, stream after stream, and "the rest of each stays" ──

-- the fragments of all
abbrev pub held_by : List Queue → List Frag
held_by ms = concat (map held ms)

unfoldable pub lay : List Queue → State → State
lay ms s = record { queues = map counts ms; rows = lay_rows (held_by ms) s.rows; pool = lay_bytes (held_by ms) s.pool }

-- ── the calls ──

-- what a call answers, and what it leaves
pub record After (A : Type 0) : Type 0 where
  pub told : Told A
  pub state : State

abbrev pub after : {A : Type 0} → Told A → State → After A
after t s = record { told = t; state = s }

-- an empty queue, where no stream is
abbrev pub no_queue : Queue
no_queue = queue 0 0 0 [] [] []

-- the queue of a stream
abbrev pub own : State → ℕ → Queue
own s k = get_or (view s) k no_queue

-- the others' queues beside a new one of a stream
abbrev pub with_own : State → ℕ → Queue → State
with_own s k m = lay (set (view s) k m) s

-- what a call of a stream's queue gives, laid over what was lent
abbrev pub laid : {A : Type 0} → State → ℕ → Given A → After A
laid s k g = after g.told (with_own s k g.queue)

-- what every call asks first: 0 "before every other answer"; "A stream number of 8 or above is refusal 19, after 0 and before all else"
abbrev pub refused : State → ℕ → Refusal
refused s k = first (when (unsound s) 0 ∷ when (leb streams_most k) 19 ∷ [])

-- what a call gives where nothing is refused, else what the refusal leaves
abbrev pub unless : {B : Type 0} → Refusal → (Refusal → B) → B → B
unless none refusing gives = gives
unless (refuse n) refusing gives = refusing (refuse n)

-- refused with other fields zero and all unchanged, or as the stream's queue has it
abbrev pub on_stream : {A : Type 0} → A → State → ℕ → After A → After A
on_stream zero s k = unless (refused s k) (λ r. after (says r zero) s)

unfoldable pub pushed : State → ℕ → ChunkPayloadData → List ℕ → After Bool
pushed s k p bytes =
    let f = fragment_of p bytes in
    on_stream false s k (laid s k (push (room_among (view s) k f) (own s k) p.stream_identifier p.unordered f))

-- what a look at a stream's queue answers
abbrev pub looked : {A : Type 0} → A → State → ℕ → A → Told A
looked zero s k v = unless (refused s k) (λ r. says r zero) (says none v)

unfoldable pub is_readable : State → ℕ → Told Bool
is_readable s k = looked false s k (readable (own s k))

-- what a take leaves: its answer, the queues, and the lent buffer
pub record Read : Type 0 where
  pub told : Told Message
  pub state : State
  pub buffer : List ℕ

abbrev pub reads : Told Message → State → List ℕ → Read
reads t s b = record { told = t; state = s; buffer = b }

abbrev pub lay_taken : State → ℕ → Took → Read
lay_taken s k t = reads t.told (with_own s k t.queue) t.buffer

unfoldable pub read : State → ℕ → List ℕ → Read
read s k buffer = unless (refused s k) (λ r. reads (says r no_message) s buffer) (lay_taken s k (taken (own s k) buffer))

-- a skip on a stream leaves its queue so
abbrev pub skipped : State → ℕ → Queue → After Bool
skipped s k m = on_stream false s k (after (says none true) (with_own s k m))

unfoldable pub forward_ordered : State → ℕ → ℕ → After Bool
forward_ordered s k ssn = skipped s k (skip_ordered (own s k) ssn)

unfoldable pub forward_unordered : State → ℕ → ℕ → After Bool
forward_unordered s k tsn = skipped s k (skip_unordered (own s k) tsn)

unfoldable pub forward_bounded : State → ℕ → ℕ → ℕ → After Bool
forward_bounded s k ssn tsn = skipped s k (skip_bounded (own s k) ssn tsn)

unfoldable pub applicable : State → ℕ → ℕ → ℕ → ℕ → Told Found
applicable s k ssn tsn peer = looked (found_in option.none) s k (found_in (applies (own s k) ssn tsn peer))

-- "The byte count is the sum of held lengths": of a stream's own
unfoldable pub num_bytes : State → ℕ → Told ℕ
num_bytes s k = looked 0 s k (size (held (own s k)))
