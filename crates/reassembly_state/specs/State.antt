-- The queue as it is lent: counts by value, rows of a table, bytes of a pool; what it holds, and how a change is laid over it.
-- Assumes nothing.
use Rattle.std.specs.Prelude.{ℕ, ◌+◌, ◌*◌, Bool, true, false, not, ◌||◌, cond, List, ltb, eqb, length, take, drop}
use Rattle.wire_model.specs.Refusal.{none, refuse, Told, says}
use Rattle.data_fields.specs.Fields.{data_flags, data_sent}
use Rattle.data_fields.specs.declared.ChunkPayloadData.{ChunkPayloadData}
use Rattle.table.specs.Rows.{rows_of, total}
use Rattle.table.specs.declared.Row.{Row}
use Rattle.fragments.specs.Frag.{Frag, long_length}
use Rattle.fragments.specs.Words.{size}
use Rattle.fragments.specs.Pool.{cut, lay_rows, lay_bytes}
use Rattle.reassembly_state.specs.Limits.{frags_most, bytes_most}
use Rattle.reassembly_state.specs.Model.{Queue, queue, held, Given, room_for, push, Message, no_message, Took, taken, readable, skip_ordered, skip_unordered}
use Rattle.reassembly_state.specs.declared.Counts.{Counts}

pub record State : Type 0 where
  pub queue : Counts
  pub rows : List Row
  pub pool : List ℕ

-- a struct, and the words and bytes lent beside it
abbrev pub state_of : Counts → List ℕ → List ℕ → State
state_of q ws pool = record { queue = q; rows = rows_of frags_most ws; pool = pool }

-- the number of fragments
abbrev pub count : Counts → ℕ
count q = q.finished + (q.unordered + q.ordered)

-- the sum of the lengths that the held records say
abbrev pub sum : State → ℕ
sum s = total long_length (take (count s.queue) s.rows)

-- refusal 0: "a count above its table, pool shorter than its limit, a place outside the lent pool .., a byte count that is not the sum of held lengths"
unfoldable pub unsound : State → Bool
unsound s =
    ltb frags_most (count s.queue)
    || (ltb (length s.pool) bytes_most || (ltb (length s.pool) (sum s) || not (eqb (sum s) s.queue.n_bytes)))

-- ── what it holds ──

-- the fragments, in stored order: finished messages, loose unordered fragments, ordered sets
abbrev pub fragments : State → List Frag
fragments s = cut (take (count s.queue) s.rows) s.pool

unfoldable pub view : State → Queue
view s =
    let q = s.queue in
    queue q.si q.next_ssn q.max_message_size (take q.finished (fragments s)) (take q.unordered (drop q.finished (fragments s)))
    (drop (q.finished + q.unordered) (fragments s))

-- ── how a change is laid over it: what is held goes to the front of rows and pool, and "the rest of each stays" ──

-- the counts of a queue
unfoldable pub counts : Queue → Counts
counts m =
    record {
      si = m.si;
      next_ssn = m.next;
      max_message_size = m.max;
      finished = length m.finished;
      unordered = length m.unordered;
      ordered = length m.ordered;
      n_bytes = size (held m);
    }

unfoldable pub lay : Queue → State → State
lay m s = record { queue = counts m; rows = lay_rows (held m) s.rows; pool = lay_bytes (held m) s.pool }

-- ── the calls ──

-- what a call answers, and what it leaves
pub record After (A : Type 0) : Type 0 where
  pub told : Told A
  pub state : State

abbrev pub after : {A : Type 0} → Told A → State → After A
after t s = record { told = t; state = s }

-- what a call of the model gives, laid over what was lent
abbrev pub laid : {A : Type 0} → State → Given A → After A
laid s g = after g.told (lay g.queue s)

-- "added; before every other answer"; its other fields are zero, and all is unchanged
abbrev pub soundly : {A : Type 0} → A → State → After A → After A
soundly zero s a = cond (unsound s) (after (says (refuse 0) zero) s) a

-- a chunk with its user data
unfoldable pub fragment_of : ChunkPayloadData → List ℕ → Frag
fragment_of p bytes =
    record { flags = data_flags p; tsn = (data_sent p).tsn; id = (data_sent p).stream * 65536 + (data_sent p).ssn; ppi = (data_sent p).identifier; bytes = bytes }

unfoldable pub pushed : State → ChunkPayloadData → List ℕ → After Bool
pushed s p bytes =
    let f = fragment_of p bytes in
    soundly false s (laid s (push (room_for (view s) f) (view s) p.stream_identifier p.unordered f))

unfoldable pub is_readable : State → Told Bool
is_readable s = cond (unsound s) (says (refuse 0) false) (says none (readable (view s)))

-- what a take leaves: its answer, the queue, and the lent buffer
pub record Read : Type 0 where
  pub told : Told Message
  pub state : State
  pub buffer : List ℕ

abbrev pub reads : Told Message → State → List ℕ → Read
reads t s b = record { told = t; state = s; buffer = b }

abbrev pub lay_taken : State → Took → Read
lay_taken s t = reads t.told (lay t.queue s) t.buffer

unfoldable pub read : State → List ℕ → Read
read s buffer = cond (unsound s) (reads (says (refuse 0) no_message) s buffer) (lay_taken s (taken (view s) buffer))

unfoldable pub forward_ordered : State → ℕ → After Bool
forward_ordered s ssn = soundly false s (after (says none true) (lay (skip_ordered (view s) ssn) s))

unfoldable pub forward_unordered : State → ℕ → After Bool
forward_unordered s tsn = soundly false s (after (says none true) (lay (skip_unordered (view s) tsn) s))

-- "The byte count is the sum of held lengths."
unfoldable pub num_bytes : State → Told ℕ
num_bytes s = cond (unsound s) (says (refuse 0) 0) (says none (size (fragments s)))
