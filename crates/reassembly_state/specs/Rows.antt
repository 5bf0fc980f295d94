-- Where things stand among the rows: what the calls' inner functions ask of each other. No promise of a public call names these.
-- Assumes nothing.
use Rattle.std.specs.Prelude.{◌≡◌, Bool, true, false, cond, List, map, ℕ, ◌+◌, ◌-◌, ◌≤◌, ◌<◌, ltb, eqb, length, take, drop}
use Rattle.wire_model.specs.BigEndian.{over}
use Rattle.wire_model.specs.Refusal.{none, refuse, Told, says}
use Rattle.serial_model.specs.Serial.{next}
use Rattle.data_fields.specs.declared.ChunkPayloadData.{ChunkPayloadData}
use Rattle.moves_model.specs.Lists.{slice, gone}
use Rattle.table.specs.Rows.{ahead_of}
use Rattle.table.specs.declared.Row.{Row}
use Rattle.fragments.specs.Frag.{Frag, bare, of_row, has_ssn, tsn_before}
use Rattle.fragments.specs.Words.{size, joined, placed}
use Rattle.fragments.specs.Pool.{lay_rows, lay_bytes}
use Rattle.fragment_sets.specs.Sets.{other_ssn}
use Rattle.loose_fragments.specs.Loose.{run_down, run_up, scanned}
use Rattle.loose_fragments.specs.declared.Span.{Span}
use Rattle.reassembly_state.specs.Limits.{frags_most, bytes_most}
use Rattle.reassembly_state.specs.Model.{Queue, queue, Given, gives, keep_ordered, push_ordered, move_run, through_end, turn, first_ssn, first_ppi, Message, no_message}
use Rattle.reassembly_state.specs.State.{State, count, fragments, view, fragment_of}
use Rattle.reassembly_state.specs.declared.Counts.{Counts}

-- the index of the first ordered fragment, and the rows of the ordered ones
abbrev pub first_ordered : State → ℕ
first_ordered s = s.queue.finished + s.queue.unordered

abbrev pub ordered_rows : State → List Row
ordered_rows s = take s.queue.ordered (drop (first_ordered s) s.rows)

-- the index of the first row of the first set with this SSN, and how many rows it has; 0 where there is none
abbrev pub set_at : State → ℕ → ℕ
set_at s ssn = first_ordered s + ahead_of (of_row (has_ssn ssn)) (ordered_rows s)

abbrev pub set_run : State → ℕ → ℕ
set_run s ssn = ahead_of (of_row (other_ssn ssn)) (drop (ahead_of (of_row (has_ssn ssn)) (ordered_rows s)) (ordered_rows s))

-- one more fragment of so many bytes fits, where there is said to be room
abbrev pub fits_if : Bool → Counts → ℕ → Type 0
fits_if room q more = room ≡ true → (count q < frags_most) × (q.n_bytes + more ≤ bytes_most)

-- an ordered push of so many bytes is not kept: it changes nothing, and is told this
abbrev pub Declines : State → Bool → ChunkPayloadData → ℕ → Told Bool → Type 0
Declines s room p more told =
    (bytes : List ℕ) → length bytes ≡ more → push_ordered room (view s) (fragment_of p bytes) ≡ gives told (view s)

-- it is kept, which takes room, and its set stands there
pub record Keeps (s : State) (room : Bool) (p : ChunkPayloadData) (more : ℕ) (at run : ℕ) : Type 0 where
  pub at-is : at ≡ set_at s p.stream_sequence_number
  pub run_is : run ≡ set_run s p.stream_sequence_number
  pub with_room : room ≡ true
  pub is : (bytes : List ℕ) → length bytes ≡ more → push_ordered room (view s) (fragment_of p bytes) ≡ keep_ordered (view s) (fragment_of p bytes)

-- the rows of the loose unordered fragments
abbrev pub loose_rows : Counts → List Row → List Row
loose_rows q rows = take q.unordered (drop q.finished rows)

-- how many bytes the message that an unordered chunk belongs to has besides its own
unfoldable pub neighbours : Counts → List Row → ChunkPayloadData → ℕ
neighbours q rows p =
    let l = map bare (loose_rows q rows) in
    cond p.beginning_fragment 0 (run_down p.tsn l) + cond p.ending_fragment 0 (run_up p.tsn l)

-- a fragment stored among the loose ones, by TSN
abbrev pub stored_loose : Queue → Frag → Queue
stored_loose q f = queue q.si q.next q.max q.finished (placed (tsn_before f.tsn) f q.unordered) q.ordered

-- what one scan leaves
abbrev pub settled : Queue → Given Bool
settled q = move_run q q.unordered (scanned q.unordered)

-- the message that is next to be taken stands there, if it is one: a finished one first of all, an ordered one first of the ordered ones
pub record InTurn (s : State) (t : Span) : Type 0 where
  pub upward : t.from ≤ t.to
  pub from : t.from ≡ cond (ltb 0 s.queue.finished) 0 (s.queue.finished + s.queue.unordered)
  pub within : t.to ≤ t.from + cond (ltb 0 s.queue.finished) s.queue.finished s.queue.ordered
  pub is : (turn (view s)).frags ≡ slice t.from t.to (fragments s)

-- how many fragments the oldest of these finished messages has
abbrev pub oldest : List Frag → ℕ
oldest l = length (take (through_end l) l)

-- the message of these fragments: only an ordered one has its SSN
unfoldable pub message_by : Bool → List Frag → Message
message_by ordered m =
    record { comes = true; ssn = cond ordered (first_ssn m) 0; ppi = first_ppi m; size = size m; position = 0; given = false }

-- a message taken from among other fragments: the answer, how many fragments and bytes went, and what was lent
pub record Out : Type 0 where
  pub told : Told Message
  pub k : ℕ
  pub size : ℕ
  pub rows : List Row
  pub pool : List ℕ
  pub buffer : List ℕ

abbrev pub out : Told Message → ℕ → ℕ → List Row → List ℕ → List ℕ → Out
out t k n rows pool buffer = record { told = t; k = k; size = n; rows = rows; pool = pool; buffer = buffer }

-- the k fragments at index at of all that is held, taken out; 10 where the buffer is too short
unfoldable pub taken_out : Bool → ℕ → ℕ → List Frag → List Row → List ℕ → List ℕ → Out
taken_out ordered at k all rows pool buffer =
    let m = take k (drop at all) in
    cond (ltb (length buffer) (size m)) (out (says (refuse 10) no_message) 0 0 rows pool buffer)
    (out (says none (message_by ordered m)) k (size m) (lay_rows (gone at k all) rows) (lay_bytes (gone at k all) pool) (over buffer (joined m)))

-- the counts without a message of k fragments and so many bytes
unfoldable pub without_message : Counts → ℕ → ℕ → ℕ → Counts
without_message q k bytes ssn =
    cond (ltb 0 q.finished)
    (record {
      si = q.si;
      next_ssn = q.next_ssn;
      max_message_size = q.max_message_size;
      finished = q.finished - k;
      unordered = q.unordered;
      ordered = q.ordered;
      n_bytes = q.n_bytes - bytes;
    })
    (record {
      si = q.si;
      next_ssn = cond (eqb ssn q.next_ssn) (next 16 q.next_ssn) q.next_ssn;
      max_message_size = q.max_message_size;
      finished = q.finished;
      unordered = q.unordered;
      ordered = q.ordered - k;
      n_bytes = q.n_bytes - bytes;
    })
