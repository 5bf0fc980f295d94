-- The TSN queue, call by call (document 01, 'The TSN queue').
-- Assumes nothing.
use Rattle.std.specs.Prelude.{ℕ, ◌+◌, ◌-◌, ◌*◌, ◌/◌, ◌%◌, Bool, true, false, not, ◌||◌, cond, List, [], ◌∷◌, ltb, leb, eqb, length, take, drop, get_or, set, replicate}
use Rattle.wire_model.specs.BigEndian.{over}
use Rattle.wire_model.specs.Refusal.{none, refuse, Told, says}
use Rattle.serial_model.specs.Serial.{at_or_before, opposite}
use Rattle.data_fields.specs.Fields.{DataValues, no_data, data_shown, data_flags, data_sent}
use Rattle.data_fields.specs.declared.ChunkPayloadData.{ChunkPayloadData}
use Rattle.moves_model.specs.Lists.{put}
use Rattle.table.specs.Rows.{row, blank, rows_of, total, some, up_to_last, ahead_of, kept, has_tsn, has_stream, tsn_before, short_length}
use Rattle.table.specs.declared.Row.{Row}
use Rattle.payload_model.specs.Limits.{tsns_most, log_most}
use Rattle.payload_model.specs.declared.Counts.{Counts}

-- ── the state: counts, log and the rows of the lent table ──

pub record Queue : Type 0 where
  pub count : ℕ
  pub bytes : ℕ
  pub dups : ℕ
  pub log : List ℕ
  pub rows : List Row

-- a struct, and the words lent beside it
abbrev pub queue_of : Counts → List ℕ → Queue
queue_of q ws = record { count = q.count; bytes = q.n_bytes; dups = q.dups; log = q.dup_tsn; rows = rows_of tsns_most ws }

-- the held records, in stored order
abbrev pub held : Queue → List Row
held q = take q.count q.rows

-- refusal 0: "a count above its table, .. a byte count that is not the sum of held lengths"
unfoldable pub unsound : Queue → Bool
unsound q = ltb tsns_most q.count || (ltb log_most q.dups || not (eqb (total short_length (held q)) q.bytes))

-- what a call answers, and what it leaves
pub record After (A : Type 0) : Type 0 where
  pub told : Told A
  pub queue : Queue

abbrev pub after : {A : Type 0} → Told A → Queue → After A
after t q = record { told = t; queue = q }

-- "added; before every other answer"; its other fields are zero, and all is unchanged
abbrev pub soundly : {A : Type 0} → A → Queue → After A → After A
soundly zero q a = cond (unsound q) (after (says (refuse 0) zero) q) a

-- the same for a call that changes nothing
abbrev pub soundly_told : {A : Type 0} → A → Queue → Told A → Told A
soundly_told zero q t = cond (unsound q) (says (refuse 0) zero) t

-- ── records ──

-- "It keeps header fields and a 16-bit data length"
unfoldable pub row_of : ChunkPayloadData → ℕ → Row
row_of p size = row (data_flags p * 16777216 + size) (data_sent p).tsn ((data_sent p).stream * 65536 + (data_sent p).ssn) (data_sent p).identifier

-- a chunk that was found: its header fields and its data length
pub record Found : Type 0 where
  pub found : Bool
  pub values : DataValues
  pub size : ℕ

abbrev pub nothing : Found
nothing = record { found = false; values = no_data; size = 0 }

-- what a row says of its chunk
unfoldable pub chunk_of : Row → Found
chunk_of r =
    record {
      found = true;
      values = data_shown (r.head / 16777216) (record { tsn = r.tsn; stream = r.id / 65536; ssn = r.id % 65536; identifier = r.ppi });
      size = short_length r.head;
    }

-- ── push ──

-- "held, or at or before the cumulative TSN"
unfoldable pub turned_away : Queue → ℕ → ℕ → Bool
turned_away q tsn cumulative = some (has_tsn tsn) (held q) || at_or_before 32 tsn cumulative

-- "logged if the log has room"
unfoldable pub logged : Queue → ℕ → Queue
logged q tsn = cond (ltb q.dups log_most) (record { count = q.count; bytes = q.bytes; dups = q.dups + 1; log = set q.log q.dups tsn; rows = q.rows }) q

-- "A new TSN goes right after the last held one that is before it, or first if there is none."
unfoldable pub stored : Queue → Row → Queue
stored q r =
    record {
      count = q.count + 1;
      bytes = q.bytes + short_length r.head;
      dups = q.dups;
      log = q.log;
      rows = over q.rows (put (up_to_last (tsn_before r.tsn) (held q)) (r ∷ []) (held q));
    }

-- "opposite to the cumulative one is refusal 17, before the duplicate test, with no logging" (document 02, M-107); held or old: "false, and logged if the
-- log has room; else 1,024 held: refusal 8; else stored, true"
unfoldable pub pushed : Queue → Row → ℕ → After Bool
pushed q r cumulative =
    soundly false q
    (cond (opposite 32 r.tsn cumulative) (after (says (refuse 17) false) q)
    (cond (turned_away q r.tsn cumulative) (after (says none false) (logged q r.tsn))
    (cond (leb tsns_most q.count) (after (says (refuse 8) false) q)
    (after (says none true) (stored q r)))))

-- "yes exactly when the TSN is neither held nor at or before the cumulative one"
unfoldable pub can_push : Queue → ℕ → ℕ → Told Bool
can_push q tsn cumulative = soundly_told false q (says none (not (turned_away q tsn cumulative)))

-- ── pop ──

-- the held records and their byte count, with the log as it was
abbrev pub left : Queue → List Row → Queue
left q rs = record { count = length rs; bytes = total short_length rs; dups = q.dups; log = q.log; rows = over q.rows rs }

-- "removes and gives the chunk only if its TSN is first, else nothing changes"
unfoldable pub popped : Queue → ℕ → After Found
popped q tsn =
    soundly nothing q
    (cond (some (has_tsn tsn) (take 1 (held q))) (after (says none (chunk_of (get_or (held q) 0 blank))) (left q (drop 1 (held q)))) (after (says none nothing) q))

-- "drops every TSN at or before the given one"
abbrev pub stays_after : ℕ → Row → Bool
stays_after tsn r = not (at_or_before 32 r.tsn tsn)

unfoldable pub popped_up_to : Queue → ℕ → After Bool
popped_up_to q tsn = soundly false q (after (says none true) (left q (kept (stays_after tsn) (held q))))

-- ── duplicates ──

-- "handed out by value, all 64 places, unused ones 0, with its count, and the log is emptied"
pub record Handed : Type 0 where
  pub count : ℕ
  pub tsns : List ℕ

abbrev pub zeros : List ℕ
zeros = replicate log_most 0

unfoldable pub popped_duplicates : Queue → After Handed
popped_duplicates q =
    soundly (record { count = 0; tsns = zeros }) q
    (after (says none (record { count = q.dups; tsns = over zeros (take q.dups q.log) }))
    (record { count = q.count; bytes = q.bytes; dups = 0; log = zeros; rows = q.rows }))

-- ── "answer from the held records and change nothing" ──

-- the first held record with this TSN
unfoldable pub got : Queue → ℕ → Told Found
got q tsn =
    soundly_told nothing q
    (cond (some (has_tsn tsn) (held q)) (says none (chunk_of (get_or (held q) (ahead_of (has_tsn tsn) (held q)) blank))) (says none nothing))

unfoldable pub contains_stream : Queue → ℕ → Told Bool
contains_stream q stream = soundly_told false q (says none (some (has_stream stream) (held q)))

unfoldable pub counted : Queue → Told ℕ
counted q = soundly_told 0 q (says none q.count)

unfoldable pub is_empty : Queue → Told Bool
is_empty q = soundly_told false q (says none (eqb q.count 0))

-- "Byte count: the sum of held data lengths"
unfoldable pub num_bytes : Queue → Told ℕ
num_bytes q = soundly_told 0 q (says none (total short_length (held q)))

-- the TSN that stands last
pub record Last : Type 0 where
  pub found : Bool
  pub tsn : ℕ

unfoldable pub last_tsn : Queue → Told Last
last_tsn q =
    soundly_told (record { found = false; tsn = 0 }) q
    (cond (eqb q.count 0) (says none (record { found = false; tsn = 0 })) (says none (record { found = true; tsn = (get_or (held q) (q.count - 1) blank).tsn })))

-- ── a fresh queue ──

abbrev pub fresh : Counts
fresh = record { count = 0; n_bytes = 0; dups = 0; dup_tsn = zeros }
