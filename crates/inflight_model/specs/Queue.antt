-- The sender's in-flight queue, call by call (document 02, M-111).
-- Assumes nothing.
use Rattle.std.specs.Prelude.{ℕ, ◌+◌, ◌*◌, ◌/◌, ◌%◌, Bool, true, false, not, ◌||◌, cond, List, [], ◌∷◌, map, ltb, leb, eqb, length, take, drop, get_or, set}
use Rattle.wire_model.specs.BigEndian.{over}
use Rattle.wire_model.specs.Refusal.{none, refuse, Told, says}
use Rattle.moves_model.specs.Lists.{put}
use Rattle.table.specs.Rows.{row, blank, rows_of, total, some, up_to_last, ahead_of, kept, has_tsn, tsn_before, short_length}
use Rattle.table.specs.declared.Row.{Row}
use Rattle.payload_model.specs.Limits.{tsns_most}
use Rattle.payload_model.specs.Queue.{Found, nothing, chunk_of, stays_after}
use Rattle.inflight_model.specs.declared.Counts.{Counts}

-- ── the state: counts, the rows of "a second table of 1,024", and beside each row the number of its message ──

pub record Queue : Type 0 where
  pub count : ℕ
  pub bytes : ℕ
  pub rows : List Row
  pub messages : List ℕ

-- counts, and the words and numbers lent beside them
abbrev pub queue_of : Counts → List ℕ → List ℕ → Queue
queue_of c ws ms = record { count = c.count; bytes = c.n_bytes; rows = rows_of tsns_most ws; messages = ms }

-- the held records, in stored order
abbrev pub held : Queue → List Row
held q = take q.count q.rows

-- the numbers of their messages
abbrev pub numbers : Queue → List ℕ
numbers q = take q.count q.messages

-- "The byte count is the sum of unreleased lengths, and for this table refusal 0 tests that sum"; a count above its table
unfoldable pub unsound : Queue → Bool
unsound q = ltb tsns_most q.count || not (eqb (total short_length (held q)) q.bytes)

-- what a call answers, and what it leaves
pub record After (A : Type 0) : Type 0 where
  pub told : Told A
  pub queue : Queue

abbrev pub after : {A : Type 0} → Told A → Queue → After A
after t q = record { told = t; queue = q }

-- 0 comes "before every other answer"; its other fields are zero, and all is unchanged
abbrev pub soundly : {A : Type 0} → A → Queue → After A → After A
soundly zero q a = cond (unsound q) (after (says (refuse 0) zero) q) a

-- the same for a call that changes nothing
abbrev pub soundly_told : {A : Type 0} → A → Queue → Told A → Told A
soundly_told zero q t = cond (unsound q) (says (refuse 0) zero) t

-- ── "acknowledged, abandoned and retransmit marks": bits 16 to 18 of a head, 1 where set. A released length is 0 ──

abbrev pub acked_bit : ℕ → ℕ
acked_bit head = head / 65536 % 2

abbrev pub abandoned_bit : ℕ → ℕ
abandoned_bit head = head / 131072 % 2

abbrev pub retransmit_bit : ℕ → ℕ
retransmit_bit head = head / 262144 % 2

-- a head with these marks and this length; above them it is as it was
abbrev pub marked : ℕ → ℕ → ℕ → ℕ → ℕ → ℕ
marked head retransmit abandoned acked size = head / 524288 * 524288 + retransmit * 262144 + abandoned * 131072 + acked * 65536 + size

-- acknowledged: not to be sent again, and its length is released
unfoldable pub acked_head : ℕ → ℕ
acked_head head = marked head 0 (abandoned_bit head) 1 0

-- abandoned: the same
unfoldable pub abandoned_head : ℕ → ℕ
abandoned_head head = marked head 0 1 (acked_bit head) 0

-- to be sent again, if it is neither acknowledged nor abandoned
unfoldable pub again_head : ℕ → ℕ
again_head head = cond (eqb (head / 65536 % 4) 0) (marked head 1 0 0 (short_length head)) head

-- a row with another head
abbrev pub with_head : ℕ → Row → Row
with_head head r = row head r.tsn r.id r.ppi

-- ── records ──

-- a chunk that was found: header fields and length, marks, and the number of its message
pub record Given : Type 0 where
  pub chunk : Found
  pub acked : Bool
  pub abandoned : Bool
  pub retransmit : Bool
  pub message : ℕ

abbrev pub nothing_sent : Given
nothing_sent = record { chunk = nothing; acked = false; abandoned = false; retransmit = false; message = 0 }

-- what a row and the number beside it say
unfoldable pub sent_of : Row → ℕ → Given
sent_of r message =
    record {
      chunk = chunk_of r;
      acked = eqb (acked_bit r.head) 1;
      abandoned = eqb (abandoned_bit r.head) 1;
      retransmit = eqb (retransmit_bit r.head) 1;
      message = message;
    }

-- ── push_no_check ──

-- a new record stands right after the last held one whose TSN is before its own, or first; its number beside it
unfoldable pub stored : Queue → Row → ℕ → Queue
stored q r message =
    record {
      count = q.count + 1;
      bytes = q.bytes + short_length r.head;
      rows = over q.rows (put (up_to_last (tsn_before r.tsn) (held q)) (r ∷ []) (held q));
      messages = over q.messages (put (up_to_last (tsn_before r.tsn) (held q)) (message ∷ []) (numbers q));
    }

-- "The Rust's `push_no_check` accepts a TSN already held and miscounts; ours gives refusal 18, unchanged, before 8"
unfoldable pub pushed_no_check : Queue → Row → ℕ → After Bool
pushed_no_check q r message =
    soundly false q
    (cond (some (has_tsn r.tsn) (held q)) (after (says (refuse 18) false) q)
    (cond (leb tsns_most q.count) (after (says (refuse 8) false) q)
    (after (says none true) (stored q r message))))

-- ── marks ──

-- the same records with other heads, and the sum of the lengths that are left in them
abbrev pub remarked : Queue → List Row → Queue
remarked q rs = record { count = q.count; bytes = total short_length rs; rows = over q.rows rs; messages = q.messages }

-- where the first held record with this TSN stands
abbrev pub place : Queue → ℕ → ℕ
place q tsn = ahead_of (has_tsn tsn) (held q)

-- the length that this record still held is the answer: "Acknowledging twice releases bytes once and answers 0 the second time"; 0 where none is held
unfoldable pub marked_acked : Queue → ℕ → After ℕ
marked_acked q tsn =
    soundly 0 q
    (cond (some (has_tsn tsn) (held q))
    (after (says none (short_length (get_or (held q) (place q tsn) blank).head))
    (remarked q (set (held q) (place q tsn) (with_head (acked_head (get_or (held q) (place q tsn) blank).head) (get_or (held q) (place q tsn) blank)))))
    (after (says none 0) q))

abbrev pub again_row : Row → Row
again_row r = with_head (again_head r.head) r

unfoldable pub marked_all : Queue → After Bool
marked_all q = soundly false q (after (says none true) (remarked q (map again_row (held q))))

-- rows with a message's records abandoned, "including nonconsecutive TSNs"
unfoldable pub abandoned_among : ℕ → List Row → List ℕ → List Row
abandoned_among message (r ∷ rs) (m ∷ ms) = cond (eqb m message) (with_head (abandoned_head r.head) r) r ∷ abandoned_among message rs ms
abandoned_among message (r ∷ rs) [] = []
abandoned_among message [] ms = []

-- a message's records
unfoldable pub siblings : ℕ → List Row → List ℕ → List Row
siblings message (r ∷ rs) (m ∷ ms) = cond (eqb m message) (r ∷ siblings message rs ms) (siblings message rs ms)
siblings message (r ∷ rs) [] = []
siblings message [] ms = []

-- the lengths that they still held are the answer
unfoldable pub abandoned : Queue → ℕ → After ℕ
abandoned q message =
    soundly 0 q
    (after (says none (total short_length (siblings message (held q) (numbers q)))) (remarked q (abandoned_among message (held q) (numbers q))))

-- ── "`pop`, `pop_up_to` and `get` serve this table too" ──

-- the records that are left with their numbers, and the sum of their lengths
abbrev pub left : Queue → List Row → List ℕ → Queue
left q rs ms = record { count = length rs; bytes = total short_length rs; rows = over q.rows rs; messages = over q.messages ms }

-- "removes and gives the chunk only if its TSN is first, else nothing changes"
unfoldable pub popped : Queue → ℕ → After Given
popped q tsn =
    soundly nothing_sent q
    (cond (some (has_tsn tsn) (take 1 (held q)))
    (after (says none (sent_of (get_or (held q) 0 blank) (get_or (numbers q) 0 0))) (left q (drop 1 (held q)) (drop 1 (numbers q))))
    (after (says none nothing_sent) q))

-- the numbers beside the rows that do, in order
unfoldable pub kept_beside : (Row → Bool) → List Row → List ℕ → List ℕ
kept_beside p (r ∷ rs) (m ∷ ms) = cond (p r) (m ∷ kept_beside p rs ms) (kept_beside p rs ms)
kept_beside p (r ∷ rs) [] = []
kept_beside p [] ms = []

-- "drops every TSN at or before the given one"
unfoldable pub popped_up_to : Queue → ℕ → After Bool
popped_up_to q tsn =
    soundly false q (after (says none true) (left q (kept (stays_after tsn) (held q)) (kept_beside (stays_after tsn) (held q) (numbers q))))

-- the first held record with this TSN
unfoldable pub got : Queue → ℕ → Told Given
got q tsn =
    soundly_told nothing_sent q
    (cond (some (has_tsn tsn) (held q)) (says none (sent_of (get_or (held q) (place q tsn) blank) (get_or (numbers q) (place q tsn) 0))) (says none nothing_sent))

-- ── counts ──

unfoldable pub counted : Queue → Told ℕ
counted q = soundly_told 0 q (says none q.count)

unfoldable pub is_empty : Queue → Told Bool
is_empty q = soundly_told false q (says none (eqb q.count 0))

-- "the sum of unreleased lengths"
unfoldable pub num_bytes : Queue → Told ℕ
num_bytes q = soundly_told 0 q (says none (total short_length (held q)))

abbrev pub fresh : Counts
fresh = record { count = 0; n_bytes = 0 }
