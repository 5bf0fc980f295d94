-- One stream's reassembly on fragments, call by call: document 01, 'Reassembly, one stream'.
-- Assumes nothing.
use Rattle.std.specs.Prelude.{ℕ, suc, ◌+◌, ◌-◌, Bool, true, false, not, ◌&&◌, cond, List, [], ◌∷◌, ◌++◌, ltb, leb, eqb, length, take, drop}
use Rattle.wire_model.specs.BigEndian.{over}
use Rattle.wire_model.specs.Refusal.{none, refuse, Told, says}
use Rattle.serial_model.specs.Serial.{next, before, at_or_before}
use Rattle.moves_model.specs.Lists.{slice, gone}
use Rattle.fragments.specs.Frag.{Frag, ends, ssn_of, has_tsn, tsn_before, tsn_after, has_ssn}
use Rattle.fragments.specs.Words.{size, joined, any, while, past, placed}
use Rattle.fragment_sets.specs.Sets.{set_of, complete, grown_set, stored, skipped}
use Rattle.loose_fragments.specs.Loose.{reach, scanned}
use Rattle.loose_fragments.specs.declared.Span.{Span}
use Rattle.reassembly_state.specs.Limits.{frags_most, bytes_most}

-- ── what is held ──

-- The queue: its stream, the expected SSN, the maximum, and three lists.
-- finished: the finished unordered messages, oldest first, each of which ends with its first E;
-- unordered: the other unordered fragments; ordered: the ordered sets, each a run of one SSN
pub record Queue : Type 0 where
  pub si : ℕ
  pub next : ℕ
  pub max : ℕ
  pub finished : List Frag
  pub unordered : List Frag
  pub ordered : List Frag

abbrev pub queue : ℕ → ℕ → ℕ → List Frag → List Frag → List Frag → Queue
queue s n m f u o = record { si = s; next = n; max = m; finished = f; unordered = u; ordered = o }

-- "over ordered sets, unordered fragments and finished unordered messages together"
abbrev pub held : Queue → List Frag
held q = q.finished ++ (q.unordered ++ q.ordered)

-- what a call answers, and the queue after it
pub record Given (A : Type 0) : Type 0 where
  pub told : Told A
  pub queue : Queue

abbrev pub gives : {A : Type 0} → Told A → Queue → Given A
gives t q = record { told = t; queue = q }

-- ── push ──

-- "At most 512 fragments and 65,536 payload bytes held": room for one more
unfoldable pub room_for : Queue → Frag → Bool
room_for q f = leb (length (held q) + 1) frags_most && leb (size (held q) + length f.bytes) bytes_most

-- the queue with these ordered fragments
abbrev pub with_ordered : Queue → List Frag → Queue
with_ordered q l = queue q.si q.next q.max q.finished q.unordered l

-- "stored, and true exactly if the set is complete"
unfoldable pub keep_ordered : Queue → Frag → Given Bool
keep_ordered q f = gives (says none (complete (grown_set f q.ordered))) (with_ordered q (stored f q.ordered))

-- "size of the first set with that SSN plus new data above the maximum: refusal 6; SSN before expected: false; TSN already in that set: false;
-- no room: 8; else stored, and true exactly if the set is complete"
unfoldable pub push_ordered : Bool → Queue → Frag → Given Bool
push_ordered room q f =
    cond (ltb q.max (size (set_of (ssn_of f) q.ordered) + length f.bytes)) (gives (says (refuse 6) false) q)
    (cond (before 16 (ssn_of f) q.next) (gives (says none false) q)
    (cond (any (has_tsn f.tsn) (set_of (ssn_of f) q.ordered)) (gives (says none false) q)
    (cond room (keep_ordered q f) (gives (says (refuse 8) false) q))))

-- "the first E reached moves that run to the finished list, and the answer is true"
unfoldable pub move_run : Queue → List Frag → Span → Given Bool
move_run q l s =
    cond (ltb s.from s.to)
    (gives (says none true) (queue q.si q.next q.max (q.finished ++ slice s.from s.to l) (gone s.from (s.to - s.from) l) q.ordered))
    (gives (says none false) (queue q.si q.next q.max q.finished l q.ordered))

-- "stored, then one scan"
unfoldable pub keep_loose : Queue → Frag → Given Bool
keep_loose q f = let l = placed (tsn_before f.tsn) f q.unordered in move_run q l (scanned l)

-- "size above the maximum: 6; TSN already among unordered fragments: false; no room: 8; else stored, then one scan"
unfoldable pub push_unordered : Bool → Queue → Frag → Given Bool
push_unordered room q f =
    cond (ltb q.max (reach f q.unordered)) (gives (says (refuse 6) false) q)
    (cond (any (has_tsn f.tsn) q.unordered) (gives (says none false) q)
    (cond room (keep_loose q f) (gives (says (refuse 8) false) q)))

-- "other stream: false"
unfoldable pub push : Bool → Queue → ℕ → Bool → Frag → Given Bool
push room q stream unordered f =
    cond (eqb stream q.si) (cond unordered (push_unordered room q f) (push_ordered room q f)) (gives (says none false) q)

-- ── take ──

abbrev pub endless : Frag → Bool
endless x = not (ends x)

-- a finished message: through the first E; where there is none, all
abbrev pub through_end : List Frag → ℕ
through_end l = suc (length (while endless l))

-- "the first ordered set if complete and its SSN is not after the expected one"; none else
unfoldable pub ready_set : ℕ → List Frag → List Frag
ready_set expected [] = []
ready_set expected (x ∷ xs) =
    let m = x ∷ while (has_ssn (ssn_of x)) xs in
    cond (not (before 16 expected (ssn_of x)) && complete m) m []

-- "which moves on by 1 if equal"
unfoldable pub moved_on : ℕ → List Frag → ℕ
moved_on expected [] = expected
moved_on expected (x ∷ xs) = cond (eqb (ssn_of x) expected) (next 16 expected) expected

-- the message that is next to be taken: its fragments, none where nothing is; its SSN; and the queue without it
pub record Turn : Type 0 where
  pub frags : List Frag
  pub ssn : ℕ
  pub queue : Queue

-- the SSN and the identifier of the first fragment
unfoldable pub first_ssn : List Frag → ℕ
first_ssn [] = 0
first_ssn (x ∷ xs) = ssn_of x

unfoldable pub first_ppi : List Frag → ℕ
first_ppi [] = 0
first_ppi (x ∷ xs) = x.ppi

unfoldable pub ordered_turn : Queue → List Frag → Turn
ordered_turn q m =
    record { frags = m; ssn = first_ssn m; queue = queue q.si (moved_on q.next m) q.max q.finished q.unordered (drop (length m) q.ordered) }

-- "Its identifier is that of its B, its SSN 0": its B is its first
unfoldable pub finished_turn : Queue → ℕ → Turn
finished_turn q k =
    record { frags = take k q.finished; ssn = 0; queue = queue q.si q.next q.max (drop k q.finished) q.unordered q.ordered }

-- "oldest finished unordered message; else the first ordered set ..; else nothing"
unfoldable pub turn : Queue → Turn
turn q = cond (ltb 0 (length q.finished)) (finished_turn q (through_end q.finished)) (ordered_turn q (ready_set q.next q.ordered))

-- "Readable is yes exactly when such a message exists"
unfoldable pub readable : Queue → Bool
readable q = ltb 0 (length (turn q).frags)

-- a message that came, if one did: SSN, identifier, number of bytes, position, and whether an empty message's piece was given
pub record Message : Type 0 where
  pub comes : Bool
  pub ssn : ℕ
  pub ppi : ℕ
  pub size : ℕ
  pub position : ℕ
  pub given : Bool

abbrev pub no_message : Message
no_message = record { comes = false; ssn = 0; ppi = 0; size = 0; position = 0; given = false }

-- what a take gives: its answer, the queue after it, and the lent buffer
pub record Took : Type 0 where
  pub told : Told Message
  pub queue : Queue
  pub buffer : List ℕ

abbrev pub took : Told Message → Queue → List ℕ → Took
took t q b = record { told = t; queue = q; buffer = b }

-- the message of a turn, with the identifier of its first fragment as it was sent
unfoldable pub message_of : Turn → Message
message_of t =
    record { comes = true; ssn = t.ssn; ppi = first_ppi t.frags; size = size t.frags; position = 0; given = false }

-- "else nothing"; 10: "take buffer .. too short", "message stays queued"; "The message moves to the front of the lent buffer, the rest stays."
unfoldable pub taken : Queue → List ℕ → Took
taken q buffer =
    cond (readable q)
    (cond (ltb (length buffer) (size (turn q).frags)) (took (says (refuse 10) no_message) q buffer)
    (took (says none (message_of (turn q))) (turn q).queue (over buffer (joined (turn q).frags))))
    (took (says none no_message) q buffer)

-- ── skips ──

-- "incomplete sets at or before s go"
abbrev pub drop_incomplete : Queue → ℕ → Queue
drop_incomplete q s = with_ordered q (skipped s q.ordered)

-- "if the expected SSN is at or before s it becomes s + 1"
unfoldable pub skip_ordered : Queue → ℕ → Queue
skip_ordered q s =
    let d = drop_incomplete q s in
    queue d.si (cond (at_or_before 16 d.next s) (next 16 s) d.next) d.max d.finished d.unordered d.ordered

abbrev pub not_after : ℕ → Frag → Bool
not_after t x = not (tsn_after t x)

-- "fragments go from the front of the list up to the first one after t; finished messages stay"
unfoldable pub skip_unordered : Queue → ℕ → Queue
skip_unordered q t = queue q.si q.next q.max q.finished (past (not_after t) q.unordered) q.ordered
