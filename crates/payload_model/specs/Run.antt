-- Runs of calls from `new` on: what a run is, and what is claimed of the queue that it leaves.
-- Assumes nothing.
use Rattle.std.specs.Prelude.{◌≡◌, ℕ, ◌≤◌, List, [], ◌∷◌, length}
use mathlib.Core.List.{Memᴰ}
use Rattle.wire_model.specs.BigEndian.{over}
use Rattle.wire_model.specs.Refusal.{none, refuse, Told, says}
use Rattle.table.specs.declared.Row.{Row}
use Rattle.payload_model.specs.Queue.{
  Queue,
  queue_of,
  held,
  pushed,
  can_push,
  popped,
  popped_up_to,
  popped_duplicates,
  got,
  contains_stream,
  counted,
  is_empty,
  num_bytes,
  last_tsn,
  fresh,
}
use Rattle.gap_model.specs.Gap.{Block, tsns_of, starts_of, ends_of}
use Rattle.gap_model.specs.Report.{Proper, Covers, InArc}
use Rattle.payload_model.specs.GapCall.{lists, gap_report}

-- ── runs ──

-- "all mutating calls": a record pushed at a cumulative TSN, a TSN popped, all up to a TSN popped, the log handed out
pub data Call : Type 0 where
  push : Row → ℕ → Call
  pop : ℕ → Call
  pop_up_to : ℕ → Call
  pop_duplicates : Call

-- what a call leaves, by "the definitions that the promises cite"
unfoldable pub step : Queue → Call → Queue
step q (push r cumulative) = (pushed q r cumulative).queue
step q (pop tsn) = (popped q tsn).queue
step q (pop_up_to tsn) = (popped_up_to q tsn).queue
step q pop_duplicates = (popped_duplicates q).queue

-- "from `new` on": a fresh queue, and a table that may hold anything
abbrev pub starts : List ℕ → Queue
starts ws = queue_of fresh ws

-- "the queue and its tables handed on unaltered": each call starts from what the one before it left
abbrev pub ran : Queue → List Call → Queue
ran q [] = q
ran q (c ∷ cs) = ran (step q c) cs

-- the held TSNs, in stored order
abbrev pub tsns_held : Queue → List ℕ
tsns_held q = tsns_of (held q)

-- "in some arc shorter than 2^31"
abbrev pub OnArc : Queue → Type 0
OnArc q = (base : ℕ) × InArc base (tsns_held q)

-- "at each moment", before, between and after the calls; "the arc may move from moment to moment"
abbrev pub OnArcs : Queue → List Call → Type 0
OnArcs q [] = OnArc q
OnArcs q (c ∷ cs) = OnArc q × OnArcs (step q c) cs

-- ── what is claimed ──

-- each TSN stands so to all that stand behind it
abbrev pub Pairwise : (ℕ → ℕ → Type 0) → List ℕ → Type 0
Pairwise R [] = Unit {0}
Pairwise R (t ∷ ts) = ((u : ℕ) → Memᴰ u ts → R t u) × Pairwise R ts

-- "Held TSNs stay distinct": none stands again behind itself
abbrev pub Distinct : List ℕ → Type 0
Distinct ts = Pairwise (λ t u. t ≡ u → ⊥) ts

-- an answer that is not refusal 0
abbrev pub Sane : {A : Type 0} → Told A → Type 0
Sane t = t.refusal ≡ refuse 0 → ⊥

-- no call at all on the queue answers refusal 0
pub record AllSane (q : Queue) : Type 0 where
  pub push : (r : Row) (cumulative : ℕ) → Sane (pushed q r cumulative).told
  pub can_push : (tsn cumulative : ℕ) → Sane (can_push q tsn cumulative)
  pub pop : (tsn : ℕ) → Sane (popped q tsn).told
  pub pop_up_to : (tsn : ℕ) → Sane (popped_up_to q tsn).told
  pub pop_duplicates : Sane (popped_duplicates q).told
  pub get : (tsn : ℕ) → Sane (got q tsn)
  pub contains_stream : (stream : ℕ) → Sane (contains_stream q stream)
  pub len : Sane (counted q)
  pub is_empty : Sane (is_empty q)
  pub num_bytes : Sane (num_bytes q)
  pub last_tsn : Sane (last_tsn q)
  pub gap_report : (cumulative : ℕ) (ss es : List ℕ) → Sane (gap_report q cumulative ss es).told

-- "the gap report, its lists long enough, is the only ascending list of separate, non-touching blocks covering exactly the offsets 1 to 65,535 of the held TSNs"
pub record OnlyReport (q : Queue) (cumulative : ℕ) (bs : List Block) : Type 0 where
  pub proper : Proper bs
  pub covers : Covers cumulative (tsns_held q) bs
  pub only : (cs : List Block) → Proper cs → Covers cumulative (tsns_held q) cs → cs ≡ bs
  pub few : length bs ≤ length (held q)
  pub call :
      (ss es : List ℕ) → length bs ≤ length ss → length bs ≤ length es →
      gap_report q cumulative ss es ≡ lists (says none (length bs)) (over ss (starts_of bs)) (over es (ends_of bs))
