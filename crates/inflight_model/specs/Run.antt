-- Runs of calls from `new` on: what a run is, and what is claimed of the queue that it leaves.
-- Assumes nothing.
use Rattle.std.specs.Prelude.{List, [], ◌∷◌, ℕ}
use Rattle.table.specs.declared.Row.{Row}
use Rattle.gap_model.specs.Gap.{tsns_of}
use Rattle.payload_model.specs.Run.{Sane}
use Rattle.inflight_model.specs.Queue.{
  Queue,
  queue_of,
  held,
  pushed_no_check,
  marked_acked,
  marked_all,
  abandoned,
  popped,
  popped_up_to,
  got,
  counted,
  is_empty,
  num_bytes,
  fresh,
}

-- every call that may change the queue: a record pushed with its message's number, a TSN acknowledged, all marked, a message abandoned, a TSN popped, all up to a TSN popped
pub data Call : Type 0 where
  push_no_check : Row → ℕ → Call
  mark_as_acked : ℕ → Call
  mark_all_to_retransmit : Call
  abandon_message : ℕ → Call
  pop : ℕ → Call
  pop_up_to : ℕ → Call

-- what a call leaves, by the definitions that the promises cite
unfoldable pub step : Queue → Call → Queue
step q (push_no_check r message) = (pushed_no_check q r message).queue
step q (mark_as_acked tsn) = (marked_acked q tsn).queue
step q mark_all_to_retransmit = (marked_all q).queue
step q (abandon_message message) = (abandoned q message).queue
step q (pop tsn) = (popped q tsn).queue
step q (pop_up_to tsn) = (popped_up_to q tsn).queue

-- a fresh queue, and words and numbers that may be anything
abbrev pub starts : List ℕ → List ℕ → Queue
starts ws ms = queue_of fresh ws ms

-- each call starts from what the one before it left
abbrev pub ran : Queue → List Call → Queue
ran q [] = q
ran q (c ∷ cs) = ran (step q c) cs

-- the held TSNs, in stored order
abbrev pub tsns_held : Queue → List ℕ
tsns_held q = tsns_of (held q)

-- no call at all on the queue answers refusal 0
pub record AllSane (q : Queue) : Type 0 where
  pub push_no_check : (r : Row) (message : ℕ) → Sane (pushed_no_check q r message).told
  pub mark_as_acked : (tsn : ℕ) → Sane (marked_acked q tsn).told
  pub mark_all : Sane (marked_all q).told
  pub abandon_message : (message : ℕ) → Sane (abandoned q message).told
  pub pop : (tsn : ℕ) → Sane (popped q tsn).told
  pub pop_up_to : (tsn : ℕ) → Sane (popped_up_to q tsn).told
  pub get : (tsn : ℕ) → Sane (got q tsn)
  pub len : Sane (counted q)
  pub is_empty : Sane (is_empty q)
  pub num_bytes : Sane (num_bytes q)
