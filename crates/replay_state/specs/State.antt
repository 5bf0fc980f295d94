-- A replay's state: document 02, M-113.
-- Assumes nothing.
use Rattle.std.specs.Prelude.{ℕ, List}
use Rattle.counters.specs.Counted as counted
use Rattle.counters.specs.Counted.{counted_as}
use Rattle.counters.specs.declared.Counters.{Counters}
use Rattle.counters.specs.declared.Kind.TheVariants as kinds
use Rattle.payload_model.specs.Queue.{Queue}
use Rattle.payload_queue.specs.Queue as tsns
use Rattle.payload_queue.specs.Queue.{queue_of}
use Rattle.replay_state.specs.declared.Replay.{Replay}

-- the number of the next record, the TSN queue, and what was counted
pub record State : Type 0 where
  pub number : ℕ
  pub queue : Queue
  pub counters : Counters

-- a struct, and the words lent beside it
abbrev pub state_of : Replay → List ℕ → State
state_of r ws = record { number = r.number; queue = queue_of r.queue ws; counters = r.counters }

-- nothing is replayed yet
abbrev pub fresh : Replay
fresh = record { number = 0; queue = tsns.fresh; counters = counted.fresh }
