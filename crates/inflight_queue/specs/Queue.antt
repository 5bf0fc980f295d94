-- The struct of the public calls, as the state below it.
-- Assumes nothing.
use Rattle.std.specs.Prelude.{ℕ, List}
use Rattle.inflight_model.specs.Queue as state
use Rattle.inflight_model.specs.Queue.{Queue}
use Rattle.inflight_queue.specs.declared.InFlightQueue.{InFlightQueue}

-- a struct, and the words and numbers lent beside it
abbrev pub queue_of : InFlightQueue → List ℕ → List ℕ → Queue
queue_of q ws ms = state.queue_of q.counts ws ms

-- a fresh queue: the counts that every run starts from
abbrev pub fresh : InFlightQueue
fresh = record { counts = state.fresh }
