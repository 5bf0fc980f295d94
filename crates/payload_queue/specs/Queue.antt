-- The struct of the public calls, as the state below it.
-- Assumes nothing.
use Rattle.std.specs.Prelude.{ℕ, List}
use Rattle.payload_model.specs.Queue as state
use Rattle.payload_model.specs.Queue.{Queue}
use Rattle.payload_queue.specs.declared.PayloadQueue.{PayloadQueue}

-- a struct, and the words lent beside it
abbrev pub queue_of : PayloadQueue → List ℕ → Queue
queue_of q ws = state.queue_of q.counts ws

-- a fresh queue: the counts that every run starts from
abbrev pub fresh : PayloadQueue
fresh = record { counts = state.fresh }
