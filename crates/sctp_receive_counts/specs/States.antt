-- The TSN queue, put together from the fields that C keeps and the arrays that it lends.
-- Assumes nothing.
use Rattle.std.specs.Prelude.{ℕ, Bool, List}
use Rattle.payload_model.specs.Queue.{Queue, Last, Handed}
use Rattle.payload_queue.specs.Queue.{queue_of}
use Rattle.payload_queue.specs.declared.PayloadQueue.{PayloadQueue}

-- its counts and its log
abbrev pub tsn_counts : ℕ → ℕ → ℕ → List ℕ → PayloadQueue
tsn_counts count bytes dups log = record { counts = record { count = count; n_bytes = bytes; dups = dups; dup_tsn = log } }

-- these, and the words lent beside them
abbrev pub tsns_from : ℕ → ℕ → ℕ → List ℕ → List ℕ → Queue
tsns_from count bytes dups log ws = queue_of (tsn_counts count bytes dups log) ws

-- the TSN that stands last, if there is one
abbrev pub last_from : Bool → ℕ → Last
last_from found tsn = record { found = found; tsn = tsn }

-- the log that is handed out: the count and all places
abbrev pub handed_from : ℕ → List ℕ → Handed
handed_from count tsns = record { count = count; tsns = tsns }
