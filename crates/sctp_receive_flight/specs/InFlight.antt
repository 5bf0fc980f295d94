-- The in-flight queue and a record of it, put together from the fields that C keeps and the arrays that it lends.
-- Assumes nothing.
use Rattle.std.specs.Prelude.{ℕ, Bool, List}
use Rattle.payload_model.specs.Queue.{Found}
use Rattle.inflight_model.specs.Queue.{Queue, Given}
use Rattle.inflight_queue.specs.Queue.{queue_of}
use Rattle.inflight_queue.specs.declared.InFlightQueue.{InFlightQueue}

abbrev pub flight_counts : ℕ → ℕ → InFlightQueue
flight_counts count bytes = record { counts = record { count = count; n_bytes = bytes } }

-- its counts, and the words and numbers lent beside them
abbrev pub flight_from : ℕ → ℕ → List ℕ → List ℕ → Queue
flight_from count bytes ws ms = queue_of (flight_counts count bytes) ws ms

-- a chunk of it, if one was found: its marks, and its message's number
abbrev pub given_from : Found → Bool → Bool → Bool → ℕ → Given
given_from chunk acked abandoned retransmit message = record { chunk = chunk; acked = acked; abandoned = abandoned; retransmit = retransmit; message = message }
