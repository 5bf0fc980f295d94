-- Arrival order does not matter: the claims of specs/Calls, proved.
-- Assumes nothing.
use Rattle.arrival.specs.Calls.{Arrival, Arrival_then_takes}
use Rattle.arrival_plan.proofs.Whole.{arrival, drained, unrefused}
use Rattle.arrival.proofs.Calls.{arrival-of-calls, calls_then_takes}

-- "Take until nothing is readable: ordered messages came out in number order, unordered ones in some order, each once and byte for byte, nothing is held, the byte count is 0."
pub arrival_order : Arrival
arrival_order = arrival-of-calls arrival unrefused

-- and 512 takes at the end are enough
pub arrival_order_then_takes : Arrival_then_takes
arrival_order_then_takes = calls_then_takes arrival unrefused drained
