-- The guarantee with skips: the claims of specs/Skips, proved.
-- Assumes nothing.
use Rattle.arrival_with_skips.specs.Skips.{Always, Arrival, Arrival_then_takes}
use Rattle.arrival_with_skips.proofs.Calls.{always_of_calls, arrival-of-calls, calls_then_takes}

-- "every message taken is a whole message of the plan, byte for byte; none comes twice; ordered ones come in number order"
pub whole_with_skips : Always
whole_with_skips = always_of_calls

-- "every ordered message numbered after the highest skipped SSN comes out once taking ends; every unordered message all of whose TSNs are after the highest skipped TSN
-- does too (all, if none was). What remains held may only be pieces of unordered messages touched by a skip, and the byte count is their sum."
pub arrival_with_skips : Arrival
arrival_with_skips = arrival-of-calls

-- and as many takes at the end as the table has records are enough
pub arrival_with_skips_then_takes : Arrival_then_takes
arrival_with_skips_then_takes = calls_then_takes
