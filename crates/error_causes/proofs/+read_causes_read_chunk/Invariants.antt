-- The cycle of calls {read_causes, read_chunk}: "the remaining byte count falls at every call".
use Prim.Native.Nat.{◌-◌}
use lib.ListN.{length}
use Rattle.error_causes.proofs.Walk.{Walk}
use Rattle.error_causes.proofs.+read_causes_read_chunk.Given as goal

abbrev pub decreases-read_causes : goal.decreases-read_causes
decreases-read_causes l = length l.raw.now - l.from

abbrev pub decreases-read_chunk : goal.decreases-read_chunk
decreases-read_chunk l = length l.raw.now - l.at

abbrev pub invariant-read_causes-loop-at : goal.invariant-read_causes-loop-at
invariant-read_causes-loop-at l = Walk l.told l.raw l.from l.depth l.count l.initial.list l.at l.n l.list

abbrev pub decreases-read_causes-loop-at : goal.decreases-read_causes-loop-at
decreases-read_causes-loop-at l = length l.raw - l.at
