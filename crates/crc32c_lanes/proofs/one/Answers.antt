-- `crc32c_lanes::one` meets its contract.
use native.Mathlib.Omega.{arith}
use Rattle.crc32c_lanes.proofs.Walk.{walk_turn, walk_end}
use Rattle.crc32c_lanes.proofs.one.Goals as goal

pub loop-byte-preserved : goal.loop-byte-preserved
loop-byte-preserved c = walk_turn c.loop-byte.invariant (omega arith) c.step-r.ensures

pub returns : goal.returns
returns c = walk_end c.loop-byte.invariant (omega arith)
