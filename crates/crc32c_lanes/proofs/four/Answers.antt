-- `crc32c_lanes::four` meets its contract: five walks side by side, the last through zeros.
use native.Mathlib.Omega.{arith}
use Rattle.crc32c_lanes.proofs.Side.{lanes_turn, lanes_end}
use Rattle.crc32c_lanes.proofs.four.Goals as goal

pub loop-i-preserved : goal.loop-i-preserved
loop-i-preserved c =
    let first = c.step-a.ensures in
    let second = c.step-b.ensures in
    let third = c.step-c.ensures in
    lanes_turn c.loop-i.invariant (omega arith) first second third c.step-d.ensures c.step-far.ensures

pub returns : goal.returns
returns c = lanes_end c.loop-i.invariant (omega arith)
