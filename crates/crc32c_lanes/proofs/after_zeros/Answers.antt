-- `crc32c_lanes::after_zeros` meets its contract.
use native.Mathlib.Omega.{arith}
use Rattle.crc32c_lanes.proofs.Zeros.{gather_turn, gather_end}
use Rattle.crc32c_lanes.proofs.after_zeros.Goals as goal

pub loop-i-preserved : goal.loop-i-preserved
loop-i-preserved c = gather_turn c.loop-i.invariant (omega arith) c.bit_out-bit.ensures

pub returns : goal.returns
returns c = record { left = gather_end c.loop-i.invariant (omega arith) }
