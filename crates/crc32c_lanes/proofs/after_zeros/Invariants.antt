-- `crc32c_lanes::after_zeros` meets its contract.
use Rattle.crc32c_lanes.proofs.Zeros.{Gathered}
use Rattle.crc32c_lanes.proofs.after_zeros.Given as goal

abbrev pub invariant-loop-i : goal.invariant-loop-i
invariant-loop-i l = Gathered l.register l.far l.sum l.rest l.bit l._i
