-- `crc32c_lanes::one` meets its contract.
use Rattle.crc32c_lanes.proofs.Walk.{Walked}
use Rattle.crc32c_lanes.proofs.one.Given as goal

abbrev pub invariant-loop-byte : goal.invariant-loop-byte
invariant-loop-byte l = Walked l.register l.bytes l.r l.byte-index
