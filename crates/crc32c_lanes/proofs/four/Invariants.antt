-- `crc32c_lanes::four` meets its contract: five walks side by side, the last through zeros.
use Rattle.crc32c_lanes.proofs.Side.{Lanes}
use Rattle.crc32c_lanes.proofs.four.Given as goal

abbrev pub invariant-loop-i : goal.invariant-loop-i
invariant-loop-i l = Lanes l.words l.register l.bytes l.part l.a l.b l.c l.d l.far l.i
