-- `crc32c_lanes::step` meets its contract: the table's rule.
use Rattle.crc32c_lanes.proofs.Walk.{by_table}
use Rattle.crc32c_lanes.proofs.step.Goals as goal

pub returns : goal.returns
returns c = by_table c.requires _ c.wide.ensures.1 c.wide.ensures.0
