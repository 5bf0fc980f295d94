-- `crc32c_lanes::bit_out` meets its contract.
use mathlib.Core.Path.{refl}
use Rattle.crc32c_table.specs.Crc.{bit_step}
use Rattle.crc32c_lanes.proofs.bit_out.Goals as goal

pub returns : goal.returns
unfolding bit_step
returns c = refl
