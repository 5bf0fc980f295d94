-- `crc32c_table::entries` meets its contract: its rule is one test of all 256 entries.
use mathlib.Core.Path.{refl}
use Rattle.crc32c_table.specs.Crc.{bit_step, bit_steps}
use Rattle.crc32c_table.proofs.Every.{ruled}
use Rattle.crc32c_table.proofs.entries.Goals as goal

pub returns : goal.returns
unfolding bit_step bit_steps
returns c = ruled _ refl tt
