-- `packet_parts::padded_size` meets its contract: its expression is the definition.
use mathlib.Core.Path.{refl}
use Rattle.packet_parts.specs.Fronts.{rounded}
use Rattle.packet_parts.proofs.padded_size.Goals as goal

pub returns : goal.returns
unfolding rounded
returns c = refl
