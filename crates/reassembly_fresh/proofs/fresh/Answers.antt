-- `reassembly_fresh::fresh` meets its contract: what it makes has these fields.
use mathlib.Core.Path.{refl}
use Rattle.reassembly_fresh.proofs.fresh.Goals as goal

pub returns : goal.returns
returns c = refl
