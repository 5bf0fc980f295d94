-- `payload_fresh::fresh` meets its contract: what it makes is the fresh queue's counts.
use mathlib.Core.Path.{refl}
use Rattle.payload_fresh.proofs.fresh.Goals as goal

pub returns : goal.returns
returns c = refl
