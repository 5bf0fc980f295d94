-- `counters::new` meets its contract: what it makes is what is counted at the start.
use mathlib.Core.Path.{refl}
use Rattle.counters.proofs.new.Goals as goal

pub returns : goal.returns
returns c = refl
