-- `replay_file::most_records` meets its contract: the number is the one of the definition.
use mathlib.Core.Path.{refl}
use Rattle.replay_file.proofs.most_records.Goals as goal

pub returns : goal.returns
returns c = refl
