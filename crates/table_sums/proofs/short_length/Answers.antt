-- `table_sums::short_length` meets its contract: the low half of the word.
use mathlib.Core.Path.{refl}
use Rattle.table_sums.proofs.short_length.Goals as goal

pub returns : goal.returns
returns c = refl
