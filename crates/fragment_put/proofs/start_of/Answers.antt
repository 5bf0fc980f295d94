-- `fragment_put::start_of` meets its contract: behind all rows the lengths ahead are all of them.
use mathlib.Core.Path.{sym}
use Rattle.fragment_put.proofs.start_of.Goals as goal

pub returns-then-at-n : goal.returns-then-at-n
returns-then-at-n c = rw c.if-at-n.true (sym c.requires.table_value)

pub returns : goal.returns
returns c = c.sum_long.ensures
