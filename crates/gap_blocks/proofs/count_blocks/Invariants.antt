-- `gap_blocks::count_blocks` meets its contract: after i turns it has counted the blocks of the first i TSNs (`Seen`).
use mathlib.Core.List.{List}
use Rattle.gap_model.specs.Gap.{Block}
use Rattle.gap_model.proofs.Walk.{Seen}
use Rattle.gap_blocks.proofs.count_blocks.Given as goal

abbrev pub invariant-loop-i : goal.invariant-loop-i
invariant-loop-i l = (bs : List Block) × Seen l.cumulative l.size l.n l.table l.i bs l.needed l.want
