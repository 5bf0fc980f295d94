-- `table_sums::sum_short` meets its contract: so far the sum is that of the lengths in the words passed, of 16 bits each.
use Rattle.std.proofs.Common.{◌≡◌, ◌*◌, ◌≤◌, take}
use Rattle.std.specs.List.{sum_by}
use Rattle.table.specs.Rows.{short_length}
use Rattle.table_sums.proofs.sum_short.Given as goal

abbrev pub invariant-loop-head : goal.invariant-loop-head
invariant-loop-head l = (l.sum ≤ l.head-index * 65535) × (l.sum ≡ sum_by short_length (take l.head-index l.head-items))
