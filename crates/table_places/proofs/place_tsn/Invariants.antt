-- `table_places::place_tsn` meets its contract: the last row is before the TSN, or what is passed from the end on is not, so that the place is among the rest.
use mathlib.Core.Path.{◌≡◌}
use Prim.Native.Nat.{◌≤◌}
use lib.ListN.{take, drop}
use Rattle.table.specs.Rows.{rows_of, up_to_last, tsn_before}
use Rattle.table_places.proofs.place_tsn.Given as goal

abbrev pub invariant-loop-left : goal.invariant-loop-left
invariant-loop-left l = (l.left ≤ l.n) × (up_to_last (tsn_before l.tsn) (take l.n (drop l.from (rows_of l.size l.table))) ≡ up_to_last (tsn_before l.tsn) (take l.left (drop l.from (rows_of l.size l.table))))

abbrev pub decreases-loop-left : goal.decreases-loop-left
decreases-loop-left l = l.left
