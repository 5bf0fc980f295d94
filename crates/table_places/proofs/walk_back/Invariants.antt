-- `table_places::walk_back` meets its contract: what is passed from the end on is not before the TSN, so the place is among the rest.
use Rattle.std.proofs.Common.{◌≡◌, take, drop}
use Rattle.table.specs.Rows.{rows_of, up_to_last, tsn_before}
use Rattle.table_places.proofs.walk_back.Given as goal

abbrev pub invariant-loop-at : goal.invariant-loop-at
invariant-loop-at l = up_to_last (tsn_before l.tsn) (take l.n (drop l.from (rows_of l.size l.table))) ≡ up_to_last (tsn_before l.tsn) (take l.at (drop l.from (rows_of l.size l.table)))
