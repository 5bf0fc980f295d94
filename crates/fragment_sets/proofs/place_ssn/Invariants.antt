-- `fragment_sets::place_ssn` meets its contract: what is passed from the end on is not before the SSN, so the place is among the rest.
use mathlib.Core.Path.{◌≡◌}
use Prim.Native.Nat.{◌+◌, ◌*◌}
use lib.ListN.{take, drop}
use Rattle.table.specs.Rows.{rows_of, up_to_last}
use Rattle.fragments.specs.Frag.{of_row, ssn_before}
use Rattle.fragment_sets.proofs.place_ssn.Given as goal

abbrev pub invariant-loop-at : goal.invariant-loop-at
invariant-loop-at l = (l.ids ≡ 2 * l.size + l.from) × (up_to_last (of_row (ssn_before l.ssn)) (take l.n (drop l.from (rows_of l.size l.table))) ≡ up_to_last (of_row (ssn_before l.ssn)) (take l.at (drop l.from (rows_of l.size l.table))))
