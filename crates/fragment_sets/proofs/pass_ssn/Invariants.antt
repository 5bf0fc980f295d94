-- `fragment_sets::pass_ssn` meets its contract: what is passed has this SSN, so the rows ahead are those passed and those ahead in the rest.
use mathlib.Core.Path.{◌≡◌}
use Prim.Native.Nat.{◌+◌, ◌*◌, ◌/◌, ◌-◌}
use lib.ListN.{take, drop}
use Rattle.table.specs.Rows.{rows_of, ahead_of}
use Rattle.fragments.specs.Frag.{of_row}
use Rattle.fragment_sets.specs.Sets.{other_ssn}
use Rattle.fragment_sets.proofs.pass_ssn.Given as goal

abbrev pub invariant-loop-block : goal.invariant-loop-block
invariant-loop-block l = (l.blocks ≡ l.n / 16) × (l.block * 16 + ahead_of (of_row (other_ssn l.ssn)) (take (l.n - l.block * 16) (drop (l.from + l.block * 16) (rows_of l.size l.table))) ≡ ahead_of (of_row (other_ssn l.ssn)) (take l.n (drop l.from (rows_of l.size l.table))))
