-- `bounded_sets::is_resolved` meets its contract: of the TSNs of the rows passed that count the lowest is kept.
use Rattle.reassembly_state.specs.Limits.{frags_most}
use Rattle.bounded_sets.proofs.Lowest.{Lowest}
use Rattle.bounded_sets.proofs.is_resolved.Given as goal

abbrev pub invariant-loop-i : goal.invariant-loop-i
invariant-loop-i l = Lowest l.last_ssn frags_most l.table l.from l.n l.i l.found l.lowest
