-- `bounded_sets::is_settled` meets its contract: where no set passed does, those from the row at i on decide.
use Prim.Native.Nat.{◌-◌}
use Rattle.set_reach.proofs.Keeping.{Looking}
use Rattle.reassembly_state.specs.Limits.{frags_most}
use Rattle.set_reach.specs.Applicable.{settles}
use Rattle.bounded_sets.proofs.is_settled.Given as goal

abbrev pub invariant-loop-i : goal.invariant-loop-i
invariant-loop-i l = Looking (settles l.expected l.last_ssn l.tsn) frags_most l.table l.from l.n l.i

abbrev pub decreases-loop-i : goal.decreases-loop-i
decreases-loop-i l = l.n - l.i
