-- `bounded_sets::limit` meets its contract: of the SSNs of the sets passed that hold back the lowest is kept.
use Prim.Native.Nat.{◌-◌}
use Rattle.set_reach.specs.Kept.{lower}
use Rattle.set_reach.proofs.Keeping.{Keeping}
use Rattle.reassembly_state.specs.Limits.{frags_most}
use Rattle.set_reach.specs.Bounded.{held_back}
use Rattle.bounded_sets.proofs.limit.Given as goal

abbrev pub invariant-loop-i : goal.invariant-loop-i
invariant-loop-i l = Keeping (lower 16) (held_back l.last_ssn l.tsn) frags_most l.table l.from l.n l.i l.found l.lowest

abbrev pub decreases-loop-i : goal.decreases-loop-i
decreases-loop-i l = l.n - l.i
