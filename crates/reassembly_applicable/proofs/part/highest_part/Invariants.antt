-- `reassembly_applicable::part::highest_part` meets its contract: of the SSNs of the sets passed that may end a part the highest is kept.
use Prim.Native.Nat.{◌-◌}
use Rattle.set_reach.specs.Kept.{higher}
use Rattle.set_reach.proofs.Keeping.{Keeping}
use Rattle.reassembly_state.specs.Limits.{frags_most}
use Rattle.set_reach.specs.Applicable.{ends_part}
use Rattle.reassembly_applicable.proofs.part.highest_part.Given as goal

abbrev pub invariant-loop-i : goal.invariant-loop-i
invariant-loop-i l = Keeping (higher 16) (ends_part l.expected l.last_ssn l.tsn l.peer_last_tsn) frags_most l.table l.from l.n l.i l.found l.highest

abbrev pub decreases-loop-i : goal.decreases-loop-i
decreases-loop-i l = l.n - l.i
