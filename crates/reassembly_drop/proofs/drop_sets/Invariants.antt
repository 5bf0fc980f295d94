-- `reassembly_drop::drop_sets` meets its contract: after each set those that stay of the passed ones stand at the front.
use mathlib.Core.Path.{◌≡◌}
use Prim.Native.Nat.{◌*◌, ◌-◌}
use lib.ListN.{length}
use Rattle.table.specs.Rows.{rows_of}
use Rattle.reassembly_state.specs.Limits.{frags_most}
use Rattle.reassembly_state.specs.State.{state_of}
use Rattle.set_reach.specs.Kept.{dropped}
use Rattle.set_reach.proofs.Skip.{Skip}
use Rattle.reassembly_drop.proofs.drop_sets.Given as goal

abbrev pub invariant-loop-at : goal.invariant-loop-at
invariant-loop-at l = (length l.table ≡ 4 * frags_most) × Skip (dropped l.last_ssn l.bounded l.tsn) (state_of l.initial.queue l.initial.table l.initial.pool) (rows_of frags_most l.table) l.pool l.at l.off l.kept l.bytes

abbrev pub decreases-loop-at : goal.decreases-loop-at
decreases-loop-at l = l.held - l.at
