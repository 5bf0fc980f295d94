-- `inflight_parts::keep_numbers` meets its contract: after i turns the numbers beside the rows that stay of the first i stand at the front.
use mathlib.Core.Path.{◌≡◌}
use lib.ListN.{length}
use Rattle.table.specs.Rows.{rows_of}
use Rattle.payload_model.specs.Limits.{tsns_most}
use Rattle.payload_model.specs.Queue.{stays_after}
use Rattle.inflight_model.proofs.Passes.{Beside}
use Rattle.inflight_parts.proofs.keep_numbers.Given as goal

abbrev pub invariant-loop-i : goal.invariant-loop-i
invariant-loop-i l = (length l.messages ≡ length l.initial.messages) × Beside (stays_after l.tsn) (rows_of tsns_most l.table) l.initial.messages l.n l.messages l.left l.i
