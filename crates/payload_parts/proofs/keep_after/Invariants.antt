-- `payload_parts::keep_after` meets its contract: after i turns the rows that stay of the first i stand at the front.
use mathlib.Core.Path.{◌≡◌}
use Prim.Native.Nat.{◌*◌}
use lib.ListN.{length}
use Rattle.table.specs.Rows.{rows_of}
use Rattle.payload_model.specs.Limits.{tsns_most}
use Rattle.payload_model.specs.Queue.{stays_after}
use Rattle.payload_model.proofs.Laws.{Kept}
use Rattle.payload_parts.proofs.keep_after.Given as goal

abbrev pub invariant-loop-i : goal.invariant-loop-i
invariant-loop-i l = (length l.table ≡ 4 * tsns_most) × Kept (stays_after l.tsn) (rows_of tsns_most l.initial.table) l.n (rows_of tsns_most l.table) l.left l.i
