-- `inflight_heads::abandon` meets its contract: after i turns those of the first i rows are abandoned beside which the number stands.
use mathlib.Core.Path.{◌≡◌}
use Prim.Native.Nat.{◌*◌}
use lib.ListN.{length, take}
use Rattle.table.specs.Rows.{rows_of}
use Rattle.payload_model.specs.Limits.{tsns_most}
use Rattle.inflight_model.specs.Queue.{abandoned_among}
use Rattle.inflight_model.proofs.Passes.{Passing}
use Rattle.inflight_heads.proofs.abandon.Given as goal

abbrev pub invariant-loop-i : goal.invariant-loop-i
invariant-loop-i l = (length l.table ≡ 4 * tsns_most) × (length (abandoned_among l.message (take l.n (rows_of tsns_most l.initial.table)) (take l.n l.messages)) ≡ l.n)
    × Passing (rows_of tsns_most l.initial.table) (abandoned_among l.message (take l.n (rows_of tsns_most l.initial.table)) (take l.n l.messages)) (rows_of tsns_most l.table) l.i
