-- `loose_fragments::scan_rows` meets its contract: after i turns the scan of the rest is that of the whole.
use mathlib.Core.Path.{◌≡◌}
use Prim.Native.Nat.{◌+◌}
use Rattle.loose_fragments.proofs.Scanned.{Scan}
use Rattle.loose_fragments.proofs.scan_rows.Given as goal

abbrev pub invariant-loop-i : goal.invariant-loop-i
invariant-loop-i l = (l.tsns ≡ l.size + l.from) × Scan l.size l.table l.from l.n l.i l.start l.want
