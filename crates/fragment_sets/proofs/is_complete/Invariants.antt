-- `fragment_sets::is_complete` meets its contract: without B first or E last the rows are not whole; with both, where all is well up to the row at i, those behind it decide.
use mathlib.Core.Path.{◌≡◌}
use Prim.Native.Nat.{◌+◌, ◌-◌}
use Rattle.fragment_sets.proofs.Complete.{Whole}
use Rattle.fragment_sets.proofs.is_complete.Given as goal

abbrev pub invariant-loop-i : goal.invariant-loop-i
invariant-loop-i l = (l.tsns ≡ l.size + l.from) × (l.end ≡ l.n - 1) × Whole l.size l.table l.from l.n l.i
