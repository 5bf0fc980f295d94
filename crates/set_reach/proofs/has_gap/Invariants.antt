-- `set_reach::has_gap` meets its contract: where no gap ahead of the row at i is up to the TSN, those behind it decide.
use mathlib.Core.Path.{◌≡◌}
use Prim.Native.Nat.{◌+◌, ◌-◌}
use Rattle.set_reach.proofs.Reach.{Gap}
use Rattle.set_reach.proofs.has_gap.Given as goal

abbrev pub invariant-loop-i : goal.invariant-loop-i
invariant-loop-i l = (l.tsns ≡ l.size + l.from) × (l.end ≡ l.n - 1) × Gap l.tsn l.size l.table l.from l.n l.i
