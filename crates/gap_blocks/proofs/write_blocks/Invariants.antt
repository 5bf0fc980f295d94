-- `gap_blocks::write_blocks` meets its contract: after i turns the blocks of the first i TSNs stand in front of both lists (`Put`).
use Prim.Native.Nat.{◌-◌}
use Rattle.gap_model.proofs.Walk.{Put}
use Rattle.gap_blocks.proofs.write_blocks.Given as goal

abbrev pub invariant-loop-i : goal.invariant-loop-i
invariant-loop-i l = Put l.cumulative l.size l.n l.table l.initial.starts l.initial.ends l.starts l.ends l.count l.want l.i

abbrev pub decreases-loop-i : goal.decreases-loop-i
decreases-loop-i l = l.n - l.i
