-- `moves::reverse` meets its contract: so far, the ends have changed places.
use Rattle.std.proofs.Common.{◌-◌, ◌*◌}
use Rattle.moves_model.proofs.Flip.{Flip}
use Rattle.moves.proofs.reverse.Given as goal

abbrev pub invariant-loop-i : goal.invariant-loop-i
invariant-loop-i g l = Flip l.initial.pool l.from l.to l.pool l.i (l.to - l.from - 2 * (l.i - l.from))
