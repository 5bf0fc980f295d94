-- `moves::close` meets its contract: so far, what is behind the k stands from the index on.
use Rattle.std.proofs.Common.{◌≡◌, ◌+◌, ◌-◌, drop}
use lib.Seq.{paste}
use Rattle.moves.proofs.close.Given as goal

abbrev pub invariant-loop-i : goal.invariant-loop-i
invariant-loop-i g l = l.pool ≡ paste l.initial.pool l.at (drop (l.at + l.k) l.initial.pool) (l.i - l.at)
