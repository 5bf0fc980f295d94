-- `moves::put_one` meets its contract: so far, the elements passed from the end on stand one place up.
use Rattle.std.proofs.Common.{◌≡◌, ◌≤◌, ◌+◌, ◌-◌, drop}
use lib.Seq.{paste}
use Rattle.moves.proofs.put_one.Given as goal

abbrev pub invariant-loop-i : goal.invariant-loop-i
invariant-loop-i g l = (l.at ≤ l.i) × (l.pool ≡ paste l.initial.pool (l.i + 1) (drop l.i l.initial.pool) (l.total - l.i))
