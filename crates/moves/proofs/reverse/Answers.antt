-- `moves::reverse` meets its contract: each turn exchanges the two ends of what is left.
use mathlib.Core.Path.{◌≡◌}
use Prim.Native.Nat.{◌+◌, ◌-◌, ◌*◌}
use native.Mathlib.Omega.{arith}
use Rattle.moves_model.proofs.Flip.{flip_none, flip_turn, flip_done}
use Rattle.moves.proofs.reverse.Goals as goal

pub loop-i-init : goal.loop-i-init
loop-i-init g c =
    let a = c.args in
    let p = c.requires in
    let e : a.to - a.from ≡ a.to - a.from - 2 * (a.from - a.from) = omega arith in
    rw (← e) (flip_none a.pool.now a.from a.to p.from_le_to p.to_in_bounds)

pub loop-i-preserved : goal.loop-i-preserved
loop-i-preserved g c =
    let a = c.args in
    let i = c.loop-i.i in
    let d = a.to - a.from - 2 * (i - a.from) in
    let e : d - 2 ≡ a.to - a.from - 2 * (i + 1 - a.from) = omega arith in
    rw (← e) (flip_turn (a.to - 1 - (i - a.from)) c.index-pool-i.result c.index-pool-j.result (omega arith) (omega arith) c.index-pool-i.is c.index-pool-j.is c.loop-i.invariant)

pub returns : goal.returns
returns g c = flip_done (omega arith) c.loop-i.invariant
