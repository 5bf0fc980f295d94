-- `moves::close` meets its contract: each turn moves one element down, and at the end they are those of the contract.
use mathlib.Core.Path.{◌≡◌, ap, ◌∙◌}
use Prim.Native.Nat.{◌+◌, ◌-◌}
use native.Mathlib.Omega.{arith}
use lib.ListN.{get_or, drop, set}
use lib.Seq.{paste}
use Rattle.moves_model.proofs.Shifted.{closing, closed, none_gone}
use Rattle.moves.proofs.close.Goals as goal

pub returns-then-k-eq0 : goal.returns-then-k-eq0
returns-then-k-eq0 g c =
    let a = c.args in
    let none : a.k ≡ 0 = omega (arith, c.if-k-eq0.true) in
    rw none (none_gone a.pool.now a.total a.at c.requires.total_in_bounds)

pub loop-i-preserved : goal.loop-i-preserved
loop-i-preserved g c =
    let a = c.args in
    let i = c.loop-i.i in
    let v = c.index-pool-i.result in
    let was = c.loop-i.invariant in
    ap (λ pool. set pool i v) was ∙ closing a.pool.now a.at a.k i v (omega arith) (omega arith) (c.index-pool-i.is ∙ ap (λ pool. get_or pool (i + a.k) v) was)

pub returns : goal.returns
returns g c =
    let a = c.args in
    let e : c.loop-i.i - a.at ≡ a.total - (a.at + a.k) = omega arith in
    c.loop-i.invariant ∙ ap (paste a.pool.now a.at (drop (a.at + a.k) a.pool.now)) e ∙ closed a.pool.now a.total a.at a.k (omega arith) (omega arith)
