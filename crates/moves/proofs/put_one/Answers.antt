-- `moves::put_one` meets its contract: each turn moves one element up, and the new one is written into the room.
use mathlib.Core.Path.{◌≡◌, ap, ◌∙◌}
use Prim.Native.Nat.{◌+◌, ◌-◌}
use native.Mathlib.Omega.{arith}
use lib.ListN.{get_or, drop, set}
use lib.Seq.{paste}
use Rattle.std.proofs.lemmas.List.Edits.{paste_none}
use Rattle.moves_model.proofs.Shifted.{opening, put_one}
use Rattle.moves.proofs.put_one.Goals as goal

pub loop-i-init : goal.loop-i-init
loop-i-init g c =
    let a = c.args in
    let e : 0 ≡ a.total - a.total = omega arith in
    (c.requires.at_le_total, paste_none a.pool.now (a.total + 1) (drop a.total a.pool.now) ∙ ap (paste a.pool.now (a.total + 1) (drop a.total a.pool.now)) e)

pub loop-i-preserved : goal.loop-i-preserved
loop-i-preserved g c =
    let a = c.args in
    let i = c.loop-i.i in
    let v = c.index-pool-i.result in
    let was = c.loop-i.invariant.1 in
    (omega arith, ap (λ pool. set pool (i - 1 + 1) v) was ∙ opening a.pool.now 1 a.total i v (omega arith) (omega arith) (omega arith) (c.index-pool-i.is ∙ ap (λ pool. get_or pool (i - 1) v) was))

pub returns : goal.returns
returns g c =
    let a = c.args in
    let e : c.loop-i.i ≡ a.at = omega arith in
    let was = rw e at c.loop-i.invariant.1 in
    ap (λ pool. set pool a.at a.new) was ∙ put_one a.pool.now a.total a.at a.new (omega arith) (omega arith)
