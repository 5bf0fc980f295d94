-- `gap_following::following` meets its contract: after i turns i TSNs have followed one another (`Followed`).
use mathlib.Core.Path.{refl}
use Prim.Native.Nat.{◌-◌}
use native.Mathlib.Omega.{arith}
use Rattle.std.proofs.Math.Nat.{min-le_left, min-le_right}
use Rattle.gap_model.proofs.Follow.{followed_none, followed_here, followed_turn, followed_all}
use Rattle.gap_following.proofs.following.Goals as goal

pub loop-i-init : goal.loop-i-init
loop-i-init c =
    let a = c.args in
    (refl, c.min-most.ensures, followed_none a.size a.n a.table.now a.from a.room a.tsn c.requires.table_len c.requires.n_le_size c.requires.from_le_n)

pub returns-then-table-tsns : goal.returns-then-table-tsns
returns-then-table-tsns c =
    let a = c.args in
    let m = c.loop-i.invariant.1 in
    followed_here c.loop-i.invariant.2 (omega (arith, min-le_right a.room (a.n - a.from))) (omega (arith, min-le_left a.room (a.n - a.from))) c.if-table-tsns.true

pub loop-i-preserved : goal.loop-i-preserved
loop-i-preserved c =
    let a = c.args in
    let i = c.loop-i.invariant in
    (refl, i.1, rw c.tsn_next-want.ensures (followed_turn i.2 (omega (arith, min-le_right a.room (a.n - a.from))) (omega (arith, min-le_left a.room (a.n - a.from))) c.if-table-tsns.false))

pub returns : goal.returns
returns c = followed_all c.loop-i.invariant.2 _ c.loop-i.invariant.1 (omega arith)
