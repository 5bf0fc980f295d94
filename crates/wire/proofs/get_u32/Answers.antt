-- `wire::get_u32` meets its contract: each byte after the first makes the number 256 times what it was, and itself.
use native.Mathlib.Omega.{arith}
use Rattle.wire.proofs.Laws.{read_first, read_more}
use Rattle.wire.proofs.get_u32.Goals as goal

pub returns : goal.returns
returns c =
    let three = c.before.before in
    let two = three.before.before in
    let one = two.before.before in
    let a = one.args in
    let first = read_first a.raw.now a.at _ (omega arith) one.wide-a.ensures.1 one.wide-a.ensures.0 in
    let second = read_more a.raw.now a.at 1 _ _ (omega arith) two.wide-b.ensures.1 two.wide-b.ensures.0 first in
    let third = read_more a.raw.now a.at 2 _ _ (omega arith) three.wide-c.ensures.1 three.wide-c.ensures.0 second in
    read_more a.raw.now a.at 3 _ _ (omega arith) c.wide-d.ensures.1 c.wide-d.ensures.0 third
