-- `wire::get_u16` meets its contract: each byte after the first makes the number 256 times what it was, and itself.
use native.Mathlib.Omega.{arith}
use Rattle.wire.proofs.Laws.{read_first, read_more}
use Rattle.wire.proofs.get_u16.Goals as goal

pub returns : goal.returns
returns c =
    let one = c.before.before in
    let a = one.args in
    let first = read_first a.raw.now a.at _ (omega arith) one.wide-a.ensures.1 one.wide-a.ensures.0 in
    read_more a.raw.now a.at 1 _ _ (omega arith) c.wide-b.ensures.1 c.wide-b.ensures.0 first
