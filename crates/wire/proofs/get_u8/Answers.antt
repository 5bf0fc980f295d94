-- `wire::get_u8` meets its contract: the first byte is the number.
use mathlib.Core.Path.{refl}
use native.Mathlib.Omega.{arith}
use Rattle.wire.proofs.Laws.{read_first}
use Rattle.wire.proofs.get_u8.Goals as goal

pub returns : goal.returns
returns c =
    let a = c.args in
    read_first a.raw.now a.at _ (omega arith) (omega (arith, c.type_inv.raw a.at)) refl
