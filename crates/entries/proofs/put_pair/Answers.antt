-- `entries::put_pair` meets its contract: the second number goes into what is left behind the first.
use mathlib.Core.Path.{refl}
use Rattle.wire_model.specs.BigEndian.{big_endian}
use Rattle.wire.proofs.Writing.{behind}
use Rattle.entries.proofs.put_pair.Goals as goal

pub returns : goal.returns
unfolding big_endian
returns c =
    let a = c.args in
    behind a.out.now (big_endian 2 a.first) (big_endian 2 a.second) 2 refl c.put_u16.ensures c.put_u16-2.ensures
