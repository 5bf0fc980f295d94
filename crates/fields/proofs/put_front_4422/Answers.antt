-- `fields::put_front_4422` meets its contract: each part goes into what is left behind those before it.
use mathlib.Core.Path.{refl}
use mathlib.Core.List.{◌++◌}
use Rattle.wire_model.specs.BigEndian.{big_endian}
use Rattle.wire.proofs.Writing.{behind}
use Rattle.chunk.specs.Layout.{header, header_bytes}
use Rattle.fields.proofs.put_front_4422.Goals as goal

pub returns : goal.returns
unfolding big_endian header_bytes
returns c =
    let a = c.args in
    let out = a.out.now in
    let first = header_bytes (header a.kind a.flags a.size) ++ big_endian 4 a.a in
    let second = big_endian 4 a.b in
    behind out (first ++ second) (big_endian 2 a.c ++ big_endian 2 a.d) 12 refl
    (behind out first second 8 refl c.put_front_4.ensures c.put_u32.ensures) c.put_pair.ensures
