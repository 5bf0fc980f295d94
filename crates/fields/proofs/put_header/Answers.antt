-- `fields::put_header` meets its contract: each field goes into what is left behind those before it.
use mathlib.Core.Path.{refl}
use mathlib.Core.List.{◌++◌}
use Rattle.wire_model.specs.BigEndian.{big_endian}
use Rattle.wire.proofs.Writing.{behind}
use Rattle.chunk.specs.Layout.{header_bytes}
use Rattle.fields.proofs.put_header.Goals as goal

pub returns : goal.returns
unfolding big_endian header_bytes
returns c =
    let a = c.args in
    let kind = big_endian 1 a.kind in
    let flags = big_endian 1 a.flags in
    behind a.out.now (kind ++ flags) (big_endian 2 a.size) 2 refl
    (behind a.out.now kind flags 1 refl c.put_u8.ensures c.put_u8-2.ensures) c.put_u16.ensures
