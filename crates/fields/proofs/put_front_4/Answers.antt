-- `fields::put_front_4` meets its contract: the field goes into what is left behind the header.
use mathlib.Core.Path.{refl}
use Rattle.wire_model.specs.BigEndian.{big_endian}
use Rattle.wire.proofs.Writing.{behind}
use Rattle.chunk.specs.Layout.{header, header_bytes}
use Rattle.fields.proofs.put_front_4.Goals as goal

pub returns : goal.returns
unfolding big_endian header_bytes
returns c =
    let a = c.args in
    behind a.out.now (header_bytes (header a.kind a.flags a.size)) (big_endian 4 a.a) 4 refl c.put_header.ensures c.put_u32.ensures
