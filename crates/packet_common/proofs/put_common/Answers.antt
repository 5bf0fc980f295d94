-- `packet_common::put_common` meets its contract: each field goes into what is left behind those before it.
use mathlib.Core.Path.{refl}
use mathlib.Core.List.{◌++◌}
use Rattle.crc32c.specs.Crc.{little_endian}
use Rattle.wire_model.specs.BigEndian.{big_endian}
use Rattle.wire.proofs.Writing.{behind}
use Rattle.packet.specs.Layout.{common_bytes}
use Rattle.packet_common.proofs.put_common.Goals as goal

pub returns : goal.returns
unfolding big_endian common_bytes little_endian
returns c =
    let a = c.args in
    let out = a.out.now in
    let source = big_endian 2 a.source_port in
    let destination = big_endian 2 a.destination_port in
    let tag = big_endian 4 a.verification_tag in
    behind out ((source ++ destination) ++ tag) (big_endian 4 0) 8 refl
    (behind out (source ++ destination) tag 4 refl (behind out source destination 2 refl c.put_u16.ensures c.put_u16-2.ensures) c.put_u32.ensures) c.put_u32-2.ensures
