-- `packet::unmarshal` meets its contract: the sum that stands in the field is held against the packet's, and the fields are those in front.
use mathlib.Core.Path.{refl}
use borrow.Author.Rules.{rules}
use borrow.Author.Tests.{lt-ltb}
use native.Mathlib.Omega.{arith}
use Rattle.crc32c.specs.Crc.{little_endian}
use Rattle.wire_model.specs.BigEndian.{big_endian}
use Rattle.wire.proofs.Reading.{field}
use Rattle.packet.specs.Layout.{common_bytes}
use Rattle.packet.specs.Header.{common_read}
use Rattle.packet.proofs.Sums.{common-whole, sum_wrong, sum_right}
use Rattle.packet.proofs.unmarshal.Goals as goal

pub returns-then-raw-lt12 : goal.returns-then-raw-lt12
unfolding common_read
returns-then-raw-lt12 c f = rw (lt-ltb _ 12 c.if-raw-lt12.true)

pub returns-then-stands-right : goal.returns-then-stands-right
returns-then-stands-right c f = sum_wrong f c.if-raw-lt12.false (search rules) (search rules) (search rules) c.sum.ensures c.swapped-right.ensures c.get_u32-stands.ensures c.if-stands-right.true

pub returns : goal.returns
unfolding big_endian common_bytes little_endian
returns c f =
    let long = c.if-raw-lt12.false in
    let whole = common-whole f long in
    let source = field whole 0 2 (omega arith) f.fits.common.source (search rules) refl c.get_u16-source_port.ensures in
    let destination = field whole 2 2 (omega arith) f.fits.common.destination (search rules) refl c.get_u16-destination_port.ensures in
    let tag = field whole 4 4 (omega arith) f.fits.common.tag (search rules) refl c.get_u32-verification_tag.ensures in
    sum_right f long (search rules) (search rules) (search rules) c.sum.ensures c.swapped-right.ensures c.get_u32-stands.ensures c.if-stands-right.false (rw (source, destination, tag))
