-- `chunk_payload_data::fields` meets its contract: what is read at each place is the field whose bytes stand there.
use mathlib.Core.Path.{refl}
use borrow.Author.Rules.{rules}
use native.Mathlib.Omega.{arith}
use Rattle.wire_model.specs.BigEndian.{big_endian}
use Rattle.wire.proofs.Reading.{field}
use Rattle.chunk.specs.Layout.{header_bytes}
use Rattle.data_marshal.specs.Layout.{DataFits, data_value}
use Rattle.data_fields.specs.Fields.{data_held, data_shown}
use Rattle.chunk.proofs.Headers.{headed_whole}
use Rattle.chunk_payload_data.proofs.fields.Goals as goal

pub returns : goal.returns
unfolding big_endian data_held data_shown data_value header_bytes
returns c f =
    let w = headed_whole data_value DataFits 12 f refl c.requires in
    let d = f.fits.fields in
    rw (
      ← (field w 4 4 (omega arith) d.tsn (search rules) refl c.get_u32-tsn.ensures),
      ← (field w 8 2 (omega arith) d.stream (search rules) refl c.get_u16-stream_identifier.ensures),
      ← (field w 10 2 (omega arith) d.ssn (search rules) refl c.get_u16-stream_sequence_number.ensures),
      ← (field w 12 4 (omega arith) d.identifier (search rules) refl c.get_u32-payload_type.ensures),
    )
