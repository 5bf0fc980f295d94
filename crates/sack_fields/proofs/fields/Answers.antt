-- `sack_fields::fields` meets its contract: what is read at each place is the field whose bytes stand there.
use mathlib.Core.Path.{refl}
use borrow.Author.Rules.{rules}
use native.Mathlib.Omega.{arith}
use Rattle.wire_model.specs.BigEndian.{big_endian}
use Rattle.wire.proofs.Reading.{field}
use Rattle.chunk.specs.Layout.{header_bytes}
use Rattle.sack_entries.specs.Layout.{SackFits, sack_value}
use Rattle.sack_fields.specs.Sack.{sack_held}
use Rattle.chunk.proofs.Headers.{headed_whole}
use Rattle.sack_fields.proofs.fields.Goals as goal

pub returns : goal.returns
unfolding big_endian header_bytes sack_held sack_value
returns c f =
    let w = headed_whole sack_value SackFits 12 f refl c.requires in
    let d = f.fits.fields in
    rw (
      field w 4 4 (omega arith) d.cumulative (search rules) refl c.get_u32-cumulative_tsn_ack.ensures,
      field w 8 4 (omega arith) d.window (search rules) refl c.get_u32-advertised_receiver_window_credit.ensures,
      field w 12 2 (omega arith) d.blocks (search rules) refl c.get_u16-gap_ack_blocks.ensures,
      field w 14 2 (omega arith) d.duplicates (search rules) refl c.get_u16-duplicate_tsns.ensures,
    )
