-- `sack_entries::gap_ack_block_at` meets its contract: what is read from entry i on is the block whose bytes stand there.
use mathlib.Core.Path.{refl}
use Prim.Native.Nat.{◌*◌, ◌≤◌}
use borrow.Author.Rules.{rules}
use borrow.Author.Tests.{le-leb, lt-leb}
use native.Mathlib.Omega.{arith}
use lib.ListN.{length, drop, length-drop}
use lib.Seq.{drop-drop}
use Rattle.wire_model.specs.BigEndian.{big_endian}
use Rattle.wire.proofs.Reading.{Whole, field}
use Rattle.sack_entries.specs.Layout.{block_bytes}
use Rattle.sack_entries.proofs.gap_ack_block_at.Goals as goal

pub returns-then-part-i : goal.returns-then-part-i
returns-then-part-i c f = rw (le-leb _ _ c.if-part-i.true)

pub returns : goal.returns
unfolding big_endian block_bytes
returns c f =
    let a = c.args in
    let long : 4 ≤ length (drop (4 * a.i) a.part.now) = rw length-drop (omega arith) in
    let w : Whole (drop (4 * a.i) a.part.now) (block_bytes f.fields) 4 = record { long = long; sized = refl; begins = f.begins } in
    rw (
      lt-leb _ _ c.if-part-i.false,
      field w 0 2 (omega arith) f.fits.start (search rules) refl c.get_u16-start.ensures,
      field w 2 2 {y = c.get_u16-end.result} (omega arith) f.fits.end (search rules) refl (rw drop-drop c.get_u16-end.ensures),
    )
