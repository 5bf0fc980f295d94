-- `sack_entries::duplicate_tsn_at` meets its contract: what is read from entry i on is the TSN whose bytes stand there.
use mathlib.Core.Path.{refl}
use Prim.Native.Nat.{◌*◌, ◌≤◌}
use borrow.Author.Rules.{rules}
use borrow.Author.Tests.{le-leb, lt-leb}
use native.Mathlib.Omega.{arith}
use lib.ListN.{length, drop, length-drop}
use Rattle.wire_model.specs.BigEndian.{big_endian}
use Rattle.wire.proofs.Reading.{Whole, field}
use Rattle.sack_entries.proofs.duplicate_tsn_at.Goals as goal

pub returns-then-part-i : goal.returns-then-part-i
returns-then-part-i c f = rw (le-leb _ _ c.if-part-i.true)

pub returns : goal.returns
unfolding big_endian
returns c f =
    let a = c.args in
    let long : 4 ≤ length (drop (4 * a.i) a.part.now) = rw length-drop (omega arith) in
    let w : Whole (drop (4 * a.i) a.part.now) (big_endian 4 f.fields) 4 = record { long = long; sized = refl; begins = f.begins } in
    rw (lt-leb _ _ c.if-part-i.false, field w 0 4 (omega arith) f.fits (search rules) refl c.get_u32.ensures)
