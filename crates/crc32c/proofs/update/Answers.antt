-- `crc32c::update` meets its contract: few bytes one after the other; more of them as four parts, made one, and what is left.
use native.Mathlib.Omega.{arith}
use Rattle.crc32c_lanes.proofs.Parts.{quarters}
use Rattle.crc32c.proofs.update.Goals as goal

pub returns : goal.returns
returns c =
    let ends = c.four-ends.ensures in
    let one = c.after_zeros.ensures in
    let two = c.after_zeros-2.ensures in
    let three = c.after_zeros-3.ensures in
    quarters _ _ _ ends one two three c.one-2.ensures (omega arith)

pub one-requires : goal.one-requires
one-requires c = c.entries-words.ensures

pub returns-then-bytes-lt64 : goal.returns-then-bytes-lt64
returns-then-bytes-lt64 c = c.one.ensures

pub four-ends-requires : goal.four-ends-requires
four-ends-requires c = (c.entries-words.ensures, omega arith)

pub one-requires-2 : goal.one-requires-2
one-requires-2 c = c.entries-words.ensures
