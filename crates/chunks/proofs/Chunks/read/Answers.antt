-- `chunks::Chunks::read` meets its contract: an unsound record is refused, and else what fits of the message is copied.
use mathlib.Core.Path.{sym, ◌∙◌}
use native.Mathlib.Omega.{arith}
use borrow.Author.Tests.{ltb-false}
use lib.ListN.{length, take}
use lib.Seq.{take_all, length-take-le}
use Rattle.chunks.specs.Message.{whole_read}
use Rattle.chunks.proofs.Sound.{sound}
use Rattle.chunks.proofs.Chunks.read.Goals as goal

pub returns-then-unsound : goal.returns-then-unsound
unfolding whole_read
returns-then-unsound c = rw (sym c.unsound.ensures ∙ c.if-unsound.true)

pub copy-requires : goal.copy-requires
copy-requires c = (sound _ _ (sym c.unsound.ensures ∙ c.if-unsound.false)).lent

pub returns-then-copy : goal.returns-then-copy
unfolding whole_read
returns-then-copy c = rw (sym c.unsound.ensures ∙ c.if-unsound.false, sym c.copy.ensures.0 ∙ c.if-copy.true, c.copy.ensures.1)

pub returns : goal.returns
unfolding whole_read
returns c =
    let a = c.args in
    let ok = sym c.unsound.ensures ∙ c.if-unsound.false in
    let room = sym c.copy.ensures.0 ∙ c.if-copy.false in
    let n = length-take-le a.self.size a.buffer.now (sound _ _ ok).lent in
    let all = take_all (length a.out.now) (take a.self.size a.buffer.now) (omega (arith, ltb-false (length a.out.now) a.self.size room)) in
    rw (ok, room, c.copy.ensures.1, all)
