-- `payload_can_push::can_push` meets its contract: an unsound queue is refused, and else the held records say.
use mathlib.Core.Path.{sym, ◌∙◌}
use native.Mathlib.Omega.{arith}
use Rattle.payload_model.proofs.Laws.{sound}
use Rattle.payload_model.specs.Queue.{can_push, turned_away}
use Rattle.payload_can_push.proofs.can_push.Goals as goal

pub returns-then-unsound : goal.returns-then-unsound
unfolding can_push
returns-then-unsound c = rw (sym c.unsound.ensures ∙ c.if-unsound.true)

pub has_tsn-requires : goal.has_tsn-requires
has_tsn-requires c = let s = sound _ (sym c.unsound.ensures ∙ c.if-unsound.false) in omega (arith, s.few)

pub returns-then-has_tsn : goal.returns-then-has_tsn
unfolding can_push turned_away
returns-then-has_tsn c = rw (sym c.unsound.ensures ∙ c.if-unsound.false, sym c.has_tsn.ensures ∙ c.if-has_tsn.true)

pub returns : goal.returns
unfolding can_push turned_away
returns c = rw (sym c.unsound.ensures ∙ c.if-unsound.false, sym c.has_tsn.ensures ∙ c.if-has_tsn.false, c.sna32lte.ensures)
