-- `payload_counts::is_empty` meets its contract: an unsound queue is refused, and else the held records say.
use mathlib.Core.Path.{sym, ◌∙◌}
use Rattle.payload_model.specs.Queue.{is_empty}
use Rattle.payload_counts.proofs.is_empty.Goals as goal

pub returns-then-unsound : goal.returns-then-unsound
unfolding is_empty
returns-then-unsound c = rw (sym c.unsound.ensures ∙ c.if-unsound.true)

pub returns : goal.returns
unfolding is_empty
returns c = rw (sym c.unsound.ensures ∙ c.if-unsound.false)
