-- `inflight_counts::is_empty` meets its contract: an unsound queue is refused, and else the held records say.
use mathlib.Core.Path.{sym, ◌∙◌}
use Rattle.inflight_model.specs.Queue.{is_empty}
use Rattle.inflight_counts.proofs.is_empty.Goals as goal

pub returns-then-unsound : goal.returns-then-unsound
unfolding is_empty
returns-then-unsound c ms = rw (sym (c.unsound.ensures ms) ∙ c.if-unsound.true)

pub returns : goal.returns
unfolding is_empty
returns c ms = rw (sym (c.unsound.ensures ms) ∙ c.if-unsound.false)
