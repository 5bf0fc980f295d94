-- `inflight_counts::len` meets its contract: an unsound queue is refused, and else the held records say.
use mathlib.Core.Path.{sym, ◌∙◌}
use Rattle.inflight_model.specs.Queue.{counted}
use Rattle.inflight_counts.proofs.len.Goals as goal

pub returns-then-unsound : goal.returns-then-unsound
unfolding counted
returns-then-unsound c ms = rw (sym (c.unsound.ensures ms) ∙ c.if-unsound.true)

pub returns : goal.returns
unfolding counted
returns c ms = rw (sym (c.unsound.ensures ms) ∙ c.if-unsound.false)
