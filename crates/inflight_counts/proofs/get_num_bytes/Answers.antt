-- `inflight_counts::get_num_bytes` meets its contract: an unsound queue is refused, and else the held records say.
use mathlib.Core.Path.{sym, ◌∙◌}
use Rattle.inflight_model.specs.Queue.{num_bytes}
use Rattle.inflight_model.proofs.Laws as laws
use Rattle.inflight_counts.proofs.get_num_bytes.Goals as goal

pub returns-then-unsound : goal.returns-then-unsound
unfolding num_bytes
returns-then-unsound c ms = rw (sym (c.unsound.ensures ms) ∙ c.if-unsound.true)

pub returns : goal.returns
unfolding num_bytes
returns c ms =
    let e = sym (c.unsound.ensures ms) ∙ c.if-unsound.false in
    rw (e, (laws.sound _ e).sum)
