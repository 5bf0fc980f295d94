-- `payload_counts::get_num_bytes` meets its contract: an unsound queue is refused, and else the held records say.
use mathlib.Core.Path.{sym, ◌∙◌}
use Rattle.payload_model.proofs.Laws.{sound}
use Rattle.payload_model.specs.Queue.{num_bytes}
use Rattle.payload_counts.proofs.get_num_bytes.Goals as goal

pub returns-then-unsound : goal.returns-then-unsound
unfolding num_bytes
returns-then-unsound c = rw (sym c.unsound.ensures ∙ c.if-unsound.true)

pub returns : goal.returns
unfolding num_bytes
returns c =
    let e = sym c.unsound.ensures ∙ c.if-unsound.false in
    rw (e, (sound _ e).sum)
