-- `payload_held::contains_stream` meets its contract: an unsound queue is refused, and else the held records say.
use mathlib.Core.Path.{sym, ◌∙◌}
use native.Mathlib.Omega.{arith}
use Rattle.payload_model.proofs.Laws.{sound}
use Rattle.payload_model.specs.Queue.{contains_stream}
use Rattle.payload_held.proofs.contains_stream.Goals as goal

pub returns-then-unsound : goal.returns-then-unsound
unfolding contains_stream
returns-then-unsound c = rw (sym c.unsound.ensures ∙ c.if-unsound.true)

pub has_stream-requires : goal.has_stream-requires
has_stream-requires c = let s = sound _ (sym c.unsound.ensures ∙ c.if-unsound.false) in omega (arith, s.few)

pub returns : goal.returns
unfolding contains_stream
returns c = rw (sym c.unsound.ensures ∙ c.if-unsound.false, c.has_stream.ensures)
