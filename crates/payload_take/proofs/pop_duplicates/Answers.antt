-- `payload_take::pop_duplicates` meets its contract: an unsound queue is refused, and else the log is handed out and emptied.
use mathlib.Core.Path.{sym, ◌∙◌}
use Rattle.payload_model.specs.Queue.{popped_duplicates}
use Rattle.payload_model.proofs.Laws.{sound}
use Rattle.payload_take.proofs.pop_duplicates.Goals as goal

pub returns-then-unsound : goal.returns-then-unsound
unfolding popped_duplicates
returns-then-unsound c = rw (sym c.unsound.ensures ∙ c.if-unsound.true)

pub handed-tsns-requires : goal.handed-tsns-requires
handed-tsns-requires c = (sound _ (sym c.unsound.ensures ∙ c.if-unsound.false)).logs

pub returns : goal.returns
unfolding popped_duplicates
returns c = rw (sym c.unsound.ensures ∙ c.if-unsound.false, c.handed-tsns.ensures)
