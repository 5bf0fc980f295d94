-- `chunks::Chunks::len` meets its contract: an unsound record is refused, and else its size is given.
use mathlib.Core.Path.{sym, ◌∙◌}
use Rattle.chunks.specs.Message.{size}
use Rattle.chunks.proofs.Chunks.len.Goals as goal

pub returns-then-unsound : goal.returns-then-unsound
unfolding size
returns-then-unsound c = rw (sym c.unsound.ensures ∙ c.if-unsound.true)

pub returns : goal.returns
unfolding size
returns c = rw (sym c.unsound.ensures ∙ c.if-unsound.false)
