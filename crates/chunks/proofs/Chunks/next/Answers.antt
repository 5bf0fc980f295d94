-- `chunks::Chunks::next` meets its contract: an unsound record is refused, a finished one gives nothing, and else the position moves on by the piece.
use mathlib.Core.Path.{sym, ◌∙◌}
use Rattle.chunks.specs.Message.{finished, moved, next_piece}
use Rattle.chunks.proofs.Sound.{sound}
use Rattle.chunks.proofs.Chunks.next.Goals as goal

pub returns-then-unsound : goal.returns-then-unsound
unfolding next_piece
returns-then-unsound c = rw (sym c.unsound.ensures ∙ c.if-unsound.true)

pub returns-then-finished : goal.returns-then-finished
unfolding finished next_piece
returns-then-finished c = rw (sym c.unsound.ensures ∙ c.if-unsound.false, sym c.finished.ensures ∙ c.if-finished.true)

pub piece-piece-requires : goal.piece-piece-requires
piece-piece-requires c = (sound _ _ (sym c.unsound.ensures ∙ c.if-unsound.false)).within

pub returns : goal.returns
unfolding finished moved next_piece
returns c = rw (sym c.unsound.ensures ∙ c.if-unsound.false, sym c.finished.ensures ∙ c.if-finished.false, c.piece-piece.ensures)
