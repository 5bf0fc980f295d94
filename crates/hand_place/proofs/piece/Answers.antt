-- `hand_place::piece` meets its contract: the piece is the smaller of what may come and what is left.
use Rattle.hand_place.proofs.piece.Goals as goal

pub returns : goal.returns
returns c = rw c.least-n.ensures
