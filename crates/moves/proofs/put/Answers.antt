-- `moves::put` meets its contract: room is made, and what is new is copied there.
use Rattle.moves_model.proofs.Shifted.{put_in}
use Rattle.moves.proofs.put.Goals as goal

pub returns : goal.returns
returns g c =
    let a = c.args in
    rw (c.copy_from_slice.ensures.after, c.copy_within.ensures.after) (put_in a.pool.now a.new.now a.total a.at c.requires.at_le_total c.requires.new_in_bounds)
