-- `moves::turn` meets its contract: three reversals, or the part that holds both runs is rotated.
use Rattle.moves_model.proofs.Flip.{three}
use Rattle.moves_model.proofs.Shifted.{rotated}
use Rattle.moves.proofs.turn.Goals as goal

pub returns-then-c-a-lt-FEW : goal.returns-then-c-a-lt-FEW
returns-then-c-a-lt-FEW g c =
    let a = c.args in
    let p = c.requires in
    rw (c.reverse-then-c-a-lt-FEW-2.ensures, c.reverse-then-c-a-lt-FEW.ensures, c.reverse.ensures) (three a.pool.now a.a a.b a.c p.a_le_b p.b_le_c p.c_in_bounds)

pub returns-else-c-a-lt-FEW : goal.returns-else-c-a-lt-FEW
returns-else-c-a-lt-FEW g c =
    let a = c.args in
    rw c.rotate_left.ensures.after (rotated a.pool.now a.a a.b a.c c.requires.a_le_b c.requires.b_le_c)
