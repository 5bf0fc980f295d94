-- `table_moves::turn_rows` meets its contract: the same edit of each column is one of the rows.
use native.Mathlib.Omega.{arith}
use Rattle.table.proofs.Columns.{rows-turned}
use Rattle.table_moves.proofs.turn_rows.Goals as goal

pub returns : goal.returns
returns c =
    let a = c.args in
    rows-turned a.size a.table.now (omega (arith, c.requires)) a.a a.b a.e (omega (arith, c.requires)) (omega (arith, c.requires)) (omega (arith, c.requires)) c.turn.ensures c.turn-2.ensures c.turn-3.ensures c.turn-4.ensures
