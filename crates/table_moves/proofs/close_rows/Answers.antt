-- `table_moves::close_rows` meets its contract: the same edit of each column is one of the rows.
use native.Mathlib.Omega.{arith}
use Rattle.table.proofs.Columns.{rows-gone}
use Rattle.table_moves.proofs.close_rows.Goals as goal

pub returns : goal.returns
returns c =
    let a = c.args in
    rows-gone a.size a.table.now c.requires.table_len a.n a.at a.k (omega (arith, c.requires)) (omega (arith, c.requires))
    c.close.ensures c.close-2.ensures c.close-3.ensures c.close-4.ensures
