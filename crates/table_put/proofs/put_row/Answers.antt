-- `table_put::put_row` meets its contract: the same edit of each column is one of the rows.
use native.Mathlib.Omega.{arith}
use Rattle.table.proofs.Columns.{rows-put}
use Rattle.table_put.proofs.put_row.Goals as goal

pub returns : goal.returns
returns c =
    let a = c.args in
    rows-put a.size a.table.now c.requires.table_len a.n a.at a.new (omega (arith, c.requires)) (omega (arith, c.requires))
    c.put_one.ensures c.put_one-2.ensures c.put_one-3.ensures c.put_one-4.ensures
