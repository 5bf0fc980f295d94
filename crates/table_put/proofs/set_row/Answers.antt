-- `table_put::set_row` meets its contract: a store in each column is one of the row.
use mathlib.Core.Path.{refl}
use native.Mathlib.Omega.{arith}
use lib.ListN.{length-set}
use Rattle.table.proofs.Columns.{rows-set}
use Rattle.table_put.proofs.set_row.Goals as goal

pub bounds-table-size : goal.bounds-table-size
bounds-table-size c = simp length-set (omega arith)

pub bounds-table-ids : goal.bounds-table-ids
bounds-table-ids c = simp length-set (omega arith)

pub bounds-table-ppis : goal.bounds-table-ppis
bounds-table-ppis c = simp length-set (omega arith)

pub returns : goal.returns
returns c = let a = c.args in rows-set a.size a.table.now c.requires.table_len a.at a.new c.requires.at_lt_size refl refl refl refl
