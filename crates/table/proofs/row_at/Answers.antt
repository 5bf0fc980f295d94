-- `table::row_at` meets its contract: each word is that field of the row.
use mathlib.Core.Path.{refl}
use Rattle.table.proofs.Scans.{head_at, tsn-at, id_at, ppi_at}
use Rattle.table.proofs.row_at.Goals as goal

pub returns : goal.returns
returns c =
    let s = c.before.before.before.before in
    let a = s.args in
    let n = a.size in
    let ws = a.table.now in
    let long = s.requires.table_len in
    let h = s.requires.i_lt_size in
    rw (head_at n ws long a.i h refl, tsn-at n ws long a.i h refl, id_at n ws long a.i h refl, ppi_at n ws long a.i h refl)
