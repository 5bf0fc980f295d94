-- `table_columns::tsns` meets its contract: the words cut out are that field of the rows.
use Rattle.table.proofs.Words.{tsns_at}
use Rattle.table_columns.proofs.tsns.Goals as goal

pub returns : goal.returns
returns c =
    let a = c.args in
    tsns_at a.size a.table.now c.requires.table_len a.from a.n c.requires.n_bound
