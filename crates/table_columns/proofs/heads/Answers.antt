-- `table_columns::heads` meets its contract: the words cut out are that field of the rows.
use Rattle.table.proofs.Words.{heads_at}
use Rattle.table_columns.proofs.heads.Goals as goal

pub returns : goal.returns
returns c =
    let a = c.args in
    heads_at a.size a.table.now c.requires.table_len a.from a.n c.requires.n_bound
