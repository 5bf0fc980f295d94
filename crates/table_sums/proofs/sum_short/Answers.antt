-- `table_sums::sum_short` meets its contract: the words passed are the heads of the rows.
use Rattle.std.proofs.Common.{◌∙◌}
use Rattle.std.proofs.lemmas.List.{take_all}
use Rattle.table.specs.Rows.{short_length}
use Rattle.table.proofs.Words.{heads_at, total-words}
use Rattle.table_sums.proofs.sum_short.Goals as goal

pub returns : goal.returns
returns c =
    let a = c.args in
    let e = heads_at a.size a.table.now c.requires.table_len a.from a.n c.requires.n_bound in
    rw (take_all c.loop-head.head-index _ c.loop-head-test.false, e) at c.loop-head.invariant.1 ∙ total-words short_length _
