-- `table_search::has_tsn` meets its contract: the words passed are the TSNs of the rows.
use Rattle.std.proofs.Common.{◌∙◌, nat_eq}
use Rattle.std.proofs.lemmas.List.{take_all}
use Rattle.std.proofs.lemmas.List.Folds.{list_any_more}
use Rattle.table.proofs.Words.{tsns_at, some-words}
use Rattle.table_search.proofs.has_tsn.Goals as goal

pub loop-held-preserved : goal.loop-held-preserved
loop-held-preserved c = rw (list_any_more (λ word. nat_eq word c.args.tsn) _ c.loop-held.held-index 0 c.loop-held-test.true, ← c.loop-held.invariant)

pub returns : goal.returns
returns c =
    let a = c.args in
    let e = tsns_at a.size a.table.now c.requires.table_len a.from a.n c.requires.n_bound in
    rw (take_all c.loop-held.held-index _ c.loop-held-test.false, e) at c.loop-held.invariant ∙ some-words (λ word. nat_eq word a.tsn) (λ r. r.tsn) _
