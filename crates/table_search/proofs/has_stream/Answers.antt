-- `table_search::has_stream` meets its contract: the words passed are the ids of the rows.
use Rattle.std.proofs.Common.{◌∙◌, ◌/◌, nat_eq}
use Rattle.std.proofs.lemmas.List.{take_all}
use Rattle.std.proofs.lemmas.List.Folds.{list_any_more}
use Rattle.table.proofs.Words.{ids_at, some-words}
use Rattle.table_search.proofs.has_stream.Goals as goal

pub loop-id-preserved : goal.loop-id-preserved
loop-id-preserved c = rw (list_any_more (λ word. nat_eq (word / 65536) c.args.stream) _ c.loop-id.id-index 0 c.loop-id-test.true, ← c.loop-id.invariant)

pub returns : goal.returns
returns c =
    let a = c.args in
    let e = ids_at a.size a.table.now c.requires.table_len a.from a.n c.requires.n_bound in
    rw (take_all c.loop-id.id-index _ c.loop-id-test.false, e) at c.loop-id.invariant ∙ some-words (λ word. nat_eq (word / 65536) a.stream) (λ r. r.id) _
