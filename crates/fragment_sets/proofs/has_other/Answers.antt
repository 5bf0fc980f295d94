-- `fragment_sets::has_other` meets its contract: the words passed are the ids of the rows.
use Rattle.std.proofs.Common.{◌∙◌, not, ◌%◌, nat_eq}
use Rattle.std.proofs.lemmas.List.{take_all}
use Rattle.table.proofs.Words.{some-words}
use Rattle.fragment_sets.proofs.has_other.Goals as goal

pub returns : goal.returns
returns c =
    let a = c.args in
    rw (take_all c.loop-id.id-index _ c.loop-id-test.false, c.ids-id-items.ensures) at c.loop-id.invariant.1 ∙ some-words (λ word. not (nat_eq (word % 65536) a.ssn)) (λ r. r.id) _
