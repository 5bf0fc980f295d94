-- `loose_marks::has_marks` meets its contract: the words passed are the heads of the rows.
use Rattle.std.proofs.Common.{◌∙◌, ◌/◌, ◌%◌, take, drop, nat_eq}
use Rattle.std.proofs.lemmas.List.{take_all}
use Rattle.table.specs.Rows.{rows_of}
use Rattle.table.proofs.Words.{some-words}
use Rattle.loose_marks.proofs.has_marks.Goals as goal

pub returns : goal.returns
returns c =
    let a = c.args in
    let rs = take a.n (drop a.from (rows_of a.size a.table.now)) in
    let i = c.loop-head.head-index in
    let begun = rw (take_all i _ c.loop-head-test.false, c.heads-head-items.ensures) at c.loop-head.invariant.0 ∙ some-words (λ word. nat_eq (word / 16777216 / 2 % 2) 1) (λ r. r.head) rs in
    let ended = rw (take_all i _ c.loop-head-test.false, c.heads-head-items.ensures) at c.loop-head.invariant.1 ∙ some-words (λ word. nat_eq (word / 16777216 % 2) 1) (λ r. r.head) rs in
    rw (begun, ended)
