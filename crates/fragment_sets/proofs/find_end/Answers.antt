-- `fragment_sets::find_end` meets its contract: the words passed are the heads of the rows.
use Rattle.std.proofs.Common.{rules, ◌/◌, ◌%◌, nat_eq}
use Rattle.std.proofs.lemmas.Iterator.{YieldsList-from_slice}
use Rattle.std.proofs.lemmas.Iterator.Search.{position_from_yields_List}
use borrow.Author.Tests.{tests}
use Rattle.table.proofs.Words.{those_long, ahead-found}
use Rattle.fragment_sets.proofs.find_end.Goals as goal

pub returns : goal.returns
returns c =
    let a = c.args in
    let f = position_from_yields_List (λ word. nat_eq (word / 16777216 % 2) 1) _ _ _ c.position.ensures.ran (YieldsList-from_slice c.heads-heads.result.now cc) (λ x b q k. search (rules, tests)) in
    rw (c.unwrap_or.ensures, f, c.heads-heads.ensures) (ahead-found (λ word. nat_eq (word / 16777216 % 2) 1) (λ r. r.head) _ a.n (those_long a.size a.table.now c.requires.table_len a.from a.n c.requires.n_bound))
