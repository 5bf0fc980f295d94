-- `table_search::find_tsn` meets its contract: the words passed are the TSNs of the rows.
use Rattle.std.proofs.Common.{rules, ◌+◌, ◌-◌, take, drop, nat_eq}
use Rattle.std.proofs.lemmas.Iterator.{YieldsList-from_slice}
use Rattle.std.proofs.lemmas.Iterator.Search.{position_from_yields_List}
use borrow.Author.Tests.{tests}
use Rattle.table.proofs.Words.{those_long, tsns_at, ahead-found}
use Rattle.table_search.proofs.find_tsn.Goals as goal

pub returns : goal.returns
returns c =
    let a = c.args in
    let q = a.size + a.from in
    let e = tsns_at a.size a.table.now c.requires.table_len a.from a.n c.requires.n_bound in
    let f = position_from_yields_List (λ word. nat_eq word a.tsn) _ _ _ c.position.ensures.ran (YieldsList-from_slice (take (q + a.n - q) (drop q a.table.now)) cc) (λ x b q k. search (rules, tests)) in
    rw (c.unwrap_or.ensures, f, e) (ahead-found (λ word. nat_eq word a.tsn) (λ r. r.tsn) _ a.n (those_long a.size a.table.now c.requires.table_len a.from a.n c.requires.n_bound))
