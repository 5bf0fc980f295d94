-- `loose_fragments::find_after` meets its contract: the words passed are the TSNs of the rows.
use Rattle.std.proofs.Common.{rules}
use Rattle.std.proofs.lemmas.Iterator.{YieldsList-from_slice}
use Rattle.std.proofs.lemmas.Iterator.Search.{position_from_yields_List}
use borrow.Author.Tests.{tests}
use Rattle.serial_model.specs.Serial.{before}
use Rattle.table.proofs.Words.{those_long, ahead-found}
use Rattle.loose_fragments.proofs.find_after.Goals as goal

pub returns : goal.returns
returns c =
    let a = c.args in
    let f = position_from_yields_List (λ word. before 32 a.tsn word) _ _ _ c.position.ensures.ran (YieldsList-from_slice c.tsns-tsns.result.now cc) (λ x b q k. search (rules, tests)) in
    rw (c.unwrap_or.ensures, f, c.tsns-tsns.ensures) (ahead-found (λ word. before 32 a.tsn word) (λ r. r.tsn) _ a.n (those_long a.size a.table.now c.requires.table_len a.from a.n c.requires.n_bound))
