-- `set_reach::all_up_to` meets its contract: all rows are up to the TSN where all their TSNs are.
use mathlib.Core.Path.{ap, ◌∙◌}
use Prim.Native.Nat.{ℕ}
use borrow.Author.Rules.{rules}
use borrow.Author.Tests.{tests}
use lib.ListN.{take, drop}
use Rattle.std.specs.List.{list_all}
use Rattle.std.proofs.lemmas.Iterator.{YieldsList-from_slice}
use Rattle.std.proofs.lemmas.Iterator.Search.{all_from_yields_List}
use Rattle.serial_model.specs.Serial.{at_or_before}
use Rattle.table.specs.Rows.{rows_of}
use Rattle.set_reach.proofs.Reach.{up_is}
use Rattle.set_reach.proofs.all_up_to.Goals as goal

pub returns : goal.returns
returns c =
    let a = c.args in
    let rs = take a.n (drop a.from (rows_of a.size a.table.now)) in
    let test = λ (w : ℕ). at_or_before 32 w a.tsn in
    all_from_yields_List test _ _ c.all.result c.all.ensures.ran (YieldsList-from_slice c.tsns-tsns.result.now cc) (λ x b q k. search (rules, tests))
    ∙ ap (list_all test) c.tsns-tsns.ensures ∙ up_is a.tsn rs
