-- `fragments::sum_long` meets its contract: the sum over the heads is that over the rows, and it is small.
use mathlib.Core.Path.{ap, ◌∙◌}
use native.Mathlib.Omega.{arith}
use borrow.Author.Rules.{rules}
use lib.ListN.{take, drop}
use Rattle.std.specs.List.{sum_by}
use Rattle.std.proofs.lemmas.Iterator.{YieldsList-from_slice, YieldsList-from_map}
use Rattle.std.proofs.lemmas.Iterator.Consumers.{sum_by_from_yields_List, fits_by_from_yields_list}
use Rattle.table.specs.Rows.{rows_of}
use Rattle.table.proofs.Words.{those_long, total-words}
use Rattle.fragments.specs.Frag.{long_length}
use Rattle.fragments.proofs.Pool.{total_small}
use Rattle.fragments.proofs.sum_long.Goals as goal

pub sum-requires-clause-fits : goal.sum-requires-clause-fits
sum-requires-clause-fits c =
    let a = c.args in
    let rs = take a.n (drop a.from (rows_of a.size a.table.now)) in
    let is = ap (sum_by long_length) c.heads-heads.ensures ∙ total-words long_length rs in
    fits_by_from_yields_list long_length c.heads-heads.result.now c.map.result _
    (YieldsList-from_map _ long_length (YieldsList-from_slice c.heads-heads.result.now cc) c.map.ensures.closure (λ x r q k. search rules))
    (omega (arith, c.requires.size_bound, is, total_small rs, those_long a.size a.table.now c.requires.table_len a.from a.n c.requires.n_bound))

pub returns : goal.returns
returns c =
    let a = c.args in
    let rs = take a.n (drop a.from (rows_of a.size a.table.now)) in
    sum_by_from_yields_List long_length c.heads-heads.result.now c.map.result c.sum.result c.sum.ensures.ran
    (YieldsList-from_map _ long_length (YieldsList-from_slice c.heads-heads.result.now cc) c.map.ensures.closure (λ x r q k. search rules))
    ∙ ap (sum_by long_length) c.heads-heads.ensures ∙ total-words long_length rs
