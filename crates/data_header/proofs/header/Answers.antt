-- `data_header::header` meets its contract: the check for data stands behind those of the type.
use mathlib.Core.Path.{◌∙◌}
use borrow.Author.Rules.{rules}
use borrow.Author.Tests.{eq-eqb, ne_eqb}
use lib.ListN.{length}
use Rattle.std.proofs.lemmas.Result.{err_from_is_err_and}
use Rattle.refusal.specs.declared.Refusal.TheVariants.{ShortData}
use Rattle.chunk.specs.Header.{kind_checks}
use Rattle.chunk.proofs.Headers.{told_short, more-refused, more_failed, more-passed}
use Rattle.data_header.specs.Checks.{data_only}
use Rattle.data_header.proofs.header.Goals as goal

pub returns-in_err-h-clause-result_value : goal.returns-in_err-h-clause-result_value
returns-in_err-h-clause-result_value c f =
    let lent = length c.args.raw.now in
    let told = told_short ShortData (λ e d p. search rules) c.unmarshal_as.result c.map_err.result c.map_err.ensures.cases ∙ c.unmarshal_as.ensures.result_value 4 f in
    let e = err_from_is_err_and c.from_residual.result c.from_residual.ensures.1 in
    rw (e.1, e.2) (more-refused (kind_checks 0 16 4 lent f.fields) data_only f.fields (rw c.in_err-h.was at told))

pub returns-then-h-eq16-clause-result_value : goal.returns-then-h-eq16-clause-result_value
returns-then-h-eq16-clause-result_value c f =
    let lent = length c.args.raw.now in
    let told = told_short ShortData (λ e d p. search rules) c.unmarshal_as.result c.map_err.result c.map_err.ensures.cases ∙ c.unmarshal_as.ensures.result_value 4 f in
    more_failed (kind_checks 0 16 4 lent f.fields) data_only f.fields (rw c.in_ok-h.was at told) (rw (eq-eqb _ 16 c.if-h-eq16.true))

pub returns-clause-result_value : goal.returns-clause-result_value
returns-clause-result_value c f =
    let lent = length c.args.raw.now in
    let told = told_short ShortData (λ e d p. search rules) c.unmarshal_as.result c.map_err.result c.map_err.ensures.cases ∙ c.unmarshal_as.ensures.result_value 4 f in
    more-passed (kind_checks 0 16 4 lent f.fields) data_only f.fields (rw c.in_ok-h.was at told) (rw (ne_eqb _ 16 c.if-h-eq16.false))
