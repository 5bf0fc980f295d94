-- `cause_report::unmarshal_as` meets its contract: the header in front decides, and what it lets through is listed.
use mathlib.Core.Path.{ap, ◌∙◌}
use borrow.Author.Rules.{rules}
use native.Mathlib.Omega.{arith}
use lib.ListN.{length}
use lib.Seq.{length-take-le}
use Rattle.std.proofs.lemmas.Result.{err_from_is_err_and}
use Rattle.refusal.specs.declared.Refusal.TheVariants.{BadLength}
use Rattle.chunk.specs.Layout.{Header}
use Rattle.chunk.specs.Header.{kind_checks}
use Rattle.chunk.proofs.Headers.{told_short, told-refused, told-taken, passes}
use Rattle.packet_parts.specs.Fronts.{front_header}
use Rattle.packet_parts.proofs.Fronts.{header-there}
use Rattle.cause_parts.specs.Lists.{lists}
use Rattle.cause_report.proofs.Reports.{header_refused, header-passed}
use Rattle.cause_report.proofs.unmarshal_as.Goals as goal

pub list-requires : goal.list-requires
list-requires c =
    let a = c.args in
    let raw = a.raw.now in
    let f = header-there raw (λ i. (c.type_inv.raw i).fits) in
    let told = told_short BadLength (λ e d p. search rules) c.unmarshal_as.result c.map_err.result c.map_err.ensures.cases ∙ c.unmarshal_as.ensures.result_value 2 f in
    let t = told-taken (kind_checks a.kind 4 2 (length raw) (front_header raw)) (front_header raw) (rw c.in_ok-h.was at told) in
    let p = passes a.kind 4 2 (length raw) (front_header raw) t.0 in
    let same = ap (λ (h : Header). h.size) t.1 in
    let len = length-take-le c.in_ok-h.h.length raw (rw same p.within) in
    record { in_bounds = rw (len, same) p.four; raw_len_bound = rw len (omega arith) }

pub returns-in_err-h : goal.returns-in_err-h
returns-in_err-h c =
    let a = c.args in
    let raw = a.raw.now in
    let f = header-there raw (λ i. (c.type_inv.raw i).fits) in
    let told = told_short BadLength (λ e d p. search rules) c.unmarshal_as.result c.map_err.result c.map_err.ensures.cases ∙ c.unmarshal_as.ensures.result_value 2 f in
    let e = err_from_is_err_and c.from_residual.result c.from_residual.ensures.1 in
    rw (e.1, e.2)
    (header_refused a.kind raw (lists a.codes.now a.depths.now a.starts.now a.sizes.now) (told-refused (kind_checks a.kind 4 2 (length raw) (front_header raw)) (front_header raw) (rw c.in_err-h.was at told)))

pub returns : goal.returns
returns c =
    let a = c.args in
    let raw = a.raw.now in
    let f = header-there raw (λ i. (c.type_inv.raw i).fits) in
    let told = told_short BadLength (λ e d p. search rules) c.unmarshal_as.result c.map_err.result c.map_err.ensures.cases ∙ c.unmarshal_as.ensures.result_value 2 f in
    let t = told-taken (kind_checks a.kind 4 2 (length raw) (front_header raw)) (front_header raw) (rw c.in_ok-h.was at told) in
    c.list.ensures ∙ header-passed a.kind raw (lists a.codes.now a.depths.now a.starts.now a.sizes.now) t.0 (ap (λ (h : Header). h.size) t.1)
