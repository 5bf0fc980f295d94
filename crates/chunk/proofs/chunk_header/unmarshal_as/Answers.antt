-- `chunk::chunk_header::unmarshal_as` meets its contract: the checks of the type stand behind those of every header.
use borrow.Author.Tests.{eq-eqb, ne_eqb, lt-ltb, le-ltb}
use lib.ListN.{length}
use Rattle.std.proofs.lemmas.Result.{err_from_is_err_and}
use Rattle.chunk.specs.Header.{header_checks, kind_only}
use Rattle.chunk.proofs.Headers.{more-refused, more_failed, more-passed}
use Rattle.chunk.proofs.chunk_header.unmarshal_as.Goals as goal

pub returns-in_err-h-clause-result_value : goal.returns-in_err-h-clause-result_value
returns-in_err-h-clause-result_value c =
    let a = c.args in
    let e = err_from_is_err_and c.from_residual.result c.from_residual.ensures.1 in
    λ short f. rw (e.1, e.2) (more-refused (header_checks (length a.raw.now) f.fields) (kind_only a.kind a.least short) f.fields (c.in_err-h.ensures.result_value f))

pub returns-then-h-kind-clause-result_value : goal.returns-then-h-kind-clause-result_value
returns-then-h-kind-clause-result_value c =
    let a = c.args in
    λ short f. more_failed (header_checks (length a.raw.now) f.fields) (kind_only a.kind a.least short) f.fields (c.in_ok-h.ensures.result_value f) (rw (ne_eqb _ a.kind c.if-h-kind.true))

pub returns-then-h-least-clause-result_value : goal.returns-then-h-least-clause-result_value
returns-then-h-least-clause-result_value c =
    let a = c.args in
    λ short f.
    more_failed (header_checks (length a.raw.now) f.fields) (kind_only a.kind a.least short) f.fields (c.in_ok-h.ensures.result_value f)
    (rw (eq-eqb _ a.kind c.if-h-kind.false, lt-ltb _ a.least c.if-h-least.true))

pub returns-clause-result_value : goal.returns-clause-result_value
returns-clause-result_value c =
    let a = c.args in
    λ short f.
    more-passed (header_checks (length a.raw.now) f.fields) (kind_only a.kind a.least short) f.fields (c.in_ok-h.ensures.result_value f)
    (rw (eq-eqb _ a.kind c.if-h-kind.false, le-ltb _ a.least c.if-h-least.false))
