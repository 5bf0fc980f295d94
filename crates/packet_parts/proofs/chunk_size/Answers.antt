-- `packet_parts::chunk_size` meets its contract: the header in front is the one that stands there, and decides.
use mathlib.Core.Path.{ap, ◌∙◌}
use Rattle.std.proofs.lemmas.Result.{err_from_is_err_and}
use Rattle.wire_model.specs.Refusal.{none, says}
use Rattle.chunk.specs.Layout.{Header}
use Rattle.chunk.proofs.Headers.{told-refused, told-taken}
use Rattle.packet_parts.specs.Fronts.{front_header, front_checks}
use Rattle.packet_parts.proofs.Fronts.{header-there, size-refused, size-taken, passed-front}
use Rattle.packet_parts.proofs.chunk_size.Goals as goal

pub returns-in_err-front-clause-result_value : goal.returns-in_err-front-clause-result_value
returns-in_err-front-clause-result_value c =
    let raw = c.args.raw.now in
    let f = header-there raw (λ i. (c.type_inv.raw i).fits) in
    let e = err_from_is_err_and c.from_residual.result c.from_residual.ensures.1 in
    rw (e.1, e.2) (size-refused raw (told-refused (front_checks raw) (front_header raw) (c.in_err-front.ensures f)))

pub returns : goal.returns
returns c =
    let raw = c.args.raw.now in
    let f = header-there raw (λ i. (c.type_inv.raw i).fits) in
    let t = told-taken (front_checks raw) (front_header raw) (c.in_ok-front.ensures f) in
    let same = ap (λ (h : Header). h.size) t.1 in
    record {
      result_value = ap (says none) same ∙ size-taken raw t.0;
      size_room = rw same (passed-front raw t.0);
    }
