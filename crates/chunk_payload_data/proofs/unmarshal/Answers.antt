-- `chunk_payload_data::unmarshal` meets its contract: the header decides what is refused, and else the fields are those in front.
use mathlib.Core.Path.{ap}
use lib.ListN.{length}
use Rattle.std.proofs.lemmas.Result.{err_from_is_err_and}
use Rattle.chunk.specs.Layout.{Header}
use Rattle.data_marshal.specs.Layout.{DataFits, data_value}
use Rattle.chunk_payload_data.specs.Data.{data_checks, data_read}
use Rattle.chunk.proofs.Headers.{header-front, told-refused, told-taken}
use Rattle.chunk_payload_data.proofs.unmarshal.Goals as goal

pub returns-in_err-h : goal.returns-in_err-h
unfolding data_read
returns-in_err-h c f =
    let h = f.fields.header in
    let e = err_from_is_err_and c.from_residual.result c.from_residual.ensures.1 in
    rw (e.1, e.2, told-refused (data_checks (length c.args.raw.now) h) h (c.in_err-h.ensures.result_value (header-front data_value DataFits 12 f)))

pub returns : goal.returns
unfolding data_read
returns c f =
    let h = f.fields.header in
    let t = told-taken (data_checks (length c.args.raw.now) h) h (c.in_ok-h.ensures.result_value (header-front data_value DataFits 12 f)) in
    rw (t.0, c.fields.ensures f, ap (λ (x : Header). x.flags) t.1)
