-- `chunk_forward_tsn::streams` meets its contract: the header decides what is refused, and else the part is what its length says.
use mathlib.Core.Path.{ap}
use lib.ListN.{length}
use Rattle.std.proofs.lemmas.Result.{err_from_is_err_and}
use Rattle.chunk.specs.Layout.{Header}
use Rattle.chunk.proofs.Headers.{told-refused, told-taken}
use Rattle.chunk_forward_tsn.specs.ForwardTsn.{forward_checks, pairs_part}
use Rattle.chunk_forward_tsn.proofs.streams.Goals as goal

pub returns-in_err-h : goal.returns-in_err-h
unfolding pairs_part
returns-in_err-h c f =
    let e = err_from_is_err_and c.from_residual.result c.from_residual.ensures.1 in
    rw (e.1, e.2, told-refused (forward_checks (length c.args.raw.now) f.fields) f.fields (c.in_err-h.ensures.result_value f))

pub returns : goal.returns
unfolding pairs_part
returns c f =
    let t = told-taken (forward_checks (length c.args.raw.now) f.fields) f.fields (c.in_ok-h.ensures.result_value f) in
    rw (t.0, ← (ap (λ (x : Header). x.size) t.1))
