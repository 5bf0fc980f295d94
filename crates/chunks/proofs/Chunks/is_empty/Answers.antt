-- `chunks::Chunks::is_empty` meets its contract: what is told of its size decides.
use Rattle.std.proofs.lemmas.Result.{err_from_is_err_and}
use Rattle.chunks.proofs.Sound.{empty_refused, empty_counted}
use Rattle.chunks.proofs.Chunks.is_empty.Goals as goal

pub returns-in_err-n : goal.returns-in_err-n
returns-in_err-n c =
    let e = err_from_is_err_and c.from_residual.result c.from_residual.ensures.1 in
    rw (e.1, e.2) (empty_refused c.args.self c.args.buffer.now c.in_err-n.ensures)

pub returns : goal.returns
returns c = empty_counted c.args.self c.args.buffer.now c.in_ok-n.ensures
