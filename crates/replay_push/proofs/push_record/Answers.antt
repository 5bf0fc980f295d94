-- `replay_push::push_record` meets its contract: reading decides what is refused, and else the chunk goes to the queue's own push.
use mathlib.Core.Path.{◌∙◌}
use Rattle.std.proofs.lemmas.Result.{err_from_is_err_and}
use Rattle.payload_queue.specs.Queue.{queue_of}
use Rattle.replay_push.specs.Decoded.{decoded}
use Rattle.replay_push.proofs.Answers.{decodes_none, refused-recorded, pushed-recorded}
use Rattle.replay_push.proofs.Fronts.{data_there}
use Rattle.replay_push.proofs.push_record.Goals as goal

pub returns-in_err-chunk : goal.returns-in_err-chunk
unfolding decoded
returns-in_err-chunk c =
    let a = c.args in
    let raw = a.raw.now in
    let e = err_from_is_err_and c.from_residual.result c.from_residual.ensures.1 in
    rw (e.1, e.2) (refused-recorded raw (queue_of a.queue.now a.table.now) (c.in_err-chunk.ensures (data_there raw (λ i. (c.type_inv.raw i).fits))))

pub returns : goal.returns
unfolding decoded
returns c =
    let a = c.args in
    let raw = a.raw.now in
    let told = c.in_ok-chunk.ensures (data_there raw (λ i. (c.type_inv.raw i).fits)) in
    rw (c.data_size.ensures (decodes_none raw told)) at c.push.ensures ∙ pushed-recorded raw (queue_of a.queue.now a.table.now) _ told
