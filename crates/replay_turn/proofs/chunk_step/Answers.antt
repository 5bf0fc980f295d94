-- `replay_turn::chunk_step` meets its contract: the record's answer goes into the line and into the counts.
use mathlib.Core.Path.{refl}
use Rattle.refusal.specs.Told.{flag_told}
use Rattle.payload_queue.specs.Queue.{queue_of}
use Rattle.replay_state.specs.State.{state_of}
use Rattle.replay_turn.proofs.Steps.{chunk-left}
use Rattle.replay_turn.proofs.chunk_step.Goals as goal

pub returns : goal.returns
returns c =
    let a = c.args in
    let push = c.push_record-answer in
    chunk-left a.taken (state_of a.replay.now a.table.now) a.raw.now a.line.now (flag_told push.result) (queue_of push.new.queue push.new.table)
    push.ensures c.put_record-written.ensures c.kind_of.ensures c.count.ensures refl
