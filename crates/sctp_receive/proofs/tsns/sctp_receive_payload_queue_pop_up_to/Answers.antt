-- `sctp_receive_payload_queue_pop_up_to` answers and leaves what the call below it does.
use Rattle.payload_model.specs.Log.{popped_up_to_log}
use Rattle.sctp_receive_counts.proofs.Left.{log_kept}
use Rattle.sctp_receive.proofs.tsns.sctp_receive_payload_queue_pop_up_to.Goals as goal

pub returns-in-Ok : goal.returns-in-Ok
returns-in-Ok c = log_kept c.args.dup_tsn.now _ (rw c.in-Ok.is) c.put_counts.ensures (rw c.of_counts-queue.ensures at c.pop_up_to-answer.ensures) (popped_up_to_log _ _ _)

pub returns-in-Err : goal.returns-in-Err
returns-in-Err c = log_kept c.args.dup_tsn.now _ (rw (c.in-Err.is, c.refused.ensures)) c.put_counts.ensures (rw c.of_counts-queue.ensures at c.pop_up_to-answer.ensures) (popped_up_to_log _ _ _)
