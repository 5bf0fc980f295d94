-- `sctp_receive_payload_queue_pop` answers and leaves what the call below it does.
use Rattle.payload_model.specs.Log.{popped_log}
use Rattle.sctp_receive_counts.proofs.Left.{log_kept}
use Rattle.sctp_receive.proofs.tsns.sctp_receive_payload_queue_pop.Goals as goal

pub returns : goal.returns
returns c = log_kept c.args.dup_tsn.now _ c.taken-given.ensures c.put_counts.ensures (rw c.of_counts-queue.ensures at c.pop-answer.ensures) (popped_log _ _ _)
