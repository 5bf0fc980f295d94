-- `sctp_receive_payload_queue_get_last_tsn_received` answers what the call below it does.
use Rattle.payload_model.specs.Queue.{last_tsn, unsound}
use Rattle.sctp_receive.proofs.tsns_seen.sctp_receive_payload_queue_get_last_tsn_received.Goals as goal

pub returns-in-Ok-Some : goal.returns-in-Ok-Some
unfolding last_tsn unsound
returns-in-Ok-Some c = rw (← (rw c.of_counts-queue.ensures at c.get_last_tsn_received.ensures), c.in-Ok-Some.is, c.in-Ok-Some.field-0-is)

pub returns-in-Ok-None : goal.returns-in-Ok-None
unfolding last_tsn unsound
returns-in-Ok-None c = rw (← (rw c.of_counts-queue.ensures at c.get_last_tsn_received.ensures), c.in-Ok-None.is, c.in-Ok-None.field-0-is)

pub returns-in-Err : goal.returns-in-Err
unfolding last_tsn unsound
returns-in-Err c = rw (← (rw c.of_counts-queue.ensures at c.get_last_tsn_received.ensures), c.in-Err.is, c.refused.ensures)
