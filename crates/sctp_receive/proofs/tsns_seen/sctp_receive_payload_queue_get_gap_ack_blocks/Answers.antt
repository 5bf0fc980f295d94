-- `sctp_receive_payload_queue_get_gap_ack_blocks` answers and leaves what the call below it does.
use Rattle.payload_model.specs.Queue.{unsound}
use Rattle.payload_model.specs.GapCall.{gap_report}
use Rattle.sctp_receive.proofs.tsns_seen.sctp_receive_payload_queue_get_gap_ack_blocks.Goals as goal

pub returns : goal.returns
unfolding gap_report unsound
returns c = rw c.counted.ensures (rw c.of_counts-queue.ensures at c.get_gap_ack_blocks-answer.ensures)
