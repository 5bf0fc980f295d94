-- `sctp_receive_payload_queue_get_num_bytes` answers what the call below it does.
use mathlib.Core.Path.{◌∙◌}
use Rattle.payload_model.specs.Queue.{num_bytes, unsound}
use Rattle.sctp_receive.proofs.tsns_seen.sctp_receive_payload_queue_get_num_bytes.Goals as goal

pub returns : goal.returns
unfolding num_bytes unsound
returns c = c.counted.ensures ∙ (rw c.of_counts-queue.ensures at c.get_num_bytes-answer.ensures)
