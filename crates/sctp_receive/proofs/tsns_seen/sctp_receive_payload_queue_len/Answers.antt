-- `sctp_receive_payload_queue_len` answers what the call below it does.
use mathlib.Core.Path.{◌∙◌}
use Rattle.payload_model.specs.Queue.{counted, unsound}
use Rattle.sctp_receive.proofs.tsns_seen.sctp_receive_payload_queue_len.Goals as goal

pub returns : goal.returns
unfolding counted unsound
returns c = c.counted.ensures ∙ (rw c.of_counts-queue.ensures at c.len-answer.ensures)
