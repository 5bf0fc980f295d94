-- `sctp_receive_payload_queue_get` answers what the call below it does.
use mathlib.Core.Path.{◌∙◌}
use Rattle.payload_model.specs.Queue.{got, unsound}
use Rattle.sctp_receive.proofs.tsns_seen.sctp_receive_payload_queue_get.Goals as goal

pub returns : goal.returns
unfolding got unsound
returns c = c.taken-given.ensures ∙ (rw c.of_counts-queue.ensures at c.get-answer.ensures)
