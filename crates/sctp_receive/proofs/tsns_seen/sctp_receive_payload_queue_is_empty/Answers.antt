-- `sctp_receive_payload_queue_is_empty` answers what the call below it does.
use mathlib.Core.Path.{◌∙◌}
use Rattle.payload_model.specs.Queue.{is_empty, unsound}
use Rattle.sctp_receive.proofs.tsns_seen.sctp_receive_payload_queue_is_empty.Goals as goal

pub returns : goal.returns
unfolding is_empty unsound
returns c = c.flag.ensures ∙ (rw c.of_counts-queue.ensures at c.is_empty-answer.ensures)
