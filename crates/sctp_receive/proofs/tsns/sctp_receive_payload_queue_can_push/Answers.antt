-- `sctp_receive_payload_queue_can_push` answers what the call below it does.
use mathlib.Core.Path.{◌∙◌}
use Rattle.payload_model.specs.Queue.{can_push, unsound, turned_away}
use Rattle.sctp_receive.proofs.tsns.sctp_receive_payload_queue_can_push.Goals as goal

pub returns : goal.returns
unfolding can_push turned_away unsound
returns c = c.flag.ensures ∙ (rw c.of_counts-queue.ensures at c.can_push-answer.ensures)
