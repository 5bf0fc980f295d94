-- `sctp_receive_payload_queue_new` leaves a fresh queue.
use mathlib.Core.Path.{◌∙◌}
use Rattle.sctp_receive.proofs.tsns.sctp_receive_payload_queue_new.Goals as goal

pub returns : goal.returns
returns c = c.put_counts.ensures ∙ c.new-queue.ensures
