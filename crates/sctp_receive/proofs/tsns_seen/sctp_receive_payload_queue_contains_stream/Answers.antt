-- `sctp_receive_payload_queue_contains_stream` answers what the call below it does.
use mathlib.Core.Path.{◌∙◌}
use Rattle.payload_model.specs.Queue.{contains_stream, unsound}
use Rattle.sctp_receive.proofs.tsns_seen.sctp_receive_payload_queue_contains_stream.Goals as goal

pub returns : goal.returns
unfolding contains_stream unsound
returns c = c.flag.ensures ∙ (rw c.of_counts-queue.ensures at c.contains_stream-answer.ensures)
