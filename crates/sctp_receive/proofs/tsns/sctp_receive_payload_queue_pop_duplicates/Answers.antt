-- `sctp_receive_payload_queue_pop_duplicates` answers and leaves what the call below it does.
use mathlib.Core.Path.{◌∙◌}
use Rattle.sctp_receive_counts.proofs.Left.{tsns-left}
use Rattle.sctp_receive.proofs.tsns.sctp_receive_payload_queue_pop_duplicates.Goals as goal

pub returns-in-Ok : goal.returns-in-Ok
returns-in-Ok c = tsns-left _ (rw c.in-Ok.is) c.put_counts.ensures ∙ c.pop_duplicates-answer.ensures

pub returns-in-Err : goal.returns-in-Err
returns-in-Err c = tsns-left _ (rw (c.in-Err.is, c.refused.ensures)) c.put_counts.ensures ∙ c.pop_duplicates-answer.ensures
