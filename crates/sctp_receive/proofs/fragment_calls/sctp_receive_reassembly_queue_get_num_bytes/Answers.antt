-- `sctp_receive_reassembly_queue_get_num_bytes` answers what the call below it does.
use mathlib.Core.Path.{◌∙◌}
use Rattle.sctp_receive.proofs.fragment_calls.sctp_receive_reassembly_queue_get_num_bytes.Goals as goal

pub returns : goal.returns
returns c = c.counted.ensures ∙ c.get_num_bytes-answer.ensures
