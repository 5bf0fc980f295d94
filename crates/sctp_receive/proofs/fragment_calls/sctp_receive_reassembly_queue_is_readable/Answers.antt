-- `sctp_receive_reassembly_queue_is_readable` answers what the call below it does.
use mathlib.Core.Path.{◌∙◌}
use Rattle.sctp_receive.proofs.fragment_calls.sctp_receive_reassembly_queue_is_readable.Goals as goal

pub returns : goal.returns
returns c = c.flag.ensures ∙ c.is_readable-answer.ensures
