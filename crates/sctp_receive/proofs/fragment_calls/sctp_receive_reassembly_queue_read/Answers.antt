-- `sctp_receive_reassembly_queue_read` answers and leaves what the call below it does.
use mathlib.Core.Path.{◌∙◌}
use Rattle.sctp_receive_model.proofs.Left.{reads-left}
use Rattle.sctp_receive.proofs.fragment_calls.sctp_receive_reassembly_queue_read.Goals as goal

pub returns : goal.returns
returns c =
    let told = c.taken-left.ensures in
    reads-left _ _ _ told.1 told.0 ∙ c.read-answer.ensures
