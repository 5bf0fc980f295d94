-- `apply_to_stream` answers and leaves what the call below it does.
use Rattle.sctp_receive_forward.proofs.apply_to_stream.Goals as goal

pub returns : goal.returns
returns c f = c.apply_to_stream-answer.ensures f
