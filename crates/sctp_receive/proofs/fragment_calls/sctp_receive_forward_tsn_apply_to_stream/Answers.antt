-- `sctp_receive_forward_tsn_apply_to_stream` answers and leaves what `apply_to_stream` does.
use Rattle.sctp_receive.proofs.fragment_calls.sctp_receive_forward_tsn_apply_to_stream.Goals as goal

pub returns : goal.returns
returns c f = rw c.forwarded.ensures (c.apply_to_stream-answer.ensures f)
