-- `sctp_receive_reassembly_queue_forward_tsn_for_ordered` answers and leaves what the call below it does.
use Rattle.sctp_receive.proofs.fragment_calls.sctp_receive_reassembly_queue_forward_tsn_for_ordered.Goals as goal

pub returns : goal.returns
returns c = rw c.forwarded.ensures c.forward_tsn_for_ordered-answer.ensures
