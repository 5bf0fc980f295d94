-- `sctp_receive_reassembly_queue_forward_tsn_for_unordered` answers and leaves what the call below it does.
use Rattle.sctp_receive.proofs.fragment_calls.sctp_receive_reassembly_queue_forward_tsn_for_unordered.Goals as goal

pub returns : goal.returns
returns c = rw c.forwarded.ensures c.forward_tsn_for_unordered-answer.ensures
