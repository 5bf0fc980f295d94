-- `sctp_receive_reassembly_queue_push` answers and leaves what the call below it does.
use Rattle.sctp_receive.proofs.fragment_calls.sctp_receive_reassembly_queue_push.Goals as goal

pub returns : goal.returns
returns c = rw c.flag.ensures c.push-answer.ensures
