-- `sctp_receive_reassembly_queue_new` leaves a fresh queue.
use Rattle.sctp_receive.proofs.fragment_calls.sctp_receive_reassembly_queue_new.Goals as goal

pub returns : goal.returns
returns c = c.new.ensures
