-- `sctp_receive_sack_marshal_to` answers and leaves what the call below it does.
use Rattle.sctp_receive.proofs.sack_chunk.sctp_receive_sack_marshal_to.Goals as goal

pub returns : goal.returns
returns c = rw c.counted.ensures c.marshal_to-answer.ensures
