-- `sctp_receive_chunks_read` answers and leaves what the call below it does.
use Rattle.sctp_receive.proofs.message.sctp_receive_chunks_read.Goals as goal

pub returns : goal.returns
returns c = rw (← c.hand-message.ensures, c.counted.ensures) c.read-answer.ensures
