-- `sctp_receive_chunks_next` answers and leaves what the call below it does, which leaves SSN and identifier as they were.
use Rattle.sctp_receive_model.proofs.Left.{hand_left}
use Rattle.sctp_receive.proofs.message.sctp_receive_chunks_next.Goals as goal

pub returns : goal.returns
returns c =
    let told = c.piece-left.ensures in
    rw told.0 (hand_left _ _ _ _ _ told.1 (rw c.hand-message.ensures at c.next-answer.ensures))
