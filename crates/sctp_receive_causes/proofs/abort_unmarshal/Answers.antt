-- `sctp_receive_causes::abort_unmarshal` leaves in the lists what the call below it does, and its count apart from its refusal.
use Rattle.sctp_receive_causes.proofs.abort_unmarshal.Goals as goal

pub returns : goal.returns
returns c = rw c.counted.ensures c.unmarshal-answer.ensures
