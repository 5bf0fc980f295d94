-- `sctp_receive_sack_unmarshal` answers what the call below it does.
use borrow.Author.Rules.{rules}
use Rattle.chunk_selective_ack.specs.Sack.{sack_held}
use Rattle.sctp_receive.proofs.sack_chunk.sctp_receive_sack_unmarshal.Goals as goal

pub returns-in-Ok : goal.returns-in-Ok
unfolding sack_held
returns-in-Ok c f = rw (← (c.unmarshal-answer.ensures f), c.in-Ok.is)

pub returns-in-Err : goal.returns-in-Err
returns-in-Err c f = rw (← (c.unmarshal-answer.ensures f), c.in-Err.is) (search rules)
