-- `sctp_receive_header_unmarshal` answers what the call below it does.
use borrow.Author.Rules.{rules}
use Rattle.sctp_receive.proofs.header.sctp_receive_header_unmarshal.Goals as goal

pub returns-in-Ok : goal.returns-in-Ok
returns-in-Ok c f = rw (← (c.unmarshal-answer.ensures f), c.in-Ok.is)

pub returns-in-Err : goal.returns-in-Err
returns-in-Err c f = rw (← (c.unmarshal-answer.ensures f), c.in-Err.is) (search rules)
