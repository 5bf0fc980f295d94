-- `unmarshal` meets its contract: the fields as read, else 0 and the refusal.
use borrow.Author.Rules.{rules}
use Rattle.sctp_receive_packets.proofs.unmarshal.Goals as goal

pub returns-in-Ok : goal.returns-in-Ok
returns-in-Ok c f = rw (← (c.in-Ok.ensures f))

pub returns-in-Err : goal.returns-in-Err
returns-in-Err c f = rw (← (c.in-Err.ensures f)) (search rules)
