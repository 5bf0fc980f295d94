-- `sctp_receive_sack_duplicate_tsn_at` answers what the call below it does.
use borrow.Author.Rules.{rules}
use Rattle.sctp_receive.proofs.sack_chunk.sctp_receive_sack_duplicate_tsn_at.Goals as goal

pub returns-in-Ok : goal.returns-in-Ok
returns-in-Ok c f = rw (← (c.duplicate_tsn_at-answer.ensures f), c.in-Ok.is)

pub returns-in-Err : goal.returns-in-Err
returns-in-Err c f = rw (← (c.duplicate_tsn_at-answer.ensures f), c.in-Err.is) (search rules)
