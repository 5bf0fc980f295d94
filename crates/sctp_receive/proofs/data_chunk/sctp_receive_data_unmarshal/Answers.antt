-- `sctp_receive_data_unmarshal` answers what the call below it does.
use borrow.Author.Rules.{rules}
use Rattle.data_fields.specs.Fields.{data_held}
use Rattle.sctp_receive.proofs.data_chunk.sctp_receive_data_unmarshal.Goals as goal

pub returns-in-Ok : goal.returns-in-Ok
unfolding data_held
returns-in-Ok c f = rw (← (c.unmarshal-answer.ensures f), c.in-Ok.is)

pub returns-in-Err : goal.returns-in-Err
returns-in-Err c f = rw (← (c.unmarshal-answer.ensures f), c.in-Err.is) (search rules)
