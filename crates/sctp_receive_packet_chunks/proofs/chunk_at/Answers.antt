-- `chunk_at` meets its contract: the step decides.
use borrow.Author.Rules.{rules}
use Rattle.sctp_receive_packet_chunks.specs.Stops.{stop_at}
use Rattle.sctp_receive_packet_chunks.proofs.chunk_at.Goals as goal

pub returns-in-Ok-Some : goal.returns-in-Ok-Some
unfolding stop_at
returns-in-Ok-Some c = rw (← (rw c.in-Ok-Some.field-0-is at c.in-Ok-Some.ensures))

pub returns-in-Ok-None : goal.returns-in-Ok-None
unfolding stop_at
returns-in-Ok-None c = rw (← (rw c.in-Ok-None.field-0-is at c.in-Ok-None.ensures))

pub returns-in-Err : goal.returns-in-Err
unfolding stop_at
returns-in-Err c = rw (← c.in-Err.ensures) (search rules)
