-- `streams_room::raised` meets its contract: the two numbers are compared.
use borrow.Author.Tests.{eq-eqb, ne_eqb}
use Rattle.streams_room.proofs.raised.Goals as goal

pub returns-then-i-stream : goal.returns-then-i-stream
returns-then-i-stream c = rw (eq-eqb _ _ c.if-i-stream.true)

pub returns : goal.returns
returns c = rw (ne_eqb _ _ c.if-i-stream.false)
