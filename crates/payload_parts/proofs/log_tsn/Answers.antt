-- `payload_parts::log_tsn` meets its contract: a full log stays, and else the TSN goes behind the others.
use borrow.Author.Tests.{lt-ltb, le-ltb}
use Rattle.payload_model.specs.Queue.{logged}
use Rattle.payload_parts.proofs.log_tsn.Goals as goal

pub returns-then-at-lt-LOG : goal.returns-then-at-lt-LOG
unfolding logged
returns-then-at-lt-LOG c ws = rw (lt-ltb _ _ c.if-at-lt-LOG.true)

pub returns-else-at-lt-LOG : goal.returns-else-at-lt-LOG
unfolding logged
returns-else-at-lt-LOG c ws = rw (le-ltb _ _ c.if-at-lt-LOG.false)
