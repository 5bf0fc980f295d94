-- `cause_report::lacks` meets its contract: each `return` is the first list that is too short.
use borrow.Author.Tests.{lt-ltb, le-ltb}
use Rattle.cause_report.proofs.lacks.Goals as goal

pub returns-then-codes-n : goal.returns-then-codes-n
returns-then-codes-n c = rw (lt-ltb _ _ c.if-codes-n.true)

pub returns-then-depths-n : goal.returns-then-depths-n
returns-then-depths-n c = rw (le-ltb _ _ c.if-codes-n.false, lt-ltb _ _ c.if-depths-n.true)

pub returns-then-starts-n : goal.returns-then-starts-n
returns-then-starts-n c = rw (le-ltb _ _ c.if-codes-n.false, le-ltb _ _ c.if-depths-n.false, lt-ltb _ _ c.if-starts-n.true)

pub returns : goal.returns
returns c = rw (le-ltb _ _ c.if-codes-n.false, le-ltb _ _ c.if-depths-n.false, le-ltb _ _ c.if-starts-n.false)
