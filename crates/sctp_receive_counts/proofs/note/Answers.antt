-- `note` meets its contract: the log has a TSN more only where it holds more, and no place behind its last.
use lib.Seq.{set_out}
use borrow.Author.Tests.{lt-ltb, le-ltb}
use Rattle.sctp_receive_counts.proofs.note.Goals as goal

pub returns-then-at-log : goal.returns-then-at-log
returns-then-at-log c = rw (lt-ltb _ _ c.if-at-dups.true)

pub returns-else-at-log : goal.returns-else-at-log
returns-else-at-log c = rw (lt-ltb _ _ c.if-at-dups.true, set_out _ _ _ c.if-at-log.false)

pub returns-else-at-dups : goal.returns-else-at-dups
returns-else-at-dups c = rw (le-ltb _ _ c.if-at-dups.false)
