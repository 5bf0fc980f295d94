-- `payload_counts::unsound` meets its contract: each count is tested, then the sum.
use borrow.Author.Tests.{lt-ltb, le-ltb}
use Rattle.payload_model.specs.Queue.{unsound}
use Rattle.payload_counts.proofs.unsound.Goals as goal

pub returns-then-count-gt-TSNS : goal.returns-then-count-gt-TSNS
unfolding unsound
returns-then-count-gt-TSNS c = rw (lt-ltb _ _ c.if-count-gt-TSNS.true)

pub returns-then-counts-gt-LOG : goal.returns-then-counts-gt-LOG
unfolding unsound
returns-then-counts-gt-LOG c = rw (le-ltb _ _ c.if-count-gt-TSNS.false, lt-ltb _ _ c.if-counts-gt-LOG.true)

pub returns : goal.returns
unfolding unsound
returns c = rw (le-ltb _ _ c.if-count-gt-TSNS.false, le-ltb _ _ c.if-counts-gt-LOG.false, c.sum_short-sum.ensures)
