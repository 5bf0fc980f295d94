-- `inflight_counts::unsound` meets its contract: the count is tested, then the sum.
use borrow.Author.Tests.{lt-ltb, le-ltb}
use Rattle.inflight_model.specs.Queue.{unsound}
use Rattle.inflight_counts.proofs.unsound.Goals as goal

pub returns-then-count-gt-TSNS : goal.returns-then-count-gt-TSNS
unfolding unsound
returns-then-count-gt-TSNS c ms = rw (lt-ltb _ _ c.if-count-gt-TSNS.true)

pub returns : goal.returns
unfolding unsound
returns c ms = rw (le-ltb _ _ c.if-count-gt-TSNS.false, c.sum_short-sum.ensures)
