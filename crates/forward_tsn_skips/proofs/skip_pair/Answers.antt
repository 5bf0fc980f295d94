-- `forward_tsn_skips::skip_pair` meets its contract: a pair that names another stream changes nothing, and else the ordered skip does what it says.
use mathlib.Core.Path.{ap}
use mathlib.Core.Bool.{Bool}
use borrow.Author.Tests.{eq-eqb, ne_eqb}
use Rattle.reassembly_state.specs.State.{After}
use Rattle.forward_tsn_skips.specs.Skips.{pair_skipped}
use Rattle.forward_tsn_skips.proofs.skip_pair.Goals as goal

pub returns-then-identifier-queue : goal.returns-then-identifier-queue
unfolding pair_skipped
returns-then-identifier-queue c =
    let a = c.args in
    rw (eq-eqb a.identifier a.queue.now.counts.si c.if-identifier-queue.true) (ap (λ (x : After Bool). x.state) c.forward_tsn_for_ordered.ensures)

pub returns-else-identifier-queue : goal.returns-else-identifier-queue
unfolding pair_skipped
returns-else-identifier-queue c = let a = c.args in rw (ne_eqb a.identifier a.queue.now.counts.si c.if-identifier-queue.false)
