-- `loose_fragments::run_down` meets its contract: after i turns the sum and the run from the wanted TSN down make up the whole run.
use mathlib.Core.Path.{refl}
use native.Mathlib.Omega.{arith}
use borrow.Author.Tests.{eq-eqb, ne_eqb}
use Rattle.loose_fragments.specs.Loose.{previous}
use Rattle.loose_fragments.proofs.Run.{run_none, run_missed, run-last, run_on, run-all}
use Rattle.loose_fragments.proofs.run_down.Invariants.{last}
use Rattle.loose_fragments.proofs.run_down.Goals as goal

pub loop-init : goal.loop-init
loop-init c =
    let a = c.args in
    run_none a.size a.table.now a.from a.n c.requires.table_len c.requires.n_bound previous last a.tsn c.tsn_offset-want.result c.tsn_offset-want.ensures

pub returns-then-n-at : goal.returns-then-n-at
returns-then-n-at c = run_missed c.loop.invariant (omega arith) c.find_tsn-at.ensures (omega arith)

pub returns-then-head-eq1 : goal.returns-then-head-eq1
returns-then-head-eq1 c = run-last c.loop.invariant (omega arith) c.find_tsn-at.ensures (omega arith) refl c.long_length-sum.ensures (eq-eqb _ _ c.if-head-eq1.true)

pub loop-preserved : goal.loop-preserved
loop-preserved c = rw c.tsn_offset-want-in-loop.ensures (run_on c.loop.invariant (omega arith) c.find_tsn-at.ensures (omega arith) refl c.long_length-sum.ensures (ne_eqb _ _ c.if-head-eq1.false))

pub returns : goal.returns
returns c = run-all c.loop.invariant c.loop-test.false
