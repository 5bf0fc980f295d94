-- `loose_fragments::scan_rows` meets its contract: after i turns the scan of the rest is that of the whole.
use mathlib.Core.Path.{refl}
use mathlib.Core.Logic.{inl, inr}
use native.Mathlib.Omega.{arith}
use borrow.Author.Tests.{eq-eqb, ne_eqb}
use Rattle.loose_fragments.proofs.Scanned.{scan_none, scan_found, scan-on, scan-all}
use Rattle.loose_fragments.proofs.scan_rows.Goals as goal
use Rattle.loose_fragments.proofs.scan_rows.Goals.{then-flags-eq1+else-start-passed, else-flags-eq1}

pub loop-i-init : goal.loop-i-init
loop-i-init c =
    let a = c.args in
    (refl, scan_none a.size a.table.now a.from a.n c.requires.table_len c.requires.n_bound)

pub returns-then-start-passed : goal.returns-then-start-passed
returns-then-start-passed c = scan_found c.loop-i.invariant.1 (omega arith) refl refl c.starts-start.ensures (eq-eqb _ _ c.if-flags-eq1.true) (omega arith)

pub loop-i-preserved : goal.loop-i-preserved
loop-i-preserved c = (refl, rw c.tsn_next-want.ensures (scan-on c.loop-i.invariant.1 (omega arith) refl refl c.starts-start.ensures (elim c.if-flags-eq1.branch [ then-flags-eq1+else-start-passed w ↦ inl w.if-start-passed.false | else-flags-eq1 w ↦ inr (ne_eqb _ _ w.if-flags-eq1.false) ])))

pub returns : goal.returns
returns c = scan-all c.loop-i.invariant.1 c.loop-i-test.false
