-- `inflight_head::again_head` meets its contract: where neither mark is set, the bits above the marks, the retransmit mark and the length.
use borrow.Author.Tests.{eq-eqb, ne_eqb}
use native.Mathlib.Omega.{arith}
use Rattle.inflight_model.specs.Queue.{again_head}
use Rattle.inflight_head.proofs.again_head.Goals as goal

pub returns-then-head-eq0 : goal.returns-then-head-eq0
unfolding again_head
returns-then-head-eq0 c = rw (eq-eqb _ _ c.if-head-eq0.true) (omega arith)

pub returns : goal.returns
unfolding again_head
returns c = rw (ne_eqb _ _ c.if-head-eq0.false)
