-- `inflight_head::abandoned_if` meets its contract: the bits above the marks, the acknowledged mark as it was, and the abandoned one; or the head itself.
use native.Mathlib.Omega.{arith}
use Rattle.inflight_model.specs.Queue.{abandoned_head}
use Rattle.inflight_head.proofs.abandoned_if.Goals as goal

pub returns-then-hit : goal.returns-then-hit
unfolding abandoned_head
returns-then-hit c = rw c.if-hit.true (omega arith)

pub returns : goal.returns
returns c = rw c.if-hit.false
