-- `inflight_head::acked_head` meets its contract: the bits above the marks, the abandoned mark as it was, and the acknowledged one.
use native.Mathlib.Omega.{arith}
use Rattle.inflight_model.specs.Queue.{acked_head}
use Rattle.inflight_head.proofs.acked_head.Goals as goal

pub returns : goal.returns
unfolding acked_head
returns c = omega arith
