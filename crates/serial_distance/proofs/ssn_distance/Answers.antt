-- `serial_distance::ssn_distance` meets its contract: below half way the offset is the distance, and from there on the offset less 2^16.
use native.Mathlib.Omega.{arith}
use mir.Syntax.{w32}
use Rattle.serial_distance.proofs.Laws.{near_is, far_fits, far_is}
use Rattle.serial_distance.proofs.ssn_distance.Goals as goal

pub overflow_sub-result : goal.overflow_sub-result
overflow_sub-result c = far_fits w32 15 _ _ c.ssn_offset-d.ensures (omega arith) (omega arith)

pub returns-then-d-lt32768 : goal.returns-then-d-lt32768
returns-then-d-lt32768 c = near_is w32 15 _ _ c.ssn_offset-d.ensures (omega arith) (omega arith)

pub returns-else-d-lt32768 : goal.returns-else-d-lt32768
returns-else-d-lt32768 c = far_is w32 15 _ _ c.ssn_offset-d.ensures (omega arith) (omega arith)
