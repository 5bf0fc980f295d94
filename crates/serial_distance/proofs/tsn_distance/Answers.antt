-- `serial_distance::tsn_distance` meets its contract: below half way the offset is the distance, and from there on the offset less 2^32.
use native.Mathlib.Omega.{arith}
use mir.Syntax.{w64}
use Rattle.serial_distance.proofs.Laws.{near_is, far_fits, far_is}
use Rattle.serial_distance.proofs.tsn_distance.Goals as goal

pub overflow_sub-result : goal.overflow_sub-result
overflow_sub-result c = far_fits w64 31 _ _ c.tsn_offset-d.ensures (omega arith) (omega arith)

pub returns-then-d-lt2147483648 : goal.returns-then-d-lt2147483648
returns-then-d-lt2147483648 c = near_is w64 31 _ _ c.tsn_offset-d.ensures (omega arith) (omega arith)

pub returns-else-d-lt2147483648 : goal.returns-else-d-lt2147483648
returns-else-d-lt2147483648 c = far_is w64 31 _ _ c.tsn_offset-d.ensures (omega arith) (omega arith)
