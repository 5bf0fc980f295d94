-- The log plays no part where a FORWARD TSN chunk is applied: whatever it holds, the answer, the counts and the rows are the same, and it stays as it was.
-- Assumes nothing.
use mathlib.Core.Path.{◌≡◌, refl}
use mathlib.Core.Bool.{Bool, true, false, cond}
use mathlib.Core.List.{List}
use Prim.Native.Nat.{ℕ}
use Rattle.wire_model.specs.Refusal.{Told}
use Rattle.serial_model.specs.Serial.{at_or_before}
use Rattle.payload_model.specs.Queue.{Queue, after, unsound, popped_up_to}
use Rattle.payload_model.specs.Log.{with_log, left_with_log, popped_up_to_log}
use Rattle.forward_tsn_drops.specs.Drops.{applied_to_tsns}

module _ (q : Queue) (log : List ℕ) (cumulative point : ℕ) where
  ways : (x y : Bool) (t u : Told Bool) → cond x (after t (with_log log q)) (cond y (after u (with_log log q)) (popped_up_to (with_log log q) point))
      ≡ left_with_log log (cond x (after t q) (cond y (after u q) (popped_up_to q point)))
  ways true y t u = refl
  ways false true t u = refl
  ways false false t u = popped_up_to_log q log point

  pub applied_to_tsns_log : applied_to_tsns (with_log log q) cumulative point ≡ left_with_log log (applied_to_tsns q cumulative point)
  unfolding applied_to_tsns unsound
  applied_to_tsns_log = ways (unsound q) (at_or_before 32 point cumulative) _ _
