-- What a result says: the laws that every call's proof applies.
-- Assumes nothing.
use mathlib.Core.Path.{◌≡◌}
use Prim.Native.Nat.{ℕ, ◌<◌, ◌^◌}
use native.Mathlib.Omega.{arith}
use mir.Syntax.{w32}
use mir.Val.{to_z}
use mir.Facts.{to_z_pos}
use Rattle.wire_model.specs.Refusal.{refuse}
use Rattle.sctp_receive_result.specs.Result.{refusal_of, back}

-- a byte is below 2^31, so that its 32 bits, read with a sign, are its number ..
pub says_refuse : (k : ℕ) → k < 2 ^ 8 → refusal_of (to_z w32 k) ≡ refuse k
says_refuse k h = rw (to_z_pos w32 {n = k} (omega arith))

-- .. also read back from a call's result
pub back_refuse : (k : ℕ) → k < 2 ^ 8 → refusal_of (back (to_z w32 k)) ≡ refuse k
back_refuse k h = rw (to_z_pos w32 {n = k} (omega arith), to_z_pos w32 {n = k} (omega arith))
