-- What the proofs of the two distances share, over the width suc m of the numbers and the width v of the signed answer.
-- Assumes nothing.
use mathlib.Core.Path.{◌≡◌, ◌∙◌}
use Prim.Native.Nat.{ℕ, suc, ◌-◌, ◌^◌, ◌<◌, ◌≤◌}
use native.Mathlib.Omega.{arith}
use lib.IntN.{pos, negsuc, ◌-ℤ◌}
use mir.Syntax.{Width}
use mir.Val.{SFits, to_z, of_z, hbits}
use mir.Facts.{to_z-of_z, to_z_pos}
use Rattle.serial_model.specs.Serial.{ahead, distance}
use Rattle.serial_model.specs.Facts.{less, near, far, ahead-lt}

module _ (v : Width) (m a b : ℕ) {d : ℕ} (e : d ≡ ahead (suc m) a b) (wide : 2 ^ suc m ≤ 2 ^ hbits v) where
  -- The steps are less than the round.
  short : d < 2 ^ suc m
  short = omega (arith, ahead-lt (suc m) a b)

  -- Less than half way ahead, the steps are the distance as they stand.
  pub near_is : d < 2 ^ m → to_z v d ≡ distance (suc m) a b
  near_is h = rw (near m a b (omega arith), ← e) (to_z_pos v (omega (arith, short)))

  -- The steps less the round, by how far that is below 0.
  left : to_z v d -ℤ pos (2 ^ suc m) ≡ negsuc (2 ^ suc m - suc d)
  left = rw (to_z_pos v {n = d} (omega (arith, short))) (less (2 ^ suc m) d short)

  -- From half way on, what is left of the round fits ..
  pub far_fits : 2 ^ m ≤ d → SFits v (to_z v d -ℤ pos (2 ^ suc m))
  far_fits h = rw left (record { sfits = omega (arith, short) })

  -- .. and is the distance.
  pub far_is : 2 ^ m ≤ d → to_z v (of_z v (to_z v d -ℤ pos (2 ^ suc m))) ≡ distance (suc m) a b
  far_is h = to_z-of_z (far_fits h) ∙ left ∙ rw (far m a b (omega arith), ← e)
