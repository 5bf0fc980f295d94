-- A gap of nothing, closed.
-- Assumes nothing.
use mathlib.Core.Path.{◌≡◌, sym}
use mathlib.Core.List.{List}
use Prim.Native.Nat.{ℕ, ◌+◌, ◌-◌}
use native.Mathlib.Omega.{arith}
use lib.ListN.{take, take-append-drop}
use Rattle.wire_model.specs.BigEndian.{over}
use Rattle.moves_model.specs.Lists.{gone}
use Rattle.fragments.proofs.Pool.{over-own}

-- a gap of nothing closed
pub nothing-gone : {A : Type 0} (to at n : ℕ) (xs : List A) → to ≡ at → xs ≡ over xs (gone to (at - to) (take n xs))
unfolding gone
nothing-gone to at n xs e =
    let none : to + (at - to) ≡ to = omega (arith, e) in
    sym (rw (none, take-append-drop to (take n xs)) (over-own n xs))
