-- A piece reader moved on by a piece of at most so many bytes.
-- Assumes nothing.
use Rattle.std.specs.Prelude.{ℕ, ◌+◌, ◌-◌, min, Bool, ◌||◌, eqb}
use Rattle.hand_place.specs.declared.Onward.{Onward}

abbrev pub onward : ℕ → ℕ → Bool → ℕ → Onward
onward size position given most = record { size = min most (size - position); position = position + min most (size - position); given = given || eqb size 0 }
