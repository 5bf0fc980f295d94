-- What the result of a C call says.
-- Assumes nothing.
use Rattle.std.specs.Prelude.{◌-◌, Bool, true, false, cond, eqb, ℤ, pos, negsuc}
use Rattle.std.specs.Int.{w32}
use Rattle.std.proofs.Common.{to_z, of_z}
use Rattle.wire_model.specs.Refusal.{Refusal, none, refuse, Told, says}

-- -1: nothing was refused; 0 and above: document 01's number; below -1, which no call answers, a number that document 01 does not have, each another one
abbrev pub refusal_of : ℤ → Refusal
refusal_of (pos k) = refuse k
refusal_of (negsuc k) = cond (eqb k 0) none (refuse (4294967295 - k))

-- a result, and the values that stand in the out references
abbrev pub told : {A : Type 0} → ℤ → A → Told A
told r v = says (refusal_of r) v

-- a result as the caller of a function has it: its 32 bits, read with a sign
abbrev pub back : ℤ → ℤ
back r = to_z w32 (of_z w32 r)

-- what a call says that hands nothing out: true exactly where nothing was refused
abbrev pub done : ℤ → Told Bool
done r = done_if (refusal_of r)
  where
    done_if : Refusal → Told Bool
    done_if none = says none true
    done_if (refuse k) = says (refuse k) false
