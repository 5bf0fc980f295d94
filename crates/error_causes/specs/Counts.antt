-- What the two readers answer, and where they start.
-- Assumes nothing.
use Rattle.std.specs.Prelude.{ℕ, ◌+◌, ◌≤◌, length, Result, Ok, Err}
use Rattle.wire_model.specs.Refusal.{Told, answer}
use Rattle.cause_parts.specs.Causes.{Reading}
use Rattle.refusal.specs.declared.Refusal.{Refusal}

-- how many there are with those that were read before
unfoldable pub counted : ℕ → Reading → Told ℕ
counted before r = answer 0 r.fault (before + length r.causes)

-- there are fewer causes than bytes
abbrev pub CountRoom : ℕ → Result ℕ Refusal → Type 0
CountRoom end (Ok n) = n ≤ end
CountRoom end (Err e) = Unit {0}

-- a place in the bytes of a chunk, its depth, and how many causes stand ahead of it
pub record Placed (end at depth before : ℕ) : Type 0 where
  pub small : end ≤ 65535
  pub within : at ≤ end
  pub flatter : depth ≤ at
  pub fewer : before ≤ at
