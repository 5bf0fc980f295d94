-- The number and the values of each answer.
-- Assumes nothing.
use Rattle.std.specs.Prelude.{ℕ, true, false, Option, Some, None, Result}
use Rattle.wire_model.specs.Refusal.{Told}
use Rattle.refusal.specs.declared.Refusal.{Refusal}
use Rattle.refusal.specs.Told.{answer_told}
use Rattle.set_reach.specs.Applicable.{Found}

-- of an SSN that may not be there
abbrev pub ssn_found : Option ℕ → Found
ssn_found (Some n) = record { found = true; ssn = n }
ssn_found None = record { found = false; ssn = 0 }

abbrev pub applicable_told : Result (Option ℕ) Refusal → Told Found
applicable_told = answer_told (record { found = false; ssn = 0 }) ssn_found
