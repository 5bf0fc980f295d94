-- What a DATA chunk is written from: its fields by their numbers, and what is refused of its user data.
-- Assumes nothing.
use Rattle.std.specs.Prelude.{ℕ, List, [], ◌∷◌, ltb, eqb}
use Rattle.wire_model.specs.Refusal.{Check, when}
use Rattle.data_fields.specs.Fields.{Data}

-- the chunk's fields beside its flags, in the order in which a call is given them
abbrev pub sent : ℕ → ℕ → ℕ → ℕ → Data
sent tsn stream ssn identifier = record { tsn = tsn; stream = stream; ssn = ssn; identifier = identifier }

-- 15: "writing empty data"; 9: "DATA above 65,519 data bytes"
abbrev pub size_checks : ℕ → List Check
size_checks n = when (eqb n 0) 15 ∷ when (ltb 65519 n) 9 ∷ []
