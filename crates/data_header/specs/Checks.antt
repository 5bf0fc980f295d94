-- What is refused of a DATA chunk, and where its user data lie.
-- Assumes nothing.
use Rattle.std.specs.Prelude.{ℕ, ◌-◌, List, [], ◌∷◌, ◌++◌, eqb, length}
use Rattle.std.specs.Borrow.{Bor}
use Rattle.wire_model.specs.Refusal.{Check, when, first, Told}
use Rattle.chunk.specs.Layout.{Header}
use Rattle.chunk.specs.Header.{kind_checks}
use Rattle.chunk.specs.Part.{Part, part_of}

-- 15: "Reading length 16", which leaves no byte of data
abbrev pub data_only : Header → List Check
data_only h = when (eqb h.size 16) 15 ∷ []

-- 3: the type is not 0; 4: "DATA length below 16"; then 15
abbrev pub data_checks : ℕ → Header → List Check
data_checks lent h = kind_checks 0 16 4 lent h ++ data_only h

-- "from byte 16 up to the length"
unfoldable pub user_data : Bor (List ℕ) → Header → Told Part
user_data raw h = part_of (first (data_checks (length raw.now) h)) 16 (h.size - 16) raw
