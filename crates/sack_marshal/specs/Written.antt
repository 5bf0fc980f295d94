-- Writing a SACK chunk.
-- Assumes nothing.
use Rattle.std.specs.Prelude.{ℕ, ◌+◌, not, ◌||◌, List, [], ◌∷◌, ltb, eqb, length}
use Rattle.wire_model.specs.Refusal.{when, Written, write}
use Rattle.sack_entries.specs.Layout.{sack_chunk}

-- 9: "SACK with N + X above 16,379 or unequal start and end lists"; flags "0 on writing"
unfoldable pub sack_written : ℕ → ℕ → List ℕ → List ℕ → List ℕ → List ℕ → Written
sack_written cumulative window starts ends duplicates out =
    write (when (ltb 16379 (length starts + length duplicates) || not (eqb (length starts) (length ends))) 9 ∷ [])
    (sack_chunk 0 cumulative window starts ends duplicates []) out
