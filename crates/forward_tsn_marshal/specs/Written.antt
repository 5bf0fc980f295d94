-- Writing a FORWARD TSN chunk.
-- Assumes nothing.
use Rattle.std.specs.Prelude.{ℕ, not, ◌||◌, List, [], ◌∷◌, ltb, eqb, length}
use Rattle.wire_model.specs.Refusal.{when, Written, write}
use Rattle.forward_tsn_entries.specs.Layout.{forward_tsn_chunk}

-- 9: "Writing more than 16,381 pairs", or lists of unequal length; flags 0 when written
unfoldable pub forward_written : ℕ → List ℕ → List ℕ → List ℕ → Written
forward_written point streams ssns out =
    write (when (ltb 16381 (length streams) || not (eqb (length streams) (length ssns))) 9 ∷ []) (forward_tsn_chunk 0 point streams ssns) out
