-- Reading a SACK chunk.
-- Assumes nothing.
use Rattle.std.specs.Prelude.{ℕ, ◌+◌, ◌*◌, ◌≤◌, List, [], ◌∷◌, ◌++◌, ltb, Result, Ok, Err}
use Rattle.wire_model.specs.Refusal.{Check, when, first, Told, answer}
use Rattle.refusal.specs.declared.Refusal.{Refusal}
use Rattle.refusal.specs.Told.{answer_told}
use Rattle.sack_entries.specs.Layout.{Sack, sack, SackFits, sack_value}
use Rattle.chunk.specs.Header.{kind_checks, Headed, HeadedFront}
use Rattle.sack_fields.specs.declared.ChunkSelectiveAck.{ChunkSelectiveAck}

-- what the struct holds: cumulative TSN, a_rwnd, N, X
unfoldable pub sack_held : ChunkSelectiveAck → Sack
sack_held s = sack s.cumulative_tsn_ack s.advertised_receiver_window_credit s.gap_ack_blocks s.duplicate_tsns

-- the values are those that the struct holds
abbrev pub sack_told : Result ChunkSelectiveAck Refusal → Told Sack
sack_told = answer_told (sack 0 0 0 0) sack_held

-- the fields that the lent bytes begin with
abbrev pub SackFront : List ℕ → Type 0
SackFront raw = HeadedFront sack_value SackFits raw

-- 3: the type is not 3; 5: "SACK length below 16, or below 16 + 4N + 4X"
abbrev pub lists_only : Headed Sack → List Check
lists_only h = when (ltb h.header.size (16 + 4 * h.fields.blocks + 4 * h.fields.duplicates)) 5 ∷ []

abbrev pub sack_checks : ℕ → Headed Sack → List Check
sack_checks lent h = kind_checks 3 16 5 lent h.header ++ lists_only h

unfoldable pub sack_read : ℕ → Headed Sack → Told Sack
sack_read lent h = answer (sack 0 0 0 0) (first (sack_checks lent h)) h.fields

-- where fields come back both lists are lent
abbrev pub Lists : ℕ → Result ChunkSelectiveAck Refusal → Type 0
Lists lent (Ok s) = 16 + 4 * s.gap_ack_blocks + 4 * s.duplicate_tsns ≤ lent
Lists lent (Err e) = Unit {0}
