-- "A lookup by index over whole 4-byte entries."
-- Assumes nothing.
use Rattle.std.specs.Prelude.{ℕ, ◌*◌, ◌/◌, ◌<◌, ◌^◌, List, [], ◌∷◌, leb, length, drop, Result}
use Rattle.wire_model.specs.BigEndian.{big_endian}
use Rattle.wire_model.specs.Refusal.{Check, when, first, Told, answer}
use Rattle.refusal.specs.declared.Refusal.{Refusal}
use Rattle.refusal.specs.Told.{answer_told}
use Rattle.wire.specs.Front.{Front}
use Rattle.sack_entries.specs.Layout.{Block, block, block_bytes}
use Rattle.sack_entries.specs.declared.GapAckBlock.{GapAckBlock}

-- 11: "list index at or past its count"
abbrev pub entry_checks : List ℕ → ℕ → List Check
entry_checks part i = when (leb (length part / 4) i) 11 ∷ []

pub record BlockFits (b : Block) : Type 0 where
  pub start : b.start < 2 ^ 16
  pub end : b.end < 2 ^ 16

-- the block that the bytes from entry i on begin with
abbrev pub BlockFront : List ℕ → ℕ → Type 0
BlockFront part i = Front block_bytes BlockFits 4 (drop (4 * i) part)

abbrev pub block_told : Result GapAckBlock Refusal → Told Block
block_told = answer_told (block 0 0) (λ (b : GapAckBlock). block b.start b.end)

abbrev pub block_read : List ℕ → ℕ → Block → Told Block
block_read part i b = answer (block 0 0) (first (entry_checks part i)) b

abbrev pub TsnFront : List ℕ → ℕ → Type 0
TsnFront part i = Front (big_endian 4) (λ (t : ℕ). t < 2 ^ 32) 4 (drop (4 * i) part)

abbrev pub tsn_told : Result ℕ Refusal → Told ℕ
tsn_told = answer_told 0 (λ (t : ℕ). t)

abbrev pub tsn_read : List ℕ → ℕ → ℕ → Told ℕ
tsn_read part i t = answer 0 (first (entry_checks part i)) t
