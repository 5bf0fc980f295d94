-- A lookup by index over whole 4-byte entries.
-- Assumes nothing.
use Rattle.std.specs.Prelude.{ℕ, ◌/◌, ◌<◌, ◌*◌, ◌^◌, List, [], ◌∷◌, leb, length, drop, Result}
use Rattle.wire_model.specs.Refusal.{Check, when, first, Told, answer}
use Rattle.refusal.specs.declared.Refusal.{Refusal}
use Rattle.refusal.specs.Told.{answer_told}
use Rattle.wire.specs.Front.{Front}
use Rattle.forward_tsn_entries.specs.Layout.{Pair, pair, pair_bytes}
use Rattle.forward_tsn_entries.specs.declared.ChunkForwardTsnStream.{ChunkForwardTsnStream}

-- 11: "list index at or past its count"
abbrev pub entry_checks : List ℕ → ℕ → List Check
entry_checks part i = when (leb (length part / 4) i) 11 ∷ []

pub record PairFits (p : Pair) : Type 0 where
  pub stream : p.stream < 2 ^ 16
  pub ssn : p.ssn < 2 ^ 16

-- the pair that the bytes from entry i on begin with
abbrev pub PairFront : List ℕ → ℕ → Type 0
PairFront part i = Front pair_bytes PairFits 4 (drop (4 * i) part)

abbrev pub pair_told : Result ChunkForwardTsnStream Refusal → Told Pair
pair_told = answer_told (pair 0 0) (λ (s : ChunkForwardTsnStream). pair s.identifier s.sequence)

abbrev pub pair_read : List ℕ → ℕ → Pair → Told Pair
pair_read part i p = answer (pair 0 0) (first (entry_checks part i)) p
