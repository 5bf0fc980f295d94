-- Reading and writing a FORWARD TSN chunk: what is not said here is said in the crate that does it, and handed on.
-- Assumes nothing.
use Rattle.std.specs.Prelude.{ℕ, ◌-◌, ◌/◌, ◌%◌, ◌<◌, ◌^◌, not, List, [], ◌∷◌, ◌++◌, eqb, length, Result}
use Rattle.std.specs.Borrow.{Bor}
use Rattle.wire_model.specs.BigEndian.{big_endian}
use Rattle.wire_model.specs.Refusal.{Check, when, first, Told, answer}
use Rattle.wire.specs.Front.{Front}
use Rattle.refusal.specs.declared.Refusal.{Refusal}
use Rattle.refusal.specs.Told.{answer_told}
use Rattle.chunk.specs.Layout.{Header}
use Rattle.chunk.specs.Header.{kind_checks, Headed, HeadedFits, headed_bytes}
use Rattle.chunk.specs.Part.{Part, part_of}
pub use Rattle.forward_tsn_entries.specs.Entries.{entry_checks, PairFits, PairFront, pair_told, pair_read}
unfoldable pub use Rattle.forward_tsn_marshal.specs.Written.{forward_written}
use Rattle.chunk_forward_tsn.specs.declared.ChunkForwardTsn.{ChunkForwardTsn}

-- what is read: the new cumulative TSN, and how many pairs there are
pub record Forward : Type 0 where
  pub point : ℕ
  pub pairs : ℕ

abbrev pub forward : ℕ → ℕ → Forward
forward point pairs = record { point = point; pairs = pairs }

-- the values are those that the struct has
abbrev pub forward_told : Result ChunkForwardTsn Refusal → Told Forward
forward_told = answer_told (forward 0 0) (λ (f : ChunkForwardTsn). forward f.new_cumulative_tsn f.streams)

-- a number of 32 bits
abbrev pub Word : ℕ → Type 0
Word t = t < 2 ^ 32

-- the header, and the new cumulative TSN behind it, that the lent bytes begin with
abbrev pub ForwardFront : List ℕ → Type 0
ForwardFront raw = Front (headed_bytes (big_endian 4)) (HeadedFits Word) 8 raw

-- 3: the type is not 192; 12: "Length below 8, or not 8 plus a multiple of 4"
abbrev pub pairs_only : Header → List Check
pairs_only h = when (not (eqb (h.size % 4) 0)) 12 ∷ []

abbrev pub forward_checks : ℕ → Header → List Check
forward_checks lent h = kind_checks 192 8 12 lent h ++ pairs_only h

unfoldable pub forward_read : ℕ → Headed ℕ → Told Forward
forward_read lent h = answer (forward 0 0) (first (forward_checks lent h.header)) (forward h.fields ((h.header.size - 8) / 4))

-- the pairs come back as a part of the chunk, from byte 8 up to the length
unfoldable pub pairs_part : Bor (List ℕ) → Header → Told Part
pairs_part raw h = part_of (first (forward_checks (length raw.now) h)) 8 (h.size - 8) raw
