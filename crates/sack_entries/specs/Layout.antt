-- What byte list a SACK chunk with given fields and lists is: RFC 4960 section 3.3.4. All numbers are big-endian.
-- Assumes nothing.
use Rattle.std.specs.Prelude.{ℕ, ◌<◌, ◌^◌, List, [], ◌∷◌, ◌++◌, length}
use Rattle.wire_model.specs.BigEndian.{big_endian}
use Rattle.chunk.specs.Layout.{chunk}

-- the fields of a SACK chunk: Cumulative TSN Ack, a_rwnd, Number of Gap Ack Blocks = N, Number of Duplicate TSNs = X
pub record Sack : Type 0 where
  pub cumulative : ℕ
  pub window : ℕ
  pub blocks : ℕ
  pub duplicates : ℕ

abbrev pub sack : ℕ → ℕ → ℕ → ℕ → Sack
sack cumulative window n x = record { cumulative = cumulative; window = window; blocks = n; duplicates = x }

pub record SackFits (s : Sack) : Type 0 where
  pub cumulative : s.cumulative < 2 ^ 32
  pub window : s.window < 2 ^ 32
  pub blocks : s.blocks < 2 ^ 16
  pub duplicates : s.duplicates < 2 ^ 16

unfoldable pub sack_value : Sack → List ℕ
sack_value s = big_endian 4 s.cumulative ++ (big_endian 4 s.window ++ (big_endian 2 s.blocks ++ big_endian 2 s.duplicates))

-- a Gap Ack Block: its Start and its End
pub record Block : Type 0 where
  pub start : ℕ
  pub end : ℕ

abbrev pub block : ℕ → ℕ → Block
block start end = record { start = start; end = end }

unfoldable pub block_bytes : Block → List ℕ
block_bytes b = big_endian 2 b.start ++ big_endian 2 b.end

-- Gap Ack Block #1 up to #N, by their starts and their ends
unfoldable pub gap_blocks : List ℕ → List ℕ → List ℕ
gap_blocks [] ends = []
gap_blocks (s ∷ starts) [] = []
gap_blocks (s ∷ starts) (e ∷ ends) = block_bytes (block s e) ++ gap_blocks starts ends

-- Duplicate TSN 1 up to X
unfoldable pub duplicate_tsns : List ℕ → List ℕ
duplicate_tsns [] = []
duplicate_tsns (t ∷ tsns) = big_endian 4 t ++ duplicate_tsns tsns

-- "Type = 3", the flags, the fields, the blocks and the duplicates; more are value bytes after the lists
abbrev pub sack_chunk : ℕ → ℕ → ℕ → List ℕ → List ℕ → List ℕ → List ℕ → List ℕ
sack_chunk flags cumulative window starts ends duplicates more =
    chunk 3 flags (sack_value (sack cumulative window (length starts) (length duplicates)) ++ (gap_blocks starts ends ++ (duplicate_tsns duplicates ++ more)))
