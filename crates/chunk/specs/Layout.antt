-- What byte list a chunk with given header fields and value is: RFC 4960 section 3.2. All numbers are big-endian.
-- Assumes nothing.
use Rattle.std.specs.Prelude.{ℕ, ◌+◌, ◌<◌, ◌^◌, List, ◌++◌, length}
use Rattle.wire_model.specs.BigEndian.{big_endian}

-- Chunk Type, Chunk Flags, Chunk Length
pub record Header : Type 0 where
  pub kind : ℕ
  pub flags : ℕ
  pub size : ℕ

abbrev pub header : ℕ → ℕ → ℕ → Header
header kind flags size = record { kind = kind; flags = flags; size = size }

pub record HeaderFits (h : Header) : Type 0 where
  pub kind : h.kind < 2 ^ 8
  pub flags : h.flags < 2 ^ 8
  pub size : h.size < 2 ^ 16

unfoldable pub header_bytes : Header → List ℕ
header_bytes h = big_endian 1 h.kind ++ (big_endian 1 h.flags ++ big_endian 2 h.size)

-- "the size of the chunk in bytes, including the Chunk Type, Chunk Flags, Chunk Length, and Chunk Value fields"; no padding
abbrev pub chunk : ℕ → ℕ → List ℕ → List ℕ
chunk kind flags value = header_bytes (header kind flags (4 + length value)) ++ value
