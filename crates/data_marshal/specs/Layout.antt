-- What byte list a DATA chunk with given fields is: RFC 4960 section 3.3.1. All numbers are big-endian.
-- Assumes nothing.
use Rattle.std.specs.Prelude.{ℕ, ◌<◌, ◌^◌, List, ◌++◌}
use Rattle.wire_model.specs.BigEndian.{big_endian}
use Rattle.chunk.specs.Layout.{chunk}
use Rattle.data_fields.specs.Fields.{Data}

-- each in its width
pub record DataFits (d : Data) : Type 0 where
  pub tsn : d.tsn < 2 ^ 32
  pub stream : d.stream < 2 ^ 16
  pub ssn : d.ssn < 2 ^ 16
  pub identifier : d.identifier < 2 ^ 32

-- one behind the other
unfoldable pub data_value : Data → List ℕ
data_value d = big_endian 4 d.tsn ++ (big_endian 2 d.stream ++ (big_endian 2 d.ssn ++ big_endian 4 d.identifier))

-- "Type = 0", the flags, the fields, and the user data
abbrev pub data_chunk : ℕ → Data → List ℕ → List ℕ
data_chunk flags d user = chunk 0 flags (data_value d ++ user)
