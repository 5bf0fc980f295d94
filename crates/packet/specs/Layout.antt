-- What byte list a packet with given header fields and chunks is: RFC 4960 sections 3.1 and 6.8, and Appendix B. All numbers but the checksum are big-endian.
-- Assumes nothing.
use Rattle.std.specs.Prelude.{ℕ, ◌<◌, ◌^◌, List, ◌++◌}
use Rattle.crc32c.specs.Crc.{crc32c, little_endian}
use Rattle.wire_model.specs.BigEndian.{big_endian}

-- Source Port Number, Destination Port Number, Verification Tag
pub record Common : Type 0 where
  pub source : ℕ
  pub destination : ℕ
  pub tag : ℕ

abbrev pub common : ℕ → ℕ → ℕ → Common
common source destination tag = record { source = source; destination = destination; tag = tag }

pub record CommonFits (c : Common) : Type 0 where
  pub source : c.source < 2 ^ 16
  pub destination : c.destination < 2 ^ 16
  pub tag : c.tag < 2 ^ 32

-- the common header with this sum in its field, which has the lowest byte first
unfoldable pub common_bytes : Common → ℕ → List ℕ
common_bytes c sum = big_endian 2 c.source ++ (big_endian 2 c.destination ++ (big_endian 4 c.tag ++ little_endian 4 sum))

-- "initialize the checksum field to '0's", "calculate the CRC32c checksum of the whole packet, including the SCTP common header and all the chunks"
unfoldable pub checksum : Common → List ℕ → ℕ
checksum c chunks = crc32c (common_bytes c 0 ++ chunks)

-- "put the resultant value into the checksum field in the common header, and leave the rest of the bits unchanged"
unfoldable pub packet : Common → List ℕ → List ℕ
packet c chunks = common_bytes c (checksum c chunks) ++ chunks
