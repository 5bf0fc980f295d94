-- CRC32c, bit by bit (RFC 4960, Appendix B).
-- Assumes nothing.
use Rattle.std.specs.Prelude.{ℕ, zero, suc, ◌-◌, ◌*◌, ◌/◌, ◌%◌, ◌^◌, List, [], ◌∷◌}
use Rattle.std.specs.Int.Bits.{bit_xor}

-- the generator polynomial 0x1EDC6F41, mirrored: "within each byte, bits are taken least-significant first"
abbrev pub polynomial : ℕ
polynomial = 0x82F63B78

-- one bit goes out at the register's low end; where it was 1 the polynomial is added, without carries
unfoldable pub bit_step : ℕ → ℕ
bit_step register = bit_xor (register % 2 * polynomial) (register / 2)

-- k bits go out
unfoldable pub bit_steps : ℕ → ℕ → ℕ
bit_steps zero register = register
bit_steps (suc k) register = bit_steps k (bit_step register)

-- a byte is added at the low end, and eight bits go out
unfoldable pub byte_step : ℕ → ℕ → ℕ
byte_step register byte = bit_steps 8 (bit_xor byte register)

-- the register after all bytes, the first one first
unfoldable pub through : ℕ → List ℕ → ℕ
through register [] = register
through register (byte ∷ bytes) = through (byte_step register byte) bytes

-- 32 bits, all 1
abbrev pub all_ones : ℕ
all_ones = 2 ^ 32 - 1

-- the register starts with all bits 1, and the sum is its complement at the end
abbrev pub crc32c : List ℕ → ℕ
crc32c bytes = all_ones - through all_ones bytes

-- the number x in k bytes, the least significant first: how the sum stands in its field
unfoldable pub little_endian : ℕ → ℕ → List ℕ
little_endian zero x = []
little_endian (suc k) x = x % 256 ∷ little_endian k (x / 256)
