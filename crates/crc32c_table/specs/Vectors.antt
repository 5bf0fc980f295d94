-- Published sums: the check value, and those of RFC 3720, B.4.
-- Assumes nothing.
use Rattle.std.specs.Prelude.{◌≡◌, refl, List, [], ◌∷◌, reverse, ℕ, zero, suc, replicate}
use Rattle.crc32c_table.specs.Crc.{bit_step, bit_steps, byte_step, through, crc32c}

-- the text 123456789
pub text : crc32c (49 ∷ 50 ∷ 51 ∷ 52 ∷ 53 ∷ 54 ∷ 55 ∷ 56 ∷ 57 ∷ []) ≡ 0xE3069283
unfolding bit_step bit_steps byte_step through
text = refl

-- the bytes n - 1, .., 1, 0
abbrev pub falling : ℕ → List ℕ
falling zero = []
falling (suc n) = n ∷ falling n

-- 32 bytes of 0
pub zeros : crc32c (replicate 32 0) ≡ 0x8A9136AA
unfolding bit_step bit_steps byte_step through
zeros = refl

-- 32 bytes of 255
pub ones : crc32c (replicate 32 255) ≡ 0x62A8AB43
unfolding bit_step bit_steps byte_step through
ones = refl

-- 0, 1, .., 31
pub up : crc32c (reverse (falling 32)) ≡ 0x46DD794E
unfolding bit_step bit_steps byte_step through
up = refl

-- 31, .., 1, 0
pub down : crc32c (falling 32) ≡ 0x113FDB5C
unfolding bit_step bit_steps byte_step through
down = refl
