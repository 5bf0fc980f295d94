-- Registers of parts of the bytes, to be made one.
-- Assumes nothing.
use Rattle.std.specs.Prelude.{◌≡◌, List, ℕ, ◌*◌, ◌^◌, take, drop}
use Rattle.crc32c_table.specs.Crc.{bit_steps, through}

-- where four parts of size bytes end, each but the first from an empty register, and what as many zeros leave of the highest bit
pub record Quarters (register : ℕ) (bytes : List ℕ) (size : ℕ) (a b c d far : ℕ) : Type 0 where
  pub first : a ≡ through register (take size bytes)
  pub second : b ≡ through 0 (take size (drop size bytes))
  pub third : c ≡ through 0 (take size (drop (2 * size) bytes))
  pub fourth : d ≡ through 0 (take size (drop (3 * size) bytes))
  pub zeros : far ≡ bit_steps (8 * size) (2 ^ 31)

-- where k bits that go out leave far of the highest bit they leave r of the register
pub record AfterZeros (far register r : ℕ) : Type 0 where
  pub left : (k : ℕ) → far ≡ bit_steps k (2 ^ 31) → r ≡ bit_steps k register
