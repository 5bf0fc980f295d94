-- The rule of the table: at place k stands what a register of k is once eight bits have gone out.
-- Assumes nothing.
use Rattle.std.specs.Prelude.{◌≡◌, List, ℕ, ◌<◌, length, get_or}
use Rattle.crc32c_table.specs.Crc.{bit_steps}

pub record Rule (words : List ℕ) : Type 0 where
  pub size : length words ≡ 256
  pub entry : (k : ℕ) → k < 256 → get_or words k 0 ≡ bit_steps 8 k
