-- Bytes put behind those that stand at the front of a lent buffer.
-- Assumes nothing.
use Rattle.std.specs.Prelude.{◌≡◌, List, ◌++◌, ℕ, ◌+◌, length}
use Rattle.wire_model.specs.BigEndian.{over}

-- out, with any bytes up to the place at its front, becomes out' with these behind them, and r is the place behind all
pub record Behind (out : List ℕ) (at : ℕ) (bytes out' : List ℕ) (r : ℕ) : Type 0 where
  pub is : (out₀ done : List ℕ) → length done ≡ at → out ≡ over out₀ done → out' ≡ over out₀ (done ++ bytes)
  pub end : r ≡ at + length bytes
  pub long : length out' ≡ length out

-- these bytes at the front of the buffer, and how many they are
pub record Put (out bytes out' : List ℕ) (r : ℕ) : Type 0 where
  pub is : out' ≡ over out bytes
  pub size : r ≡ length bytes
