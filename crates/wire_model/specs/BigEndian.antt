-- Numbers as bytes, and bytes at the front of a lent buffer.
-- Assumes nothing.
use Rattle.std.specs.Prelude.{ℕ, zero, suc, ◌/◌, ◌%◌, List, [], ◌∷◌, ◌++◌, length, drop}

-- "big-endian": the number x in k bytes, the most significant first
unfoldable pub big_endian : ℕ → ℕ → List ℕ
big_endian zero x = []
big_endian (suc k) x = big_endian k (x / 256) ++ (x % 256 ∷ [])

-- the buffer out with bytes at its front; the rest stays
unfoldable pub over : {A : Type 0} → List A → List A → List A
over out bytes = bytes ++ drop (length bytes) out
