-- A sum in parts, and the width of its field. Tied to no function.
-- Assumes nothing.
use Rattle.std.specs.Prelude.{◌≡◌, refl, List, [], ◌∷◌, ◌++◌, ℕ, zero, suc, ◌/◌, length}
use Rattle.std.proofs.Common.{arith}
use Rattle.crc32c_table.specs.Crc.{byte_step, through, little_endian}

-- bytes behind others go through the register that those leave
pub through-append : (register : ℕ) (a b : List ℕ) → through register (a ++ b) ≡ through (through register a) b
unfolding through
through-append register [] b = refl
through-append register (x ∷ a) b = through-append (byte_step register x) a b

-- k bytes are k bytes long
pub little_endian-length : (k x : ℕ) → length (little_endian k x) ≡ k
unfolding little_endian
little_endian-length zero x = refl
little_endian-length (suc k) x = omega (arith, little_endian-length k (x / 256))
