-- Lists of 4-byte entries. All numbers are big-endian.
-- Assumes nothing.
use Rattle.std.specs.Prelude.{ℕ, List, [], ◌∷◌, ◌++◌}
use Rattle.wire_model.specs.BigEndian.{big_endian}

-- two numbers of 2 bytes, one of each list, as far as both go
unfoldable pub pairs : List ℕ → List ℕ → List ℕ
pairs [] ys = []
pairs (x ∷ xs) [] = []
pairs (x ∷ xs) (y ∷ ys) = (big_endian 2 x ++ big_endian 2 y) ++ pairs xs ys

-- one number of 4 bytes
unfoldable pub words : List ℕ → List ℕ
words [] = []
words (x ∷ xs) = big_endian 4 x ++ words xs
