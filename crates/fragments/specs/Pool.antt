-- Fragments held in rows and a pool: "the payload of record i stands right after that of record i-1"; no places are stored.
-- Assumes nothing.
use Rattle.std.specs.Prelude.{ℕ, List, [], ◌∷◌, map, take, drop}
use Rattle.wire_model.specs.BigEndian.{over}
use Rattle.table.specs.declared.Row.{Row}
use Rattle.fragments.specs.Frag.{Frag, long_length, row_of, frag_of}
use Rattle.fragments.specs.Words.{joined}

-- the fragments that rows and pool hold
unfoldable pub cut : List Row → List ℕ → List Frag
cut [] pool = []
cut (r ∷ rs) pool = frag_of r (take (long_length r.head) pool) ∷ cut rs (drop (long_length r.head) pool)

-- "the rest of each stays as it was": fragments at the front of the rows, and their bytes at the front of the pool
abbrev pub lay_rows : List Frag → List Row → List Row
lay_rows fs rows = over rows (map row_of fs)

abbrev pub lay_bytes : List Frag → List ℕ → List ℕ
lay_bytes fs pool = over pool (joined fs)
