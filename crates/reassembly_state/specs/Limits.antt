-- The sizes, stated once: "At most 512 fragments and 65,536 payload bytes held".
-- Assumes nothing.
use Rattle.std.specs.Prelude.{ℕ}

abbrev pub frags_most : ℕ
frags_most = 512

abbrev pub bytes_most : ℕ
bytes_most = 65536
