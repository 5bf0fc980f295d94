-- The sizes, stated once: "Eight streams now share the 512 fragments and 65,536 bytes. Each is sure of 16 fragments and 4,096 bytes; the remaining
-- 384 and 32,768 are common."
-- Assumes nothing.
use Rattle.std.specs.Prelude.{ℕ}

abbrev pub streams_most : ℕ
streams_most = 8

abbrev pub own_frags : ℕ
own_frags = 16

abbrev pub own_bytes : ℕ
own_bytes = 4096

abbrev pub common_frags : ℕ
common_frags = 384

abbrev pub common_bytes : ℕ
common_bytes = 32768
