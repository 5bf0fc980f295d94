-- The sizes, stated once: "At most 1,024 TSNs and 64 logged duplicates."
-- Assumes nothing.
use Rattle.std.specs.Prelude.{ℕ}

abbrev pub tsns_most : ℕ
tsns_most = 1024

abbrev pub log_most : ℕ
log_most = 64
