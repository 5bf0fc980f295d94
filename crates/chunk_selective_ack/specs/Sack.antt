-- Reading and writing a SACK chunk: what is not said here is said in the crate that does it, and handed on.
-- Assumes nothing.
use Rattle.std.specs.Prelude.{ℕ, ◌+◌, ◌*◌, List, length}
use Rattle.std.specs.Borrow.{Bor}
use Rattle.wire_model.specs.Refusal.{first, Told}
use Rattle.chunk.specs.Header.{Headed}
use Rattle.chunk.specs.Part.{Part, part_of}
use Rattle.sack_entries.specs.Layout.{Sack}
pub use Rattle.sack_fields.specs.Sack.{sack_told, SackFront, lists_only, sack_checks}
unfoldable pub use Rattle.sack_fields.specs.Sack.{sack_held, sack_read}
pub use Rattle.sack_entries.specs.Entries.{entry_checks, BlockFits, BlockFront, block_told, block_read, TsnFront, tsn_told, tsn_read}
unfoldable pub use Rattle.sack_marshal.specs.Written.{sack_written}

-- "Both lists come back as parts of the chunk": N blocks of 4 bytes from byte 16 on, and X duplicates of 4 bytes behind them
unfoldable pub blocks_part : Bor (List ℕ) → Headed Sack → Told Part
blocks_part raw h = part_of (first (sack_checks (length raw.now) h)) 16 (4 * h.fields.blocks) raw

unfoldable pub duplicates_part : Bor (List ℕ) → Headed Sack → Told Part
duplicates_part raw h = part_of (first (sack_checks (length raw.now) h)) (16 + 4 * h.fields.blocks) (4 * h.fields.duplicates) raw
