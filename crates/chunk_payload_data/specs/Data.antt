-- Reading and writing a DATA chunk.
-- Assumes nothing.
use Rattle.std.specs.Prelude.{ℕ, List, length, Result}
use Rattle.wire_model.specs.Refusal.{first, Told, answer, Written, write}
use Rattle.refusal.specs.declared.Refusal.{Refusal}
use Rattle.refusal.specs.Told.{answer_told}
use Rattle.data_marshal.specs.Layout.{DataFits, data_value, data_chunk}
use Rattle.chunk.specs.Header.{Headed, HeadedFront}
use Rattle.data_fields.specs.Fields.{Data, DataValues, no_data, data_shown, data_held, data_flags, data_sent}
use Rattle.data_fields.specs.declared.ChunkPayloadData.{ChunkPayloadData}
pub use Rattle.data_marshal.specs.Checks.{size_checks}
pub use Rattle.data_header.specs.Checks.{data_only, data_checks}
unfoldable pub use Rattle.data_header.specs.Checks.{user_data}

-- ── reading ──

-- the values are those that the struct holds
abbrev pub data_told : Result ChunkPayloadData Refusal → Told DataValues
data_told = answer_told no_data data_held

-- the fields that the lent bytes begin with
abbrev pub DataFront : List ℕ → Type 0
DataFront raw = HeadedFront data_value DataFits raw

unfoldable pub data_read : ℕ → Headed Data → Told DataValues
data_read lent h = answer no_data (first (data_checks lent h.header)) (data_shown h.header.flags h.fields)

-- ── writing ──

unfoldable pub data_written : ChunkPayloadData → List ℕ → List ℕ → Written
data_written p user out = write (size_checks (length user)) (data_chunk (data_flags p) (data_sent p) user) out
