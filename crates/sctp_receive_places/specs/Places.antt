-- Parts of a lent chunk, as C has them: where they start and how many bytes they are.
-- Assumes nothing.
use Rattle.std.specs.Prelude.{ℕ, ◌+◌, ◌-◌, ◌*◌}
use Rattle.wire_model.specs.Refusal.{first, Told, answer}
use Rattle.chunk.specs.Layout.{Header}
use Rattle.chunk.specs.Header.{Headed}
use Rattle.chunk_payload_data.specs.Data.{data_checks}
use Rattle.chunk_selective_ack.specs.Layout.{Sack}
use Rattle.chunk_selective_ack.specs.Sack.{sack_checks}
use Rattle.chunk_forward_tsn.specs.ForwardTsn.{forward_checks}

pub record Span : Type 0 where
  pub start : ℕ
  pub size : ℕ

abbrev pub span : ℕ → ℕ → Span
span start size = record { start = start; size = size }

-- "from byte 16 up to the length"; refused by the checks of DATA, and then 0 and 0
unfoldable pub user_span : ℕ → Header → Told Span
user_span lent h = answer (span 0 0) (first (data_checks lent h)) (span 16 (h.size - 16))

-- N blocks of 4 bytes from byte 16 on; refused by the checks of SACK
unfoldable pub blocks_span : ℕ → Headed Sack → Told Span
blocks_span lent h = answer (span 0 0) (first (sack_checks lent h)) (span 16 (4 * h.fields.blocks))

-- X duplicates of 4 bytes behind them
unfoldable pub duplicates_span : ℕ → Headed Sack → Told Span
duplicates_span lent h = answer (span 0 0) (first (sack_checks lent h)) (span (16 + 4 * h.fields.blocks) (4 * h.fields.duplicates))

-- pairs of FORWARD TSN "from byte 8 up to the length"; refused by its checks
unfoldable pub pairs_span : ℕ → Header → Told Span
pairs_span lent h = answer (span 0 0) (first (forward_checks lent h)) (span 8 (h.size - 8))
