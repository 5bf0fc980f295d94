-- What a record answers, by what reading it as DATA answers.
-- Assumes nothing.
use mathlib.Core.Path.{◌≡◌}
use mathlib.Core.Bool.{false}
use mathlib.Core.List.{List}
use Prim.Native.Nat.{ℕ}
use Rattle.wire_model.specs.Refusal.{none, refuse, says}
use Rattle.wire.proofs.Reading.{accepted}
use Rattle.data_fields.specs.Fields.{DataValues, no_data, data_shown, data_held}
use Rattle.chunk_payload_data.specs.Data.{data_read}
use Rattle.data_fields.specs.declared.ChunkPayloadData.{ChunkPayloadData}
use Rattle.payload_model.specs.Queue.{Queue, after, row_of, pushed}
use Rattle.replay_push.specs.Decoded.{front_header, front_data, decoded, decodes, size_of, recorded}

module _ (raw : List ℕ) where
  -- reading that refuses nothing passes the checks
  pub decodes_none : {v : DataValues} → says none v ≡ decoded raw → decodes raw ≡ none
  unfolding decoded data_read
  decodes_none e = (accepted no_data (data_shown (front_header raw).flags (front_data raw)) (decodes raw) e).0

  module _ (q : Queue) where
    pub refused-recorded : {k : ℕ} → says (refuse k) no_data ≡ decoded raw → after (says (refuse k) false) q ≡ recorded q raw
    unfolding recorded
    refused-recorded e = rw (← e)

    -- a struct is the one that holds its values
    pub pushed-recorded : (p : ChunkPayloadData) → says none (data_held p) ≡ decoded raw → pushed q (row_of p (size_of raw)) 0 ≡ recorded q raw
    unfolding recorded data_held
    pushed-recorded p e = rw (← e)
