-- `payload_record::chunk_of` meets its contract: each field is what the row's words say.
use mathlib.Core.Path.{refl}
use Rattle.data_fields.specs.Fields.{data_held, data_shown}
use Rattle.payload_model.specs.Queue.{chunk_of}
use Rattle.payload_model.specs.Answers.{queued_found}
use Rattle.payload_record.proofs.chunk_of.Goals as goal

pub returns : goal.returns
unfolding queued_found chunk_of data_held data_shown
returns c = refl
