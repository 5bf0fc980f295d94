-- `payload_record::row_of` meets its contract: each word is put together as the row says.
use Rattle.data_fields.specs.Fields.{data_sent}
use Rattle.payload_model.specs.Queue.{row_of}
use Rattle.payload_record.proofs.row_of.Goals as goal

pub returns : goal.returns
unfolding row_of data_sent
returns c = rw c.flags_of-flags.ensures
