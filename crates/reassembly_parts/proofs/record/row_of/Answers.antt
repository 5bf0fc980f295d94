-- `reassembly_parts::record::row_of` meets its contract: each word is put together as the row says.
use Rattle.data_fields.specs.Fields.{data_sent}
use Rattle.reassembly_parts.proofs.record.row_of.Goals as goal

pub returns : goal.returns
unfolding data_sent
returns c = rw c.flags_of-flags.ensures
