-- `chunk_payload_data::marshal_to` meets its contract: what is written is the chunk with the flags byte and the numbers of these fields.
use Rattle.data_fields.specs.Fields.{data_sent}
use Rattle.chunk_payload_data.specs.Data.{data_written}
use Rattle.chunk_payload_data.proofs.marshal_to.Goals as goal

pub returns : goal.returns
unfolding data_sent data_written
returns c = rw (← c.flags_of-flags.ensures) c.marshal_to.ensures
