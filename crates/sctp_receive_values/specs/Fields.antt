-- The fields of a DATA chunk, each by itself as C has them.
-- Assumes nothing.
use Rattle.std.specs.Prelude.{ℕ, Bool}
use Rattle.data_fields.specs.Fields.{DataValues}
use Rattle.data_fields.specs.declared.ChunkPayloadData.{ChunkPayloadData}
use Rattle.payload_model.specs.Queue.{Found}

-- a chunk that C hands in: U, B, E, immediate, TSN, stream, SSN, identifier
abbrev pub chunk_from : Bool → Bool → Bool → Bool → ℕ → ℕ → ℕ → ℕ → ChunkPayloadData
chunk_from u b e i tsn stream ssn identifier =
    record {
      unordered = u;
      beginning_fragment = b;
      ending_fragment = e;
      immediate_sack = i;
      tsn = tsn;
      stream_identifier = stream;
      stream_sequence_number = ssn;
      payload_type = identifier;
    }

-- the values that C is given, in the same order
abbrev pub values_from : Bool → Bool → Bool → Bool → ℕ → ℕ → ℕ → ℕ → DataValues
values_from u b e i tsn stream ssn identifier =
    record { unordered = u; beginning = b; ending = e; immediate = i; tsn = tsn; stream = stream; ssn = ssn; identifier = identifier }

-- a chunk of the TSN queue, if one was found, with its data length
abbrev pub found_from : Bool → DataValues → ℕ → Found
found_from found values size = record { found = found; values = values; size = size }
