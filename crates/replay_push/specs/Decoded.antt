-- A record's chunk, "decode each as DATA, push to a fresh TSN queue with cumulative TSN 0": document 02, M-113.
-- Assumes nothing.
use Rattle.std.specs.Prelude.{ℕ, ◌-◌, Bool, false, List, length, drop}
use Rattle.wire_model.specs.Refusal.{Refusal, none, refuse, first, Told, says}
use Rattle.chunk.specs.Layout.{Header, header}
use Rattle.chunk.specs.Header.{Headed}
use Rattle.data_fields.specs.Fields.{Data}
use Rattle.data_fields.specs.Fields.{DataValues}
use Rattle.chunk_payload_data.specs.Data.{data_checks, data_read}
use Rattle.data_fields.specs.declared.ChunkPayloadData.{ChunkPayloadData}
use Rattle.payload_model.specs.Queue.{Queue, After, after, row_of, pushed}
use Rattle.replay_file.specs.File.{number}

-- the header and the fields of a DATA chunk, where they stand (RFC 4960 sections 3.2 and 3.3.1)
unfoldable pub front_header : List ℕ → Header
front_header bytes = header (number 1 bytes) (number 1 (drop 1 bytes)) (number 2 (drop 2 bytes))

unfoldable pub front_data : List ℕ → Data
front_data bytes =
    record {
      tsn = number 4 (drop 4 bytes);
      stream = number 2 (drop 8 bytes);
      ssn = number 2 (drop 10 bytes);
      identifier = number 4 (drop 12 bytes);
    }

abbrev pub front_fields : List ℕ → Headed Data
front_fields bytes = record { header = front_header bytes; fields = front_data bytes }

-- "decode each as DATA": what reading these bytes answers
unfoldable pub decoded : List ℕ → Told DataValues
decoded bytes = data_read (length bytes) (front_fields bytes)

-- and what it refuses
abbrev pub decodes : List ℕ → Refusal
decodes bytes = first (data_checks (length bytes) (front_header bytes))

-- the data bytes of such a chunk, from byte 16 up to the length
abbrev pub size_of : List ℕ → ℕ
size_of bytes = (front_header bytes).size - 16

-- the struct that holds these values
abbrev pub chunk_of : DataValues → ChunkPayloadData
chunk_of v =
    record {
      unordered = v.unordered;
      beginning_fragment = v.beginning;
      ending_fragment = v.ending;
      immediate_sack = v.immediate;
      tsn = v.tsn;
      stream_identifier = v.stream;
      stream_sequence_number = v.ssn;
      payload_type = v.identifier;
    }

-- "push .. with cumulative TSN 0"; what reading refuses is not pushed
abbrev pub pushed_as : Refusal → ChunkPayloadData → ℕ → Queue → After Bool
pushed_as none chunk size q = pushed q (row_of chunk size) 0
pushed_as (refuse k) chunk size q = after (says (refuse k) false) q

-- a record's answer, and the queue behind it
unfoldable pub recorded : Queue → List ℕ → After Bool
recorded q bytes = pushed_as (decoded bytes).refusal (chunk_of (decoded bytes).values) (size_of bytes) q
