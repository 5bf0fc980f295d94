-- The fields of a DATA chunk: RFC 4960 section 3.3.1.
-- Assumes nothing.
use Rattle.std.specs.Prelude.{ℕ, ◌+◌, ◌/◌, ◌%◌, Bool, false, cond, eqb}
use Rattle.data_fields.specs.declared.ChunkPayloadData.{ChunkPayloadData}

-- ── the flags ──

-- "flags E=1, B=2, U=4, immediate=8; upper four bits ignored on reading": the flag of this weight is set
abbrev pub flag_set : ℕ → ℕ → Bool
flag_set weight flags = eqb (flags / weight % 2) 1

-- a flag's weight, where it is set
abbrev pub weighed : ℕ → Bool → ℕ
weighed weight b = cond b weight 0

-- the upper four bits "zero on writing"
unfoldable pub data_flags : ChunkPayloadData → ℕ
data_flags p = weighed 1 p.ending_fragment + weighed 2 p.beginning_fragment + weighed 4 p.unordered + weighed 8 p.immediate_sack

-- ── the numbers ──

-- the fields of a DATA chunk: TSN, Stream Identifier S, Stream Sequence Number n, Payload Protocol Identifier
pub record Data : Type 0 where
  pub tsn : ℕ
  pub stream : ℕ
  pub ssn : ℕ
  pub identifier : ℕ

-- those that the struct has
unfoldable pub data_sent : ChunkPayloadData → Data
data_sent p =
    record { tsn = p.tsn; stream = p.stream_identifier; ssn = p.stream_sequence_number; identifier = p.payload_type }

-- ── flags and numbers ──

-- the values of a DATA chunk: U, B, E, immediate, TSN, stream, SSN, identifier
pub record DataValues : Type 0 where
  pub unordered : Bool
  pub beginning : Bool
  pub ending : Bool
  pub immediate : Bool
  pub tsn : ℕ
  pub stream : ℕ
  pub ssn : ℕ
  pub identifier : ℕ

-- "0, false or empty"
abbrev pub no_data : DataValues
no_data = record { unordered = false; beginning = false; ending = false; immediate = false; tsn = 0; stream = 0; ssn = 0; identifier = 0 }

-- what the fields on the wire say; "7 reads as 7"
unfoldable pub data_shown : ℕ → Data → DataValues
data_shown flags d =
    record {
      unordered = flag_set 4 flags;
      beginning = flag_set 2 flags;
      ending = flag_set 1 flags;
      immediate = flag_set 8 flags;
      tsn = d.tsn;
      stream = d.stream;
      ssn = d.ssn;
      identifier = d.identifier;
    }

-- what the struct holds
unfoldable pub data_held : ChunkPayloadData → DataValues
data_held p =
    record {
      unordered = p.unordered;
      beginning = p.beginning_fragment;
      ending = p.ending_fragment;
      immediate = p.immediate_sack;
      tsn = p.tsn;
      stream = p.stream_identifier;
      ssn = p.stream_sequence_number;
      identifier = p.payload_type;
    }
