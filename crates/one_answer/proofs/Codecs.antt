-- No second outcome of a call of the codecs fits its promise: the answer, the part with its place, and the bytes of a buffer that is written are fixed.
-- Assumes nothing.
use mathlib.Core.Path.{◌≡◌}
use mathlib.Core.Bool.{Bool}
use mathlib.Core.List.{List}
use Prim.Native.Nat.{ℕ}
use lib.Dec.{eqb}
use lib.IntN.{ℤ}
use lib.ListN.{length}
use denote.Ref.{Bor}
use Rattle.serial.specs.Serial.{next, ahead, distance, compared, before, after, at_or_before, at_or_after}
use Rattle.serial_model.specs.declared.Order.{Order}
use Rattle.std.specs.Prelude.{Result}
use Rattle.wire_model.specs.Refusal.{Written, written}
use Rattle.refusal.specs.Told.{count_told}
use Rattle.refusal.specs.declared.Refusal.{Refusal}
use Rattle.wire.proofs.Exists.{Bytes}
use Rattle.chunk.specs.Header.{HeaderFront, header_checks, kind_checks, header_told, header_as_told, short_as, header_read}
use Rattle.chunk.specs.Part.{part_told}
use Rattle.chunk.specs.declared.chunk_header.ChunkHeader.{ChunkHeader}
use Rattle.chunk.specs.declared.chunk_header.Unfit.{Unfit}
use Rattle.chunk.specs.declared.chunk_header.Unfit.TheVariants.{Refused}
use Rattle.data_fields.specs.Fields.{data_flags}
use Rattle.payload_identifier.specs.Identifier.{identifier_number, identifier_name}
use Rattle.chunk_payload_data.specs.Data.{data_told, DataFront, data_checks, data_read, user_data, data_written}
use Rattle.data_fields.specs.declared.ChunkPayloadData.{ChunkPayloadData}
use Rattle.payload_identifier.specs.declared.PayloadProtocolIdentifier.{PayloadProtocolIdentifier}
use Rattle.chunk_selective_ack.specs.Sack.{sack_told, SackFront, sack_read, blocks_part, duplicates_part, BlockFront, block_told, block_read, TsnFront, tsn_told, tsn_read, sack_written}
use Rattle.sack_fields.specs.declared.ChunkSelectiveAck.{ChunkSelectiveAck}
use Rattle.sack_entries.specs.declared.GapAckBlock.{GapAckBlock}
use Rattle.chunk_forward_tsn.specs.ForwardTsn.{forward_told, ForwardFront, forward_read, pairs_part, PairFront, pair_told, pair_read, forward_written}
use Rattle.chunk_forward_tsn.specs.declared.ChunkForwardTsn.{ChunkForwardTsn}
use Rattle.forward_tsn_entries.specs.declared.ChunkForwardTsnStream.{ChunkForwardTsnStream}
use Rattle.chunk_theorems.proofs.OneAnswer.{header-one, header_as_one, data_head-one, data_one, user_data-one, sack-one, blocks-part-one, duplicates_part-one, block_one, tsn-one, forward-one, pairs-part-one, pair_one, written_one}
use Rattle.one_answer.proofs.Only.{Only, named-one, both}

-- ── numbers that wrap ──

module _ (a b : ℕ) where
  pub serial_tsn_next_one : Only (λ (r : ℕ). r ≡ next 32 a)
  serial_tsn_next_one = named-one

  pub serial_ssn_next_one : Only (λ (r : ℕ). r ≡ next 16 a)
  serial_ssn_next_one = named-one

  pub serial_tsn_offset_one : Only (λ (r : ℕ). r ≡ ahead 32 a b)
  serial_tsn_offset_one = named-one

  pub serial_ssn_offset_one : Only (λ (r : ℕ). r ≡ ahead 16 a b)
  serial_ssn_offset_one = named-one

  pub serial_tsn_distance_one : Only (λ (r : ℤ). r ≡ distance 32 a b)
  serial_tsn_distance_one = named-one

  pub serial_ssn_distance_one : Only (λ (r : ℤ). r ≡ distance 16 a b)
  serial_ssn_distance_one = named-one

  pub serial_tsn_compare_one : Only (λ (r : Order). r ≡ compared 32 a b)
  serial_tsn_compare_one = named-one

  pub serial_ssn_compare_one : Only (λ (r : Order). r ≡ compared 16 a b)
  serial_ssn_compare_one = named-one

  pub serial_sna32lt_one : Only (λ (r : Bool). r ≡ before 32 a b)
  serial_sna32lt_one = named-one

  pub serial_sna32lte_one : Only (λ (r : Bool). r ≡ at_or_before 32 a b)
  serial_sna32lte_one = named-one

  pub serial_sna32gt_one : Only (λ (r : Bool). r ≡ after 32 a b)
  serial_sna32gt_one = named-one

  pub serial_sna32gte_one : Only (λ (r : Bool). r ≡ at_or_after 32 a b)
  serial_sna32gte_one = named-one

  pub serial_sna32eq_one : Only (λ (r : Bool). r ≡ eqb a b)
  serial_sna32eq_one = named-one

  pub serial_sna16lt_one : Only (λ (r : Bool). r ≡ before 16 a b)
  serial_sna16lt_one = named-one

  pub serial_sna16lte_one : Only (λ (r : Bool). r ≡ at_or_before 16 a b)
  serial_sna16lte_one = named-one

  pub serial_sna16gt_one : Only (λ (r : Bool). r ≡ after 16 a b)
  serial_sna16gt_one = named-one

  pub serial_sna16gte_one : Only (λ (r : Bool). r ≡ at_or_after 16 a b)
  serial_sna16gte_one = named-one

  pub serial_sna16eq_one : Only (λ (r : Bool). r ≡ eqb a b)
  serial_sna16eq_one = named-one

-- ── the readers ──

module _ (raw : List ℕ) (by : Bytes raw) where
  pub header_unmarshal_one : Only (λ (r : Result ChunkHeader Refusal). (f : HeaderFront raw) → header_told r ≡ header_read (header_checks (length raw) f.fields) f.fields)
  header_unmarshal_one r s p q = header-one raw by p q

  pub header_unmarshal_as_one : (kind least : ℕ)
      → Only (λ (r : Result ChunkHeader Unfit). (short : ℕ) (f : HeaderFront raw) → header_as_told short r ≡ header_read (kind_checks kind least short (length raw) f.fields) f.fields)
  header_unmarshal_as_one kind least r s p q = header_as_one raw by kind least p q

  pub data_header_one : Only (λ (r : Result ChunkHeader Refusal). (f : HeaderFront raw) → header_told r ≡ header_read (data_checks (length raw) f.fields) f.fields)
  data_header_one r s p q = data_head-one raw by p q

  pub data_unmarshal_one : Only (λ (r : Result ChunkPayloadData Refusal). (f : DataFront raw) → data_told r ≡ data_read (length raw) f.fields)
  data_unmarshal_one r s p q = data_one raw by p q

  pub sack_unmarshal_one : Only (λ (r : Result ChunkSelectiveAck Refusal). (f : SackFront raw) → sack_told r ≡ sack_read (length raw) f.fields)
  sack_unmarshal_one r s p q = sack-one raw by p q

  pub sack-gap_ack_block_at_one : (i : ℕ) → Only (λ (r : Result GapAckBlock Refusal). (f : BlockFront raw i) → block_told r ≡ block_read raw i f.fields)
  sack-gap_ack_block_at_one i r s p q = block_one raw by i p q

  pub sack_duplicate_tsn_at_one : (i : ℕ) → Only (λ (r : Result ℕ Refusal). (f : TsnFront raw i) → tsn_told r ≡ tsn_read raw i f.fields)
  sack_duplicate_tsn_at_one i r s p q = tsn-one raw by i p q

  pub forward_unmarshal_one : Only (λ (r : Result ChunkForwardTsn Refusal). (f : ForwardFront raw) → forward_told r ≡ forward_read (length raw) f.fields)
  forward_unmarshal_one r s p q = forward-one raw by p q

  pub forward_stream_at_one : (i : ℕ) → Only (λ (r : Result ChunkForwardTsnStream Refusal). (f : PairFront raw i) → pair_told r ≡ pair_read raw i f.fields)
  forward_stream_at_one i r s p q = pair_one raw by i p q

pub header_from_refusal_one : (e : Refusal) → Only (λ (r : Unfit). r ≡ Refused e)
header_from_refusal_one e = named-one

pub header_told_one : (u : Unfit) (short : Refusal) → Only (λ (r : Refusal). r ≡ short_as short u)
header_told_one u short = named-one

-- ── the parts: refusal, bytes and place ──

module _ (raw : Bor (List ℕ)) (by : Bytes raw.now) where
  pub data_user_data_one : Only (λ (p : Result (Bor (List ℕ)) Refusal). (f : HeaderFront raw.now) → part_told p ≡ user_data raw f.fields)
  data_user_data_one r s p q = user_data-one raw by p q

  pub sack-gap_ack_blocks_one : Only (λ (p : Result (Bor (List ℕ)) Refusal). (f : SackFront raw.now) → part_told p ≡ blocks_part raw f.fields)
  sack-gap_ack_blocks_one r s p q = blocks-part-one raw by p q

  pub sack_duplicate_tsns_one : Only (λ (p : Result (Bor (List ℕ)) Refusal). (f : SackFront raw.now) → part_told p ≡ duplicates_part raw f.fields)
  sack_duplicate_tsns_one r s p q = duplicates_part-one raw by p q

  pub forward_streams_one : Only (λ (p : Result (Bor (List ℕ)) Refusal). (f : HeaderFront raw.now) → part_told p ≡ pairs_part raw f.fields)
  forward_streams_one r s p q = pairs-part-one raw by p q

-- ── the writers: the answer and the buffer ──

pub record Wrote : Type 0 where
  pub gives : Result ℕ Refusal
  pub out : List ℕ

pub wrote : {w : Written} → Only (λ (o : Wrote). written (count_told o.gives) o.out ≡ w)
wrote r s p q = let e = written_one p q in both (λ (g : Result ℕ Refusal) (out : List ℕ). record { gives = g; out = out }) e.0 e.1

pub data_marshal_to_one : (fields : ChunkPayloadData) (user out : List ℕ) → Only (λ (o : Wrote). written (count_told o.gives) o.out ≡ data_written fields user out)
data_marshal_to_one fields user out = wrote

pub sack_marshal_to_one : (cumulative window : ℕ) (starts ends duplicates out : List ℕ)
    → Only (λ (o : Wrote). written (count_told o.gives) o.out ≡ sack_written cumulative window starts ends duplicates out)
sack_marshal_to_one cumulative window starts ends duplicates out = wrote

pub forward_marshal_to_one : (point : ℕ) (streams ssns out : List ℕ) → Only (λ (o : Wrote). written (count_told o.gives) o.out ≡ forward_written point streams ssns out)
forward_marshal_to_one point streams ssns out = wrote

-- ── fields of a DATA chunk by their numbers ──

pub data_from_u32_one : (v : ℕ) → Only (λ (r : PayloadProtocolIdentifier). r ≡ identifier_name v)
data_from_u32_one v = named-one

pub data_from_payload_protocol_identifier_one : (name : PayloadProtocolIdentifier) → Only (λ (r : ℕ). r ≡ identifier_number name)
data_from_payload_protocol_identifier_one name = named-one

pub data_flags-of-one : (fields : ChunkPayloadData) → Only (λ (r : ℕ). r ≡ data_flags fields)
data_flags-of-one fields = named-one
