-- No second outcome of a C call of the codecs fits its promise: the result, every out value and the bytes of a buffer that is written are fixed.
-- Assumes nothing.
use mathlib.Core.Path.{◌≡◌}
use mathlib.Core.Bool.{Bool}
use mathlib.Core.List.{List}
use Prim.Native.Nat.{ℕ}
use lib.Dec.{eqb}
use lib.ListN.{length}
use Rattle.serial.specs.Serial.{before, after, at_or_before, at_or_after, compared, order_number}
use Rattle.wire_model.specs.Refusal.{written}
use Rattle.wire.proofs.Exists.{Bytes}
use Rattle.chunk.specs.Layout.{Header, header}
use Rattle.chunk.specs.Header.{HeaderFront, header_checks, header_read}
use Rattle.data_fields.specs.Fields.{DataValues}
use Rattle.chunk_payload_data.specs.Data.{DataFront, data_read, data_written}
use Rattle.data_fields.specs.declared.ChunkPayloadData.{ChunkPayloadData}
use Rattle.chunk_selective_ack.specs.Layout.{Sack, sack, Block, block}
use Rattle.chunk_selective_ack.specs.Sack.{SackFront, sack_read, sack_written, BlockFront, block_read, TsnFront, tsn_read}
use Rattle.chunk_forward_tsn.specs.Layout.{Pair, pair}
use Rattle.chunk_forward_tsn.specs.ForwardTsn.{Forward, forward, ForwardFront, forward_read, PairFront, pair_read, forward_written}
use Rattle.chunk_theorems.proofs.Fronts.{header-some, data_some, sack-some, block-some, tsn-some, forward-some, pair-some}
use Rattle.sctp_receive_result.specs.Result.{told}
use Rattle.sctp_receive_values.specs.Fields.{values_from}
use Rattle.sctp_receive_places.specs.Places.{Span, span, user_span, blocks_span, duplicates_span, pairs_span}
use Rattle.one_answer.proofs.Only.{Only, named-one}
use Rattle.one_answer.proofs.C.{Said, Word, read_one, Wrote, wrote_one}

-- ── numbers that wrap ──

module _ (i j : ℕ) where
  pub c_sna32lt_one : Only (λ (r : Bool). r ≡ before 32 i j)
  c_sna32lt_one = named-one

  pub c_sna32lte_one : Only (λ (r : Bool). r ≡ at_or_before 32 i j)
  c_sna32lte_one = named-one

  pub c_sna32gt_one : Only (λ (r : Bool). r ≡ after 32 i j)
  c_sna32gt_one = named-one

  pub c_sna32gte_one : Only (λ (r : Bool). r ≡ at_or_after 32 i j)
  c_sna32gte_one = named-one

  pub c_sna32eq_one : Only (λ (r : Bool). r ≡ eqb i j)
  c_sna32eq_one = named-one

  pub c_sna16lt_one : Only (λ (r : Bool). r ≡ before 16 i j)
  c_sna16lt_one = named-one

  pub c_sna16lte_one : Only (λ (r : Bool). r ≡ at_or_before 16 i j)
  c_sna16lte_one = named-one

  pub c_sna16gt_one : Only (λ (r : Bool). r ≡ after 16 i j)
  c_sna16gt_one = named-one

  pub c_sna16gte_one : Only (λ (r : Bool). r ≡ at_or_after 16 i j)
  c_sna16gte_one = named-one

  pub c_sna16eq_one : Only (λ (r : Bool). r ≡ eqb i j)
  c_sna16eq_one = named-one

  pub c-tsn_compare_one : Only (λ (r : ℕ). r ≡ order_number (compared 32 i j))
  c-tsn_compare_one = named-one

  pub c-ssn_compare_one : Only (λ (r : ℕ). r ≡ order_number (compared 16 i j))
  c-ssn_compare_one = named-one

-- ── the readers; a part by its place ──

module _ (raw : List ℕ) (by : Bytes raw) where
  pub c-header_unmarshal_one : Only (λ (o : Said Header). Word o.result
      × ((f : HeaderFront raw) → told o.result (header o.values.kind o.values.flags o.values.size) ≡ header_read (header_checks (length raw) f.fields) f.fields))
  c-header_unmarshal_one = read_one (header-some raw by)

  pub c_data_unmarshal_one : Only (λ (o : Said DataValues). Word o.result
      × ((f : DataFront raw) → told o.result (values_from o.values.unordered o.values.beginning o.values.ending o.values.immediate o.values.tsn o.values.stream o.values.ssn o.values.identifier) ≡ data_read (length raw) f.fields))
  c_data_unmarshal_one = read_one (data_some raw by)

  pub c_data_user_data_one : Only (λ (o : Said Span). Word o.result × ((f : HeaderFront raw) → told o.result (span o.values.start o.values.size) ≡ user_span (length raw) f.fields))
  c_data_user_data_one = read_one (header-some raw by)

  pub c-sack_unmarshal_one : Only (λ (o : Said Sack). Word o.result
      × ((f : SackFront raw) → told o.result (sack o.values.cumulative o.values.window o.values.blocks o.values.duplicates) ≡ sack_read (length raw) f.fields))
  c-sack_unmarshal_one = read_one (sack-some raw by)

  pub c-sack-gap_ack_blocks_one : Only (λ (o : Said Span). Word o.result × ((f : SackFront raw) → told o.result (span o.values.start o.values.size) ≡ blocks_span (length raw) f.fields))
  c-sack-gap_ack_blocks_one = read_one (sack-some raw by)

  pub c-sack_duplicate_tsns_one : Only (λ (o : Said Span). Word o.result × ((f : SackFront raw) → told o.result (span o.values.start o.values.size) ≡ duplicates_span (length raw) f.fields))
  c-sack_duplicate_tsns_one = read_one (sack-some raw by)

  pub c-sack-gap_ack_block_at_one : (i : ℕ) → Only (λ (o : Said Block). Word o.result × ((f : BlockFront raw i) → told o.result (block o.values.start o.values.end) ≡ block_read raw i f.fields))
  c-sack-gap_ack_block_at_one i = read_one (block-some raw i by)

  pub c-sack_duplicate_tsn_at_one : (i : ℕ) → Only (λ (o : Said ℕ). Word o.result × ((f : TsnFront raw i) → told o.result o.values ≡ tsn_read raw i f.fields))
  c-sack_duplicate_tsn_at_one i = read_one (tsn-some raw i by)

  pub c-forward-tsn_unmarshal_one : Only (λ (o : Said Forward). Word o.result × ((f : ForwardFront raw) → told o.result (forward o.values.point o.values.pairs) ≡ forward_read (length raw) f.fields))
  c-forward-tsn_unmarshal_one = read_one (forward-some raw by)

  pub c-forward-tsn_streams_one : Only (λ (o : Said Span). Word o.result × ((f : ForwardFront raw) → told o.result (span o.values.start o.values.size) ≡ pairs_span (length raw) f.fields.header))
  c-forward-tsn_streams_one = read_one (forward-some raw by)

  pub c-forward-tsn_stream_at_one : (i : ℕ) → Only (λ (o : Said Pair). Word o.result × ((f : PairFront raw i) → told o.result (pair o.values.stream o.values.ssn) ≡ pair_read raw i f.fields))
  c-forward-tsn_stream_at_one i = read_one (pair-some raw i by)

-- ── the writers ──

pub c_data_marshal_to_one : (chunk : ChunkPayloadData) (user out : List ℕ)
    → Only (λ (o : Wrote). Word o.said.result × (written (told o.said.result o.said.values) o.out ≡ data_written chunk user out))
c_data_marshal_to_one chunk user out = wrote_one

pub c-sack_marshal_to_one : (cumulative window : ℕ) (starts ends duplicates out : List ℕ)
    → Only (λ (o : Wrote). Word o.said.result × (written (told o.said.result o.said.values) o.out ≡ sack_written cumulative window starts ends duplicates out))
c-sack_marshal_to_one cumulative window starts ends duplicates out = wrote_one

pub c-forward-tsn_marshal_to_one : (point : ℕ) (streams ssns out : List ℕ)
    → Only (λ (o : Wrote). Word o.said.result × (written (told o.said.result o.said.values) o.out ≡ forward_written point streams ssns out))
c-forward-tsn_marshal_to_one point streams ssns out = wrote_one
