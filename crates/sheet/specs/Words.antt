-- The words of the bench sheet, said by the definitions that the promises of the calls cite.
-- Assumes nothing.
use Rattle.std.specs.Prelude.{◌≡◌, Bool, true, false, List, [], ◌∷◌, ℕ, zero, suc, ◌+◌, ℤ, pos, ◌-ℤ◌, length, replicate, Result}
use Rattle.std.specs.Borrow.{Bor}
use Rattle.wire_model.specs.Refusal.{none, refuse, Told, says}
use Rattle.refusal.specs.declared.Refusal.{Refusal}
use Rattle.chunk.specs.Header.{HeaderFront}
use Rattle.chunk.specs.Part as parts
use Rattle.data_fields.specs.Fields.{DataValues}
use Rattle.chunk_payload_data.specs.Data.{data_told, DataFront, data_read, user_data}
use Rattle.data_fields.specs.declared.ChunkPayloadData.{ChunkPayloadData}
use Rattle.chunk_selective_ack.specs.Layout.{Sack, Block}
use Rattle.chunk_selective_ack.specs.Sack.{sack_told, SackFront, sack_read, blocks_part, duplicates_part, BlockFront, block_told, block_read, TsnFront, tsn_told, tsn_read}
use Rattle.sack_fields.specs.declared.ChunkSelectiveAck.{ChunkSelectiveAck}
use Rattle.sack_entries.specs.declared.GapAckBlock.{GapAckBlock}
use Rattle.payload_model.specs.Queue as tsns
use Rattle.chunks.specs.Message.{Place, next_piece}
use Rattle.chunks.specs.declared.Chunks.{Chunks}
use Rattle.reassembly_state.specs.State.{State}
use Rattle.reassembly_queue.specs.Queue.{state_of}
use Rattle.sheet.specs.Table.{Line}

-- a number below 0
abbrev pub minus : ℕ → ℤ
minus n = pos 0 -ℤ pos n

-- a lent buffer of n places
abbrev pub room : ℕ → List ℕ
room n = replicate n 0

-- user data of n bytes
abbrev pub bytes : ℕ → List ℕ
bytes n = replicate n 7

-- ── the readers: a call, by its name, `gives` what every answer tells that meets its promise ──

-- what an answer tells, and what it has to tell by the promise, for the fields that the lent bytes begin with
pub record Call (A : Type 0) : Type 1 where
  pub Answer : Type 0
  pub Fields : Type 0
  pub told : Answer → A
  pub promised : Fields → A

infix 68 ◌gives◌
abbrev pub ◌gives◌ : {A : Type 0} → Call A → A → Line
c gives paper = (r : c.Answer) → ((f : c.Fields) → c.told r ≡ c.promised f) → c.told r ≡ paper

-- of the lent bytes
abbrev pub unmarshal_data : List ℕ → Call (Told DataValues)
unmarshal_data raw = record { Answer = Result ChunkPayloadData Refusal; Fields = DataFront raw; told = data_told; promised = λ f. data_read (length raw) f.fields }

abbrev pub unmarshal_sack : List ℕ → Call (Told Sack)
unmarshal_sack raw = record { Answer = Result ChunkSelectiveAck Refusal; Fields = SackFront raw; told = sack_told; promised = λ f. sack_read (length raw) f.fields }

-- of a part and an index
abbrev pub gap_ack_block_at : List ℕ → ℕ → Call (Told Block)
gap_ack_block_at part i = record { Answer = Result GapAckBlock Refusal; Fields = BlockFront part i; told = block_told; promised = λ f. block_read part i f.fields }

abbrev pub duplicate_tsn_at : List ℕ → ℕ → Call (Told ℕ)
duplicate_tsn_at part i = record { Answer = Result ℕ Refusal; Fields = TsnFront part i; told = tsn_told; promised = λ f. tsn_read part i f.fields }

-- the parts of the bytes raw, which lie where `lent` points
module _ (lent : Bor (List ℕ)) where
  abbrev pub user_data_call : List ℕ → Call (Told parts.Part)
  user_data_call raw = record { Answer = Result (Bor (List ℕ)) Refusal; Fields = HeaderFront raw; told = parts.part_told; promised = λ f. user_data (record lent { now = raw }) f.fields }

  abbrev pub gap_ack_blocks : List ℕ → Call (Told parts.Part)
  gap_ack_blocks raw = record { Answer = Result (Bor (List ℕ)) Refusal; Fields = SackFront raw; told = parts.part_told; promised = λ f. blocks_part (record lent { now = raw }) f.fields }

  abbrev pub duplicate_tsns_call : List ℕ → Call (Told parts.Part)
  duplicate_tsns_call raw = record { Answer = Result (Bor (List ℕ)) Refusal; Fields = SackFront raw; told = parts.part_told; promised = λ f. duplicates_part (record lent { now = raw }) f.fields }

  -- not refused: these bytes, which lie from byte start on
  abbrev pub part-from : ℕ → List ℕ → Told parts.Part
  part-from start bs = says none (record { bytes = bs; place = (lent.ref_ptr.0, start + lent.ref_ptr.1) })

-- refused with k: no part
abbrev pub no_part : ℕ → Told parts.Part
no_part k = says (refuse k) parts.no_part

-- ── chunks that are pushed, all of stream 0 and identifier 51 ──

-- the marks of a fragment: B, E, or "B and E"
pub data Marks : Type 0 where
  B : Marks
  E : Marks
  BE : Marks

abbrev begins : Marks → Bool
begins B = true
begins E = false
begins BE = true

abbrev ends : Marks → Bool
ends B = false
ends E = true
ends BE = true

abbrev chunk : Bool → Marks → ℕ → ℕ → ChunkPayloadData
chunk u m tsn ssn =
    record {
      unordered = u;
      beginning_fragment = begins m;
      ending_fragment = ends m;
      immediate_sack = false;
      tsn = tsn;
      stream_identifier = 0;
      stream_sequence_number = ssn;
      payload_type = 51;
    }

-- by TSN and SSN
abbrev pub ordered : Marks → ℕ → ℕ → ChunkPayloadData
ordered m tsn ssn = chunk false m tsn ssn

-- by TSN
abbrev pub unordered : Marks → ℕ → ChunkPayloadData
unordered m tsn = chunk true m tsn 0

-- ── "Queued" ──

-- the TSN queue after pushes of these TSNs, in this order
abbrev pub queued : tsns.Queue → ℕ → List ℕ → tsns.Queue
queued q cumulative [] = q
queued q cumulative (t ∷ ts) = queued (tsns.pushed q (tsns.row_of (ordered BE t 0) 1) cumulative).queue cumulative ts

-- ── reassembly ──

-- a queue of stream 0 with maximum 10 that expects this SSN and holds nothing, with the words and the bytes lent to it
abbrev pub expecting : ℕ → List ℕ → List ℕ → State
expecting ssn words pool =
    state_of (record { counts = record { si = 0; next_ssn = ssn; max_message_size = 10; finished = 0; unordered = 0; ordered = 0; n_bytes = 0 } }) words pool

-- ── the message in hand ──

-- a message of n bytes, just taken
abbrev pub message : ℕ → Chunks
message n = record { ssn = 0; ppi = 51; size = n; position = 0; given = false }

-- the answers of so many calls of the piece reader, one after the other
abbrev pub pieces : ℕ → Chunks → List ℕ → ℕ → List (Told Place)
pieces zero m buffer most = []
pieces (suc k) m buffer most = (next_piece m buffer most).told ∷ pieces k (next_piece m buffer most).message buffer most
