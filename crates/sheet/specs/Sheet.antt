-- The bench sheet of document 01 as one table: its sentences in their order, and under each what the definitions give that the calls' promises
-- cite, and what the paper says. `says none v` is the answer v, `says (refuse k) ..` is refusal k.
-- Assumes nothing.
use Rattle.std.specs.Prelude.{true, false, List, [], ◌∷◌, ℕ, ◌*◌, ◌≤◌, ◌≡◌, pos, length}
use Rattle.std.specs.Borrow.{Bor}
use Rattle.wire_model.specs.Refusal.{none, refuse, says, written}
use Rattle.serial_model.specs.Serial.{distance}
use Rattle.data_fields.specs.Fields.{DataValues, no_data}
use Rattle.chunk_payload_data.specs.Data.{data_written}
use Rattle.data_fields.specs.declared.ChunkPayloadData.{ChunkPayloadData}
use Rattle.chunk_selective_ack.specs.Layout.{sack, block}
use Rattle.chunk_selective_ack.specs.Sack.{sack_written}
use Rattle.payload_queue.specs.Queue.{queue_of, fresh}
use Rattle.payload_model.specs.GapCall.{lists, gap_report}
use Rattle.chunks.specs.Message.{place, no_place}
use Rattle.reassembly_state.specs.Limits.{frags_most, bytes_most}
use Rattle.reassembly_state.specs.Model.{no_message}
use Rattle.reassembly_state.specs.State.{State, pushed, read}
use Rattle.sheet.specs.Table.{Line, ◌is◌, AllHold}
use Rattle.sheet.specs.Words.{
  minus,
  room,
  bytes,
  ◌gives◌,
  unmarshal_data,
  user_data_call,
  unmarshal_sack,
  gap_ack_blocks,
  duplicate_tsns_call,
  gap_ack_block_at,
  duplicate_tsn_at,
  part-from,
  no_part,
  B,
  E,
  BE,
  ordered,
  unordered,
  queued,
  expecting,
  message,
  pieces,
}

-- ── the chunks of the sheet, byte by byte ──

abbrev pub abc : List ℕ
abc = 0x61 ∷ 0x62 ∷ 0x63 ∷ []

-- "DATA, B and E, TSN 10, stream 2, SSN 5", with this identifier: as it is given to the writer, and as the reader tells it
abbrev pub fields : ℕ → ChunkPayloadData
fields identifier =
    record {
      unordered = false;
      beginning_fragment = true;
      ending_fragment = true;
      immediate_sack = false;
      tsn = 10;
      stream_identifier = 2;
      stream_sequence_number = 5;
      payload_type = identifier;
    }

abbrev pub values : ℕ → DataValues
values identifier = record { unordered = false; beginning = true; ending = true; immediate = false; tsn = 10; stream = 2; ssn = 5; identifier = identifier }

abbrev pub p2_bytes : List ℕ
p2_bytes =
    0x00 ∷ 0x03 ∷ 0x00 ∷ 0x13 ∷ 0x00 ∷ 0x00 ∷ 0x00 ∷ 0x0A ∷ 0x00 ∷ 0x02 ∷ 0x00 ∷ 0x05 ∷ 0x00 ∷ 0x00 ∷ 0x00 ∷ 0x33 ∷ 0x61 ∷ 0x62 ∷ 0x63 ∷ []

-- P2's bytes, with 7 in place of 51
abbrev pub p3_bytes : List ℕ
p3_bytes = 0x00 ∷ 0x03 ∷ 0x00 ∷ 0x13 ∷ 0x00 ∷ 0x00 ∷ 0x00 ∷ 0x0A ∷ 0x00 ∷ 0x02 ∷ 0x00 ∷ 0x05 ∷ 0x00 ∷ 0x00 ∷ 0x00 ∷ 0x07 ∷ abc

-- the 16 bytes of P2 ahead of its data, with another length
abbrev pub p4_bytes : ℕ → List ℕ
p4_bytes size = 0x00 ∷ 0x03 ∷ 0x00 ∷ size ∷ 0x00 ∷ 0x00 ∷ 0x00 ∷ 0x0A ∷ 0x00 ∷ 0x02 ∷ 0x00 ∷ 0x05 ∷ 0x00 ∷ 0x00 ∷ 0x00 ∷ 0x33 ∷ []

abbrev pub p5_blocks : List ℕ
p5_blocks = 0x00 ∷ 0x02 ∷ 0x00 ∷ 0x03 ∷ 0x00 ∷ 0x05 ∷ 0x00 ∷ 0x05 ∷ []

abbrev pub p5_duplicates : List ℕ
p5_duplicates = 0x00 ∷ 0x00 ∷ 0x00 ∷ 0x62 ∷ []

abbrev pub p5_bytes : List ℕ
p5_bytes =
    0x03 ∷ 0x00 ∷ 0x00 ∷ 0x1C ∷ 0x00 ∷ 0x00 ∷ 0x00 ∷ 0x64 ∷ 0x00 ∷ 0x00 ∷ 0x05 ∷ 0xDC ∷ 0x00 ∷ 0x02 ∷ 0x00 ∷ 0x01 ∷ 0x00 ∷ 0x02 ∷ 0x00 ∷ 0x03 ∷ 0x00 ∷ 0x05 ∷ 0x00 ∷ 0x05 ∷ 0x00 ∷ 0x00 ∷ 0x00 ∷ 0x62 ∷ []

-- ── the table ──

-- chunks may lie anywhere, and what is lent to new queues may hold anything: the words of a TSN queue, the words and the bytes of a reassembly queue
module _ (lent : Bor (List ℕ)) (tsns words pool : List ℕ) where
  -- P9: "unordered TSN 1 B of 6 bytes held"
  abbrev pub p9_held : State
  p9_held = (pushed (expecting 0 words pool) (unordered B 1) (bytes 6)).state

  -- P11: "TSN 1 B, 2 B and E, 3 E, arriving 1, 3, 2", with "a", "b" and "c"
  abbrev pub p11_1 : State
  p11_1 = (pushed (expecting 0 words pool) (ordered B 1 0) (0x61 ∷ [])).state

  abbrev pub p11_13 : State
  p11_13 = (pushed p11_1 (ordered E 3 0) (0x63 ∷ [])).state

  abbrev pub p11_132 : State
  p11_132 = (pushed p11_13 (ordered BE 2 0) (0x62 ∷ [])).state

  abbrev pub sheet : List Line
  sheet =
      -- P1 Distance 5 to 3 is -2; 4294967295 to 0 is 1; 0 to 2147483648 is -2147483648.
      distance 32 5 3 is minus 2
      ∷ distance 32 4294967295 0 is pos 1
      ∷ distance 32 0 2147483648 is minus 2147483648
      -- P2 DATA, B and E, TSN 10, stream 2, SSN 5, identifier 51, "abc": `00 03 00 13 00 00 00 0A 00 02 00 05 00 00 00 33 61 62 63`.
      ∷ data_written (fields 51) abc (room 19) is written (says none 19) p2_bytes
      ∷ unmarshal_data p2_bytes gives says none (values 51)
      ∷ user_data_call lent p2_bytes gives part-from lent 16 abc
      -- P3 Identifier 7 reads as 7 and is written as 7 (document 02, M-101).
      ∷ unmarshal_data p3_bytes gives says none (values 7)
      ∷ data_written (fields 7) abc (room 19) is written (says none 19) p3_bytes
      -- P4 DATA length 15: 4. Length 16, which has no data: 15 (document 02, M-104).
      ∷ unmarshal_data (p4_bytes 15) gives says (refuse 4) no_data
      ∷ user_data_call lent (p4_bytes 15) gives no_part 4
      ∷ unmarshal_data (p4_bytes 16) gives says (refuse 15) no_data
      ∷ user_data_call lent (p4_bytes 16) gives no_part 15
      -- P5 SACK, cumulative 100, a_rwnd 1500, blocks 2-3 and 5-5, duplicate 98:
      -- `03 00 00 1C 00 00 00 64 00 00 05 DC 00 02 00 01 00 02 00 03 00 05 00 05 00 00 00 62`.
      ∷ sack_written 100 1500 (2 ∷ 5 ∷ []) (3 ∷ 5 ∷ []) (98 ∷ []) (room 28) is written (says none 28) p5_bytes
      ∷ unmarshal_sack p5_bytes gives says none (sack 100 1500 2 1)
      ∷ gap_ack_blocks lent p5_bytes gives part-from lent 16 p5_blocks
      ∷ gap_ack_block_at p5_blocks 0 gives says none (block 2 3)
      ∷ gap_ack_block_at p5_blocks 1 gives says none (block 5 5)
      ∷ duplicate_tsns_call lent p5_bytes gives part-from lent 24 p5_duplicates
      ∷ duplicate_tsn_at p5_duplicates 0 gives says none 98
      -- P6 Queued 102, 103, 105, cumulative 100: 2-3, 5-5.
      ∷ gap_report (queued (queue_of fresh tsns) 100 (102 ∷ 103 ∷ 105 ∷ [])) 100 (room 2) (room 2) is lists (says none 2) (2 ∷ 5 ∷ []) (3 ∷ 5 ∷ [])
      -- P7 Queued 4294967295, 0, 2, cumulative 4294967294: 1-2, 4-4.
      ∷ gap_report (queued (queue_of fresh tsns) 4294967294 (4294967295 ∷ 0 ∷ 2 ∷ [])) 4294967294 (room 2) (room 2) is lists (says none 2) (1 ∷ 4 ∷ []) (2 ∷ 4 ∷ [])
      -- P8 Queued 65534, 65535, 65536, cumulative 0: 65534-65535.
      ∷ gap_report (queued (queue_of fresh tsns) 0 (65534 ∷ 65535 ∷ 65536 ∷ [])) 0 (room 1) (room 1) is lists (says none 1) (65534 ∷ []) (65535 ∷ [])
      -- P9 Maximum 10, unordered TSN 1 B of 6 bytes held: TSN 2 E of 5 bytes gives 6; of 4 gives true.
      ∷ (pushed (expecting 0 words pool) (unordered B 1) (bytes 6)).told is says none false
      ∷ (pushed p9_held (unordered E 2) (bytes 5)).told is says (refuse 6) false
      ∷ (pushed p9_held (unordered E 2) (bytes 4)).told is says none true
      -- P10 Maximum 10, expected SSN 5: SSN 4 with 11 bytes gives 6; with 10, false.
      ∷ (pushed (expecting 5 words pool) (ordered BE 1 4) (bytes 11)).told is says (refuse 6) false
      ∷ (pushed (expecting 5 words pool) (ordered BE 1 4) (bytes 10)).told is says none false
      -- P11 One SSN, TSN 1 B, 2 B and E, 3 E, arriving 1, 3, 2: one message of three fragments.
      ∷ (pushed (expecting 0 words pool) (ordered B 1 0) (0x61 ∷ [])).told is says none false
      ∷ (pushed p11_1 (ordered E 3 0) (0x63 ∷ [])).told is says none false
      ∷ (pushed p11_13 (ordered BE 2 0) (0x62 ∷ [])).told is says none true
      ∷ (read p11_132 (room 3)).told is says none (record { comes = true; ssn = 0; ppi = 51; size = 3; position = 0; given = false })
      ∷ (read p11_132 (room 3)).buffer is abc
      ∷ (read (read p11_132 (room 3)).state (room 3)).told is says none no_message
      -- P12 Ten bytes, m = 4: 4, 4, 2, none. Empty message: one empty piece, none.
      ∷ pieces 4 (message 10) (bytes 10) 4 is (says none (place 0 4) ∷ says none (place 4 4) ∷ says none (place 8 2) ∷ says none no_place ∷ [])
      ∷ pieces 2 (message 0) [] 4 is (says none (place 0 0) ∷ says none no_place ∷ [])
      ∷ []

-- THE CLAIM: all lines hold; words and pool are as long as the calls of reassembly want them
abbrev pub SheetHolds : Type 0
SheetHolds =
    (lent : Bor (List ℕ)) (tsns words pool : List ℕ) → length words ≡ 4 * frags_most → bytes_most ≤ length pool → AllHold (sheet lent tsns words pool)
