-- THE CLAIM of specs/Sheet: all lines of the table hold, by computing. A reader's promise speaks of any fields in front of the bytes, so of those of
-- Fronts; what a call of reassembly answers is what the model's answers (Steps) on what is held (Reassembled).
-- Assumes nothing.
use mathlib.Core.Path.{◌≡◌, refl}
use mathlib.Core.List.{List}
use Prim.Native.Nat.{ℕ, ◌*◌, ◌≤◌}
use lib.ListN.{length, drop}
use denote.Ref.{Bor}
use Rattle.wire_model.specs.BigEndian.{big_endian, over}
use Rattle.serial_model.specs.Serial.{ahead, distance, before, ordered, compared}
use Rattle.serial_model.specs.Facts.{five_to_three, last_to_zero, zero_to_half}
use Rattle.chunk.specs.Layout.{header_bytes}
use Rattle.chunk_payload_data.specs.Layout.{data_value}
use Rattle.data_fields.specs.Fields.{data_shown, data_flags, data_sent}
use Rattle.chunk_payload_data.specs.Data.{data_read, user_data, data_written}
use Rattle.chunk_selective_ack.specs.Layout.{sack_value, block_bytes, gap_blocks, duplicate_tsns}
use Rattle.chunk_selective_ack.specs.Sack.{sack_read, blocks_part, duplicates_part, sack_written}
use Rattle.moves_model.specs.Lists.{put}
use Rattle.table.specs.Rows as rows
use Rattle.fragments.specs.Words.{size, joined, any, while, past, find, placed}
use Rattle.fragment_sets.specs.Sets.{set_of, rises, complete, joins, grown_set, stored}
use Rattle.loose_fragments.specs.Loose.{runs, run, reach, starts_by, scan}
use Rattle.payload_model.specs.Queue as queue
use Rattle.gap_model.specs.Gap as gap
use Rattle.payload_model.specs.GapCall.{gap_report}
use Rattle.chunks.specs.Message as hand
use Rattle.reassembly_state.specs.Limits.{frags_most, bytes_most}
use Rattle.reassembly_state.specs.Model.{room_for, keep_ordered, push_ordered, move_run, keep_loose, push_unordered, push, ready_set, first_ssn, first_ppi, ordered_turn, turn, readable, message_of, taken}
use Rattle.reassembly_state.specs.State.{fragment_of}
use Rattle.sheet.specs.Table.{AllHold}
use Rattle.sheet.specs.Words.{room}
use Rattle.sheet.specs.Sheet.{sheet, SheetHolds}
use Rattle.sheet.proofs.Fronts.{head_of, front_2, front_3, front_15, front_16, front_5, block_0, block_1, duplicate_0}
use Rattle.sheet.proofs.Steps.{new_holds, push-told, read_told, read-buffer, read_holds}
use Rattle.sheet.proofs.Reassembled.{holds_9, holds_1, holds_13, holds_132}

module _ (lent : Bor (List ℕ)) (tsns words pool : List ℕ) (w : length words ≡ 4 * frags_most) (h : bytes_most ≤ length pool) where
  -- the lines of the table from the n-th on
  abbrev From : ℕ → Type 0
  From n = AllHold (drop n (sheet lent tsns words pool))

  p12 : From 33
  unfolding hand.next_piece hand.unsound hand.finished hand.moved
  p12 = (refl, (refl, tt))

  p11 : From 27
  unfolding push push_ordered keep_ordered stored grown_set joins placed any complete rises set_of while past size joined ahead distance before room_for fragment_of data_flags data_sent turn ordered_turn ready_set readable first_ssn first_ppi message_of taken over
  p11 =
      let new = new_holds 0 words pool w h in
      let after_1 = holds_1 lent tsns words pool w h in
      let after_13 = holds_13 lent tsns words pool w h in
      let all = holds_132 lent tsns words pool w h in
      let left = read_holds all (room 3) tt in
      (push-told new _ _, (push-told after_1 _ _, (push-told after_13 _ _, (read_told all _, (read-buffer all _, (read_told left _, p12))))))

  p10 : From 25
  unfolding push push_ordered set_of while past size ahead distance before fragment_of data_flags data_sent
  p10 = let new = new_holds 5 words pool w h in (push-told new _ _, (push-told new _ _, p11))

  p9 : From 22
  unfolding push push_unordered keep_loose move_run placed any reach run runs find scan starts_by ahead distance before room_for size fragment_of data_flags data_sent
  p9 =
      let new = new_holds 0 words pool w h in
      let held = holds_9 lent tsns words pool w h in
      (push-told new _ _, (push-told held _ _, (push-told held _ _, p10)))

  p6_p7_p8 : From 19
  unfolding gap_report gap.written gap.walk gap.extend queue.pushed queue.stored queue.turned_away queue.unsound queue.row_of rows.total rows.some rows.up_to_last put over data_flags data_sent before compared ordered distance ahead
  p6_p7_p8 = (refl, (refl, (refl, p9)))

  p5 : From 12
  unfolding front_5 block_0 block_1 duplicate_0 sack_read blocks_part duplicates_part sack_written big_endian header_bytes sack_value block_bytes gap_blocks duplicate_tsns over
  p5 = (refl, (λ r p. p front_5, (λ r p. p front_5, (λ r p. p block_0, (λ r p. p block_1, (λ r p. p front_5, (λ r p. p duplicate_0, p6_p7_p8)))))))

  p4 : From 8
  unfolding front_15 front_16 data_read data_shown user_data
  p4 = (λ r p. p front_15, (λ r p. p (head_of front_15), (λ r p. p front_16, (λ r p. p (head_of front_16), p5))))

  p3 : From 6
  unfolding front_3 data_read data_shown data_written data_flags data_sent big_endian header_bytes data_value over
  p3 = (λ r p. p front_3, (refl, p4))

  p2 : From 3
  unfolding front_2 data_read data_shown user_data data_written data_flags data_sent big_endian header_bytes data_value over
  p2 = (refl, (λ r p. p front_2, (λ r p. p (head_of front_2), p3)))

  p1 : From 0
  p1 = (five_to_three, (last_to_zero, (zero_to_half, p2)))

pub sheet_holds : SheetHolds
sheet_holds lent tsns words pool w h = p1 lent tsns words pool w h
