-- No second outcome of a C call of the queues or of the message in hand fits its promise: the result, every out value, what C keeps of the queue, the words
-- of its table, the bytes of its pool and of a buffer that is written are fixed. A table, pool or buffer that is only lent to be read is at exit what it
-- was, by its loan, and is no part of an outcome.
-- Assumes nothing.
use mathlib.Core.Path.{◌≡◌, sym, ap, ◌∙◌}
use mathlib.Core.Bool.{Bool}
use mathlib.Core.List.{List}
use Prim.Native.Nat.{ℕ}
use lib.IntN.{ℤ}
use Rattle.wire_model.specs.Refusal.{written}
use Rattle.wire.proofs.Exists.{Bytes}
use Rattle.data_fields.specs.declared.ChunkPayloadData.{ChunkPayloadData}
use Rattle.payload_model.specs.Queue.{After, after, Found, Last, Handed, row_of, pushed, can_push, popped, popped_up_to, popped_duplicates, got, contains_stream, counted, is_empty, num_bytes, last_tsn}
use Rattle.payload_model.specs.GapCall.{Lists, lists, gap_report}
use Rattle.payload_queue.specs.Queue.{queue_of, fresh}
use Rattle.payload_queue.specs.declared.PayloadQueue.{PayloadQueue}
use Rattle.chunks.specs.Message as hand
use Rattle.chunks.specs.declared.Chunks.{Chunks}
use Rattle.reassembly_state.specs.Model.{Message}
use Rattle.reassembly_state.specs.State as rq
use Rattle.reassembly_bounded.specs.Bounded.{forward_bounded}
use Rattle.reassembly_applicable.specs.Applicable as applying
use Rattle.reassembly_applicable.specs.Applicable.{applicable}
use Rattle.reassembly_queue.specs.Queue as rq-struct
use Rattle.reassembly_queue.specs.Queue.{state_of}
use Rattle.reassembly_queue.specs.declared.ReassemblyQueue.{ReassemblyQueue}
use Rattle.forward_tsn.specs.Applied.{Pairs, applied_to_stream, applied_to_tsns}
use Rattle.forward_theorems.proofs.Pairs.{pairs-some}
use Rattle.sctp_receive_result.specs.Result.{told, done}
use Rattle.sctp_receive_model.specs.States.{hand_from}
use Rattle.one_answer.proofs.Only.{Only, named-one, both}
use Rattle.one_answer.proofs.States.{TsnWords, tsn_struct_one, FragmentWords}
use Rattle.one_answer.proofs.C.{Said, Word, same_said, said_one, Wrote, wrote_one, TsnsLeft, tsns_said_one, tsns-done-one, FragmentsLeft, fragments_said_one, fragments-done-one}

-- ── outcomes of their own ──

-- the gap report's result and count, and its two lists at exit
pub record Listed : Type 0 where
  pub said : Said ℕ
  pub starts : List ℕ
  pub ends : List ℕ

-- the log handed out, and the counts and log that stay
pub record LogLeft : Type 0 where
  pub said : Said Handed
  pub queue : PayloadQueue

-- a message taken, what stays of the queue, and the bytes of the buffer
pub record ReadLeft : Type 0 where
  pub left : FragmentsLeft (Said Message)
  pub buffer : List ℕ

-- a piece, and what C keeps of the message in hand
pub record PieceLeft : Type 0 where
  pub said : Said hand.Place
  pub bytes : ℕ
  pub position : ℕ
  pub given : Bool

-- ── the TSN queue ──

pub c_payload_queue_new_one : Only (λ (q : PayloadQueue). q ≡ fresh)
c_payload_queue_new_one = named-one

module _ (self : PayloadQueue) (table : List ℕ) where
  pub c_payload_queue_can_push_one : (tsn cumulative : ℕ) → Only (λ (o : Said Bool). Word o.result × (told o.result o.values ≡ can_push (queue_of self table) tsn cumulative))
  c_payload_queue_can_push_one tsn cumulative = said_one

  pub c_payload_queue_push_one : (chunk : ChunkPayloadData) (size cumulative : ℕ) → Only (λ (o : TsnsLeft (Said Bool)). Word o.said.result × (TsnWords o.table
      × (after (told o.said.result o.said.values) (queue_of o.queue o.table) ≡ pushed (queue_of self table) (row_of chunk size) cumulative)))
  c_payload_queue_push_one chunk size cumulative = tsns_said_one

  pub c_payload_queue_pop_one : (tsn : ℕ) → Only (λ (o : TsnsLeft (Said Found)). Word o.said.result × (TsnWords o.table
      × (after (told o.said.result o.said.values) (queue_of o.queue o.table) ≡ popped (queue_of self table) tsn)))
  c_payload_queue_pop_one tsn = tsns_said_one

  pub c_payload_queue_pop_up_to_one : (tsn : ℕ) → Only (λ (o : TsnsLeft ℤ). Word o.said × (TsnWords o.table
      × (after (done o.said) (queue_of o.queue o.table) ≡ popped_up_to (queue_of self table) tsn)))
  c_payload_queue_pop_up_to_one tsn = tsns-done-one

  pub c-forward-tsn_apply_to_tsns_one : (cumulative_tsn new_cumulative_tsn : ℕ) → Only (λ (o : TsnsLeft ℤ). Word o.said × (TsnWords o.table
      × (after (done o.said) (queue_of o.queue o.table) ≡ applied_to_tsns (queue_of self table) cumulative_tsn new_cumulative_tsn)))
  c-forward-tsn_apply_to_tsns_one cumulative_tsn new_cumulative_tsn = tsns-done-one

  pub c_payload_queue_pop_duplicates_one : Only (λ (o : LogLeft). Word o.said.result
      × (after (told o.said.result o.said.values) (queue_of o.queue table) ≡ popped_duplicates (queue_of self table)))
  c_payload_queue_pop_duplicates_one r s p q =
      let e : after (told r.said.result r.said.values) (queue_of r.queue table) ≡ after (told s.said.result s.said.values) (queue_of s.queue table) = p.1 ∙ sym q.1 in
      both (λ (x : Said Handed) (y : PayloadQueue). record { said = x; queue = y })
      (same_said r.said s.said p.0 q.0 (ap (λ (x : After Handed). x.told) e))
      (tsn_struct_one r.queue s.queue table table (ap (λ (x : After Handed). x.queue) e))

  pub c_payload_queue_get_one : (tsn : ℕ) → Only (λ (o : Said Found). Word o.result × (told o.result o.values ≡ got (queue_of self table) tsn))
  c_payload_queue_get_one tsn = said_one

  pub c_payload_queue_get_gap_ack_blocks_one : (cumulative : ℕ) (starts ends : List ℕ)
      → Only (λ (o : Listed). Word o.said.result × (lists (told o.said.result o.said.values) o.starts o.ends ≡ gap_report (queue_of self table) cumulative starts ends))
  c_payload_queue_get_gap_ack_blocks_one cumulative starts ends r s p q =
      let e : lists (told r.said.result r.said.values) r.starts r.ends ≡ lists (told s.said.result s.said.values) s.starts s.ends = p.1 ∙ sym q.1 in
      both (λ (x : Said ℕ) (l : Lists). record { said = x; starts = l.starts; ends = l.ends }) (same_said r.said s.said p.0 q.0 (ap (λ (x : Lists). x.told) e)) e

  pub c_payload_queue_get_last_tsn_received_one : Only (λ (o : Said Last). Word o.result × (told o.result o.values ≡ last_tsn (queue_of self table)))
  c_payload_queue_get_last_tsn_received_one = said_one

  pub c_payload_queue_get_num_bytes_one : Only (λ (o : Said ℕ). Word o.result × (told o.result o.values ≡ num_bytes (queue_of self table)))
  c_payload_queue_get_num_bytes_one = said_one

  pub c_payload_queue_len_one : Only (λ (o : Said ℕ). Word o.result × (told o.result o.values ≡ counted (queue_of self table)))
  c_payload_queue_len_one = said_one

  pub c_payload_queue_is_empty_one : Only (λ (o : Said Bool). Word o.result × (told o.result o.values ≡ is_empty (queue_of self table)))
  c_payload_queue_is_empty_one = said_one

  pub c_payload_queue_contains_stream_one : (stream : ℕ) → Only (λ (o : Said Bool). Word o.result × (told o.result o.values ≡ contains_stream (queue_of self table) stream))
  c_payload_queue_contains_stream_one stream = said_one

-- ── reassembly ──

pub c_reassembly_queue_new_one : (stream most : ℕ) → Only (λ (q : ReassemblyQueue). q ≡ rq-struct.fresh stream most)
c_reassembly_queue_new_one stream most = named-one

module _ (self : ReassemblyQueue) (table pool : List ℕ) where
  pub c_reassembly_queue_push_one : (chunk : ChunkPayloadData) (user_data : List ℕ) → Only (λ (o : FragmentsLeft (Said Bool)). Word o.said.result × (FragmentWords o.table
      × (rq.after (told o.said.result o.said.values) (state_of o.queue o.table o.pool) ≡ rq.pushed (state_of self table pool) chunk user_data)))
  c_reassembly_queue_push_one chunk user_data = fragments_said_one

  pub c_reassembly_queue_is_readable_one : Only (λ (o : Said Bool). Word o.result × (told o.result o.values ≡ rq.is_readable (state_of self table pool)))
  c_reassembly_queue_is_readable_one = said_one

  pub c_reassembly_queue_read_one : (buffer : List ℕ) → Only (λ (o : ReadLeft). Word o.left.said.result × (FragmentWords o.left.table
      × (rq.reads (told o.left.said.result o.left.said.values) (state_of o.left.queue o.left.table o.left.pool) o.buffer ≡ rq.read (state_of self table pool) buffer)))
  c_reassembly_queue_read_one buffer r s p q =
      let leaves : rq.Read → rq.After Message = λ (x : rq.Read). rq.after x.told x.state in
      both (λ (l : FragmentsLeft (Said Message)) (b : List ℕ). record { left = l; buffer = b })
      (fragments_said_one r.left s.left (p.0, (p.1.0, ap leaves p.1.1)) (q.0, (q.1.0, ap leaves q.1.1)))
      (ap (λ (x : rq.Read). x.buffer) (p.1.1 ∙ sym q.1.1))

  pub c_reassembly_queue_forward_tsn_for_ordered_one : (last_ssn : ℕ) → Only (λ (o : FragmentsLeft ℤ). Word o.said × (FragmentWords o.table
      × (rq.after (done o.said) (state_of o.queue o.table o.pool) ≡ rq.forward_ordered (state_of self table pool) last_ssn)))
  c_reassembly_queue_forward_tsn_for_ordered_one last_ssn = fragments-done-one

  pub c_reassembly_queue_forward_tsn_for_ordered_bounded_one : (last_ssn new_cumulative_tsn : ℕ) → Only (λ (o : FragmentsLeft ℤ). Word o.said × (FragmentWords o.table
      × (rq.after (done o.said) (state_of o.queue o.table o.pool) ≡ forward_bounded (state_of self table pool) last_ssn new_cumulative_tsn)))
  c_reassembly_queue_forward_tsn_for_ordered_bounded_one last_ssn new_cumulative_tsn = fragments-done-one

  pub c_reassembly_queue_applicable_forward_tsn_for_ordered_bounded_one : (last_ssn new_cumulative_tsn peer_last_tsn : ℕ)
      → Only (λ (o : Said applying.Found). Word o.result × (told o.result o.values ≡ applicable (state_of self table pool) last_ssn new_cumulative_tsn peer_last_tsn))
  c_reassembly_queue_applicable_forward_tsn_for_ordered_bounded_one last_ssn new_cumulative_tsn peer_last_tsn = said_one

  pub c_reassembly_queue_forward_tsn_for_unordered_one : (new_cumulative_tsn : ℕ) → Only (λ (o : FragmentsLeft ℤ). Word o.said × (FragmentWords o.table
      × (rq.after (done o.said) (state_of o.queue o.table o.pool) ≡ rq.forward_unordered (state_of self table pool) new_cumulative_tsn)))
  c_reassembly_queue_forward_tsn_for_unordered_one new_cumulative_tsn = fragments-done-one

  pub c-forward-tsn_apply_to_stream_one : (cumulative_tsn new_cumulative_tsn : ℕ) (streams : List ℕ) → Bytes streams → Only (λ (o : FragmentsLeft ℤ). Word o.said × (FragmentWords o.table
      × ((f : Pairs streams) → rq.after (done o.said) (state_of o.queue o.table o.pool) ≡ applied_to_stream (state_of self table pool) cumulative_tsn new_cumulative_tsn f.streams f.ssns)))
  c-forward-tsn_apply_to_stream_one cumulative_tsn new_cumulative_tsn streams by r s p q =
      let f = pairs-some streams by in
      fragments-done-one r s (p.0, (p.1.0, p.1.1 f)) (q.0, (q.1.0, q.1.1 f))

  pub c_reassembly_queue_get_num_bytes_one : Only (λ (o : Said ℕ). Word o.result × (told o.result o.values ≡ rq.num_bytes (state_of self table pool)))
  c_reassembly_queue_get_num_bytes_one = said_one

-- ── the message in hand ──

module _ (message : Chunks) (buffer : List ℕ) where
  pub c-chunks_len_one : Only (λ (o : Said ℕ). Word o.result × (told o.result o.values ≡ hand.size message buffer))
  c-chunks_len_one = said_one

  pub c-chunks-is-empty-one : Only (λ (o : Said Bool). Word o.result × (told o.result o.values ≡ hand.is_empty message buffer))
  c-chunks-is-empty-one = said_one

  pub c-chunks-read-one : (out : List ℕ) → Only (λ (o : Wrote). Word o.said.result × (written (told o.said.result o.said.values) o.out ≡ hand.whole_read message buffer out))
  c-chunks-read-one out = wrote_one

  pub c-chunks-next-one : (most : ℕ)
      → Only (λ (o : PieceLeft). Word o.said.result × (hand.after (told o.said.result o.said.values) (hand_from o.bytes o.position o.given) ≡ hand.next_piece message buffer most))
  c-chunks-next-one most r s p q =
      let e : hand.after (told r.said.result r.said.values) (hand_from r.bytes r.position r.given)
      ≡ hand.after (told s.said.result s.said.values) (hand_from s.bytes s.position s.given) = p.1 ∙ sym q.1 in
      both (λ (x : Said hand.Place) (m : Chunks). record { said = x; bytes = m.size; position = m.position; given = m.given })
      (same_said r.said s.said p.0 q.0 (ap (λ (x : hand.After). x.told) e))
      (ap (λ (x : hand.After). x.message) e)
