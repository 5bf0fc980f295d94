-- No second outcome of a call of the TSN queue fits its promise: the answer, the struct, the words of the table and the lists are fixed.
-- A table that is only lent to be read is at exit what it was, by its loan, and is no part of an outcome.
-- Assumes nothing.
use mathlib.Core.Path.{◌≡◌, refl, sym, ap, ◌∙◌}
use mathlib.Core.Bool.{Bool}
use mathlib.Core.List.{List}
use Prim.Native.Nat.{ℕ}
use Rattle.std.specs.Prelude.{Option, Result}
use Rattle.wire_model.specs.Refusal.{Told}
use Rattle.refusal.specs.Told.{flag_told, count_told}
use Rattle.refusal.specs.declared.Refusal.{Refusal}
use Rattle.data_fields.specs.declared.ChunkPayloadData.{ChunkPayloadData}
use Rattle.payload_model.specs.Queue.{After, after, row_of, pushed, can_push, popped, popped_up_to, Handed, popped_duplicates, got, contains_stream, counted, is_empty, num_bytes, last_tsn}
use Rattle.payload_queue.specs.Queue.{queue_of, fresh}
use Rattle.payload_model.specs.GapCall.{Lists, lists, gap_report}
use Rattle.payload_model.specs.Answers.{taken_told, last_told, done_told, handed_told}
use Rattle.payload_model.specs.declared.Queued.{Queued}
use Rattle.payload_model.specs.declared.Duplicates.{Duplicates}
use Rattle.payload_queue.specs.declared.PayloadQueue.{PayloadQueue}
use Rattle.forward_tsn.specs.Applied.{applied_to_tsns}
use Rattle.replay_push.specs.Decoded.{recorded}
use Rattle.one_answer.proofs.Only.{Only, named-one, both}
use Rattle.one_answer.proofs.Told.{flag_one, count-one, taken-one, last_one, done-one, handed-one}
use Rattle.one_answer.proofs.States.{TsnWords, tsn_struct_one, tsn-words-one}

-- ── outcomes ──

-- what a call that changes the table gives, and the queue and the table's words at exit
pub record Left (A : Type 0) : Type 0 where
  pub gives : A
  pub queue : PayloadQueue
  pub table : List ℕ

-- the log handed out, and the queue at exit
pub record LogLeft : Type 0 where
  pub gives : Result Duplicates Refusal
  pub queue : PayloadQueue

-- the gap report's answer, and its two lists at exit
pub record Listed : Type 0 where
  pub gives : Result ℕ Refusal
  pub starts : List ℕ
  pub ends : List ℕ

-- ── an answer and a queue, beside the table ──

module _ {A B : Type 0} (told : A → Told B) (told-one : (b : Told B) → Only (λ (r : A). told r ≡ b)) where
  left_one : {b : After B} → Only (λ (o : Left A). TsnWords o.table × (after (told o.gives) (queue_of o.queue o.table) ≡ b))
  left_one r s p q =
      let e : after (told r.gives) (queue_of r.queue r.table) ≡ after (told s.gives) (queue_of s.queue s.table) = p.1 ∙ sym q.1 in
      let l = ap (λ (x : After B). x.queue) e in
      both (λ (g : A) (k : PayloadQueue × List ℕ). record { gives = g; queue = k.0; table = k.1 })
      (told-one (told s.gives) r.gives s.gives (ap (λ (x : After B). x.told) e) refl)
      (both (λ (k : PayloadQueue) (ws : List ℕ). (k, ws))
      (tsn_struct_one r.queue s.queue r.table s.table l)
      (tsn-words-one r.queue s.queue r.table s.table l p.0 q.0))

-- ── the calls ──

pub queue-new-one : Only (λ (r : PayloadQueue). r ≡ fresh)
queue-new-one = named-one

module _ (self : PayloadQueue) (table : List ℕ) where
  pub queue_can_push_one : (tsn cumulative : ℕ) → Only (λ (r : Result Bool Refusal). flag_told r ≡ can_push (queue_of self table) tsn cumulative)
  queue_can_push_one tsn cumulative = flag_one

  pub queue-push-one : (chunk : ChunkPayloadData) (size cumulative : ℕ)
      → Only (λ (o : Left (Result Bool Refusal)). TsnWords o.table × (after (flag_told o.gives) (queue_of o.queue o.table) ≡ pushed (queue_of self table) (row_of chunk size) cumulative))
  queue-push-one chunk size cumulative = left_one flag_told (λ b. flag_one)

  pub queue_pop_one : (tsn : ℕ)
      → Only (λ (o : Left (Result (Option Queued) Refusal)). TsnWords o.table × (after (taken_told o.gives) (queue_of o.queue o.table) ≡ popped (queue_of self table) tsn))
  queue_pop_one tsn = left_one taken_told (λ b. taken-one)

  pub queue_pop_up_to_one : (tsn : ℕ)
      → Only (λ (o : Left (Result (Unit {0}) Refusal)). TsnWords o.table × (after (done_told o.gives) (queue_of o.queue o.table) ≡ popped_up_to (queue_of self table) tsn))
  queue_pop_up_to_one tsn = left_one done_told (λ b. done-one)

  -- a FORWARD TSN chunk applied
  pub forward-tsn_apply_to_tsns_one : (cumulative_tsn new_cumulative_tsn : ℕ)
      → Only (λ (o : Left (Result (Unit {0}) Refusal)). TsnWords o.table × (after (done_told o.gives) (queue_of o.queue o.table) ≡ applied_to_tsns (queue_of self table) cumulative_tsn new_cumulative_tsn))
  forward-tsn_apply_to_tsns_one cumulative_tsn new_cumulative_tsn = left_one done_told (λ b. done-one)

  -- a captured chunk, read and pushed
  pub replay_push_record_one : (raw : List ℕ)
      → Only (λ (o : Left (Result Bool Refusal)). TsnWords o.table × (after (flag_told o.gives) (queue_of o.queue o.table) ≡ recorded (queue_of self table) raw))
  replay_push_record_one raw = left_one flag_told (λ b. flag_one)

  pub queue-get-one : (tsn : ℕ) → Only (λ (r : Result (Option Queued) Refusal). taken_told r ≡ got (queue_of self table) tsn)
  queue-get-one tsn = taken-one

  pub queue_pop_duplicates_one : Only (λ (o : LogLeft). after (handed_told o.gives) (queue_of o.queue table) ≡ popped_duplicates (queue_of self table))
  queue_pop_duplicates_one r s p q =
      let e : after (handed_told r.gives) (queue_of r.queue table) ≡ after (handed_told s.gives) (queue_of s.queue table) = p ∙ sym q in
      both (λ (g : Result Duplicates Refusal) (l : PayloadQueue). record { gives = g; queue = l })
      (handed-one r.gives s.gives (ap (λ (x : After Handed). x.told) e) refl)
      (tsn_struct_one r.queue s.queue table table (ap (λ (x : After Handed). x.queue) e))

  pub queue-get-gap_ack_blocks_one : (cumulative : ℕ) (starts ends : List ℕ)
      → Only (λ (o : Listed). lists (count_told o.gives) o.starts o.ends ≡ gap_report (queue_of self table) cumulative starts ends)
  queue-get-gap_ack_blocks_one cumulative starts ends r s p q =
      let e : lists (count_told r.gives) r.starts r.ends ≡ lists (count_told s.gives) s.starts s.ends = p ∙ sym q in
      both (λ (n : Result ℕ Refusal) (l : Lists). record { gives = n; starts = l.starts; ends = l.ends }) (count-one r.gives s.gives (ap (λ (x : Lists). x.told) e) refl) e

  pub queue-get-last-tsn_received_one : Only (λ (r : Result (Option ℕ) Refusal). last_told r ≡ last_tsn (queue_of self table))
  queue-get-last-tsn_received_one = last_one

  pub queue-get_num_bytes_one : Only (λ (r : Result ℕ Refusal). count_told r ≡ num_bytes (queue_of self table))
  queue-get_num_bytes_one = count-one

  pub queue_len_one : Only (λ (r : Result ℕ Refusal). count_told r ≡ counted (queue_of self table))
  queue_len_one = count-one

  pub queue-is-empty-one : Only (λ (r : Result Bool Refusal). flag_told r ≡ is_empty (queue_of self table))
  queue-is-empty-one = flag_one

  pub queue_contains_stream_one : (stream : ℕ) → Only (λ (r : Result Bool Refusal). flag_told r ≡ contains_stream (queue_of self table) stream)
  queue_contains_stream_one stream = flag_one
