-- No second outcome of a call of the in-flight queue fits its promise: the answer, the struct, the words of the table and the numbers are fixed.
-- What is only lent to be read is at exit what it was, by its loan, and is no part of an outcome.
-- Assumes nothing.
use mathlib.Core.Path.{◌≡◌, refl, sym, ap, ◌∙◌}
use mathlib.Core.Bool.{Bool, cond}
use mathlib.Core.List.{List, []}
use Prim.Native.Nat.{ℕ}
use Rattle.std.specs.Prelude.{Option, Some, None, Result}
use Rattle.wire_model.specs.Refusal.{Told}
use Rattle.refusal.specs.Told.{flag_told, count_told}
use Rattle.refusal.specs.declared.Refusal.{Refusal}
use Rattle.data_fields.specs.Fields.{data_held}
use Rattle.data_fields.specs.declared.ChunkPayloadData.{ChunkPayloadData}
use Rattle.payload_model.specs.Queue.{row_of}
use Rattle.payload_model.specs.Answers.{queued_found, done_told}
use Rattle.inflight_model.specs.Queue.{Given, nothing_sent, After, after, pushed_no_check, marked_acked, marked_all, abandoned, popped, popped_up_to, got, counted, is_empty, num_bytes}
use Rattle.inflight_model.specs.Answers.{sent_given, given_if, taken_told}
use Rattle.inflight_model.specs.declared.Sent.{Sent}
use Rattle.inflight_queue.specs.Queue.{queue_of, fresh}
use Rattle.inflight_queue.specs.declared.InFlightQueue.{InFlightQueue}
use Rattle.one_answer.proofs.Only.{Only, named-one, both}
use Rattle.one_answer.proofs.Told.{answer-one, queued_back, flag_one, count-one, done-one}
use Rattle.one_answer.proofs.States.{TsnWords, flight_struct_one, flight_words_one, flight_numbers_one}

-- ── what the answer that gives a record tells can be taken back ──

abbrev sent_taken : Given → Option Sent
sent_taken g =
    cond g.chunk.found
    (Some (record { queued = queued_back g.chunk; acked = g.acked; abandoned = g.abandoned; retransmit = g.retransmit; message_id = g.message }))
    None

sent-known : (s : Option Sent) → sent_taken (given_if s) ≡ s
unfolding sent_given queued_found data_held
sent-known (Some s) = refl
sent-known None = refl

taken-one : {b : Told Given} → Only (λ (r : Result (Option Sent) Refusal). taken_told r ≡ b)
taken-one = answer-one nothing_sent given_if sent_taken sent-known

-- ── outcomes ──

-- what a call that changes the marks alone gives, and the table's words at exit
pub record Marked (A : Type 0) : Type 0 where
  pub gives : A
  pub table : List ℕ

-- .. one that changes the queue
pub record Left (A : Type 0) : Type 0 where
  pub gives : A
  pub queue : InFlightQueue
  pub table : List ℕ

-- .. and the numbers
pub record LeftBoth (A : Type 0) : Type 0 where
  pub left : Left A
  pub messages : List ℕ

-- ── an answer and a queue, beside the table, and beside table and numbers ──

module _ {A B : Type 0} (told : A → Told B) (told-one : (b : Told B) → Only (λ (r : A). told r ≡ b)) where
  abbrev outcome : Left A → List ℕ → After B
  outcome o ms = after (told o.gives) (queue_of o.queue o.table ms)

  same_left : (r s : Left A) (ms ns : List ℕ) → TsnWords r.table → TsnWords s.table → outcome r ms ≡ outcome s ns → r ≡ s
  same_left r s ms ns w v e =
      let l = ap (λ (x : After B). x.queue) e in
      both (λ (g : A) (k : InFlightQueue × List ℕ). record { gives = g; queue = k.0; table = k.1 })
      (told-one (told s.gives) r.gives s.gives (ap (λ (x : After B). x.told) e) refl)
      (both (λ (k : InFlightQueue) (ws : List ℕ). (k, ws))
      (flight_struct_one r.queue s.queue r.table s.table ms ns l)
      (flight_words_one r.queue s.queue r.table s.table ms ns l w v))

  left_one : (ms : List ℕ) {b : After B} → Only (λ (o : Left A). TsnWords o.table × (outcome o ms ≡ b))
  left_one ms r s p q = same_left r s ms ms p.0 q.0 (p.1 ∙ sym q.1)

  left-both-one : {b : After B} → Only (λ (o : LeftBoth A). TsnWords o.left.table × (outcome o.left o.messages ≡ b))
  left-both-one r s p q =
      let e : outcome r.left r.messages ≡ outcome s.left s.messages = p.1 ∙ sym q.1 in
      both (λ (l : Left A) (ms : List ℕ). record { left = l; messages = ms })
      (same_left r.left s.left r.messages s.messages p.0 q.0 e)
      (flight_numbers_one r.left.queue s.left.queue r.left.table s.left.table r.messages s.messages (ap (λ (x : After B). x.queue) e))

-- ── the calls ──

pub inflight_new_one : Only (λ (r : InFlightQueue). r ≡ fresh)
inflight_new_one = named-one

module _ (self : InFlightQueue) (table : List ℕ) where
  pub inflight_mark_as_acked_one : (tsn : ℕ)
      → Only (λ (o : Left (Result ℕ Refusal)). TsnWords o.table × ((ms : List ℕ) → after (count_told o.gives) (queue_of o.queue o.table ms) ≡ marked_acked (queue_of self table ms) tsn))
  inflight_mark_as_acked_one tsn r s p q = left_one count_told (λ b. count-one) [] r s (p.0, p.1 []) (q.0, q.1 [])

  -- its counts are those that it was called with
  pub inflight_mark_all_to_retransmit_one :
      Only (λ (o : Marked (Result (Unit {0}) Refusal)). TsnWords o.table × ((ms : List ℕ) → after (done_told o.gives) (queue_of self o.table ms) ≡ marked_all (queue_of self table ms)))
  inflight_mark_all_to_retransmit_one r s p q =
      ap (λ (o : Left (Result (Unit {0}) Refusal)). record { gives = o.gives; table = o.table })
      (left_one done_told (λ b. done-one) []
      (record { gives = r.gives; queue = self; table = r.table }) (record { gives = s.gives; queue = self; table = s.table }) (p.0, p.1 []) (q.0, q.1 []))

  pub inflight_get_num_bytes_one : Only (λ (r : Result ℕ Refusal). (ms : List ℕ) → count_told r ≡ num_bytes (queue_of self table ms))
  inflight_get_num_bytes_one r s p q = count-one r s (p []) (q [])

  pub inflight_len_one : Only (λ (r : Result ℕ Refusal). (ms : List ℕ) → count_told r ≡ counted (queue_of self table ms))
  inflight_len_one r s p q = count-one r s (p []) (q [])

  pub inflight_is_empty_one : Only (λ (r : Result Bool Refusal). (ms : List ℕ) → flag_told r ≡ is_empty (queue_of self table ms))
  inflight_is_empty_one r s p q = flag_one r s (p []) (q [])

  module _ (messages : List ℕ) where
    pub inflight_push_no_check_one : (chunk : ChunkPayloadData) (size message : ℕ)
        → Only (λ (o : LeftBoth (Result (Unit {0}) Refusal)). TsnWords o.left.table × (after (done_told o.left.gives) (queue_of o.left.queue o.left.table o.messages) ≡ pushed_no_check (queue_of self table messages) (row_of chunk size) message))
    inflight_push_no_check_one chunk size message = left-both-one done_told (λ b. done-one)

    pub inflight_abandon_message_one : (message : ℕ)
        → Only (λ (o : Left (Result ℕ Refusal)). TsnWords o.table × (after (count_told o.gives) (queue_of o.queue o.table messages) ≡ abandoned (queue_of self table messages) message))
    inflight_abandon_message_one message = left_one count_told (λ b. count-one) messages

    pub inflight_pop_one : (tsn : ℕ)
        → Only (λ (o : LeftBoth (Result (Option Sent) Refusal)). TsnWords o.left.table × (after (taken_told o.left.gives) (queue_of o.left.queue o.left.table o.messages) ≡ popped (queue_of self table messages) tsn))
    inflight_pop_one tsn = left-both-one taken_told (λ b. taken-one)

    pub inflight_pop_up_to_one : (tsn : ℕ)
        → Only (λ (o : LeftBoth (Result (Unit {0}) Refusal)). TsnWords o.left.table × (after (done_told o.left.gives) (queue_of o.left.queue o.left.table o.messages) ≡ popped_up_to (queue_of self table messages) tsn))
    inflight_pop_up_to_one tsn = left-both-one done_told (λ b. done-one)

    pub inflight_get_one : (tsn : ℕ) → Only (λ (r : Result (Option Sent) Refusal). taken_told r ≡ got (queue_of self table messages) tsn)
    inflight_get_one tsn = taken-one
