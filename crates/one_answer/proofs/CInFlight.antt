-- No second outcome of a C call of the in-flight queue fits its promise: the result, every out value, what C keeps of the queue, the words of its table and the
-- numbers of messages are fixed. What is only lent to be read is at exit what it was, by its loan, and is no part of an outcome.
-- Assumes nothing.
use mathlib.Core.Path.{◌≡◌, sym, ap, ◌∙◌}
use mathlib.Core.Bool.{Bool}
use mathlib.Core.List.{List, []}
use Prim.Native.Nat.{ℕ}
use lib.IntN.{ℤ}
use Rattle.wire_model.specs.Refusal.{Told}
use Rattle.data_fields.specs.declared.ChunkPayloadData.{ChunkPayloadData}
use Rattle.payload_model.specs.Queue.{row_of}
use Rattle.inflight_model.specs.Queue.{Given, After, after, pushed_no_check, marked_acked, marked_all, abandoned, popped, popped_up_to, got, counted, is_empty, num_bytes}
use Rattle.inflight_queue.specs.Queue.{queue_of, fresh}
use Rattle.inflight_queue.specs.declared.InFlightQueue.{InFlightQueue}
use Rattle.sctp_receive_result.specs.Result.{told, done}
use Rattle.one_answer.proofs.Only.{Only, named-one, both}
use Rattle.one_answer.proofs.States.{TsnWords, flight_struct_one, flight_words_one, flight_numbers_one}
use Rattle.one_answer.proofs.C.{Said, Word, same_said, said_one, done-one}

-- ── outcomes: the result with its out values, the counts, the table, and the numbers where they are changed ──

pub record FlightLeft (A : Type 0) : Type 0 where
  pub said : A
  pub queue : InFlightQueue
  pub table : List ℕ

pub record FlightLeftBoth (A : Type 0) : Type 0 where
  pub left : FlightLeft A
  pub messages : List ℕ

module _ {A S : Type 0} (says : S → Told A) (Fits : S → Type 0) (says-one : (r s : S) → Fits r → Fits s → says r ≡ says s → r ≡ s) where
  abbrev outcome : FlightLeft S → List ℕ → After A
  outcome o ms = after (says o.said) (queue_of o.queue o.table ms)

  left_one : (r s : FlightLeft S) (ms ns : List ℕ) → Fits r.said → Fits s.said → TsnWords r.table → TsnWords s.table → outcome r ms ≡ outcome s ns → r ≡ s
  left_one r s ms ns f g w v e =
      let l = ap (λ (x : After A). x.queue) e in
      both (λ (x : S) (y : InFlightQueue × List ℕ). record { said = x; queue = y.0; table = y.1 })
      (says-one r.said s.said f g (ap (λ (x : After A). x.told) e))
      (both (λ (x : InFlightQueue) (ws : List ℕ). (x, ws))
      (flight_struct_one r.queue s.queue r.table s.table ms ns l)
      (flight_words_one r.queue s.queue r.table s.table ms ns l w v))

  flight_one : (ms : List ℕ) {b : After A} → Only (λ (o : FlightLeft S). Fits o.said × (TsnWords o.table × (outcome o ms ≡ b)))
  flight_one ms r s p q = left_one r s ms ms p.0 q.0 p.1.0 q.1.0 (p.1.1 ∙ sym q.1.1)

  flight_both_one : {b : After A} → Only (λ (o : FlightLeftBoth S). Fits o.left.said × (TsnWords o.left.table × (outcome o.left o.messages ≡ b)))
  flight_both_one r s p q =
      let e : outcome r.left r.messages ≡ outcome s.left s.messages = p.1.1 ∙ sym q.1.1 in
      both (λ (x : FlightLeft S) (ms : List ℕ). record { left = x; messages = ms })
      (left_one r.left s.left r.messages s.messages p.0 q.0 p.1.0 q.1.0 e)
      (flight_numbers_one r.left.queue s.left.queue r.left.table s.left.table r.messages s.messages (ap (λ (x : After A). x.queue) e))

abbrev tells : {A : Type 0} → Said A → Told A
tells o = told o.result o.values

abbrev word : {A : Type 0} → Said A → Type 0
word o = Word o.result

-- ── the calls ──

pub c_inflight_queue_new_one : Only (λ (q : InFlightQueue). q ≡ fresh)
c_inflight_queue_new_one = named-one

module _ (self : InFlightQueue) (table : List ℕ) where
  pub c_inflight_queue_mark_as_acked_one : (tsn : ℕ) → Only (λ (o : FlightLeft (Said ℕ)). Word o.said.result × (TsnWords o.table
      × ((ms : List ℕ) → after (told o.said.result o.said.values) (queue_of o.queue o.table ms) ≡ marked_acked (queue_of self table ms) tsn)))
  c_inflight_queue_mark_as_acked_one tsn r s p q = flight_one tells word same_said [] r s (p.0, (p.1.0, p.1.1 [])) (q.0, (q.1.0, q.1.1 []))

  pub c_inflight_queue_mark_all_to_retransmit_one : Only (λ (o : FlightLeft ℤ). Word o.said × (TsnWords o.table
      × ((ms : List ℕ) → after (done o.said) (queue_of o.queue o.table ms) ≡ marked_all (queue_of self table ms))))
  c_inflight_queue_mark_all_to_retransmit_one r s p q = flight_one done Word done-one [] r s (p.0, (p.1.0, p.1.1 [])) (q.0, (q.1.0, q.1.1 []))

  pub c_inflight_queue_get_num_bytes_one : Only (λ (o : Said ℕ). Word o.result × ((ms : List ℕ) → told o.result o.values ≡ num_bytes (queue_of self table ms)))
  c_inflight_queue_get_num_bytes_one r s p q = said_one r s (p.0, p.1 []) (q.0, q.1 [])

  pub c_inflight_queue_len_one : Only (λ (o : Said ℕ). Word o.result × ((ms : List ℕ) → told o.result o.values ≡ counted (queue_of self table ms)))
  c_inflight_queue_len_one r s p q = said_one r s (p.0, p.1 []) (q.0, q.1 [])

  pub c_inflight_queue_is_empty_one : Only (λ (o : Said Bool). Word o.result × ((ms : List ℕ) → told o.result o.values ≡ is_empty (queue_of self table ms)))
  c_inflight_queue_is_empty_one r s p q = said_one r s (p.0, p.1 []) (q.0, q.1 [])

  module _ (messages : List ℕ) where
    pub c_inflight_queue_push_no_check_one : (chunk : ChunkPayloadData) (size message : ℕ) → Only (λ (o : FlightLeftBoth ℤ). Word o.left.said × (TsnWords o.left.table
        × (after (done o.left.said) (queue_of o.left.queue o.left.table o.messages) ≡ pushed_no_check (queue_of self table messages) (row_of chunk size) message)))
    c_inflight_queue_push_no_check_one chunk size message = flight_both_one done Word done-one

    pub c_inflight_queue_abandon_message_one : (message : ℕ) → Only (λ (o : FlightLeft (Said ℕ)). Word o.said.result × (TsnWords o.table
        × (after (told o.said.result o.said.values) (queue_of o.queue o.table messages) ≡ abandoned (queue_of self table messages) message)))
    c_inflight_queue_abandon_message_one message = flight_one tells word same_said messages

    pub c_inflight_queue_pop_one : (tsn : ℕ) → Only (λ (o : FlightLeftBoth (Said Given)). Word o.left.said.result × (TsnWords o.left.table
        × (after (told o.left.said.result o.left.said.values) (queue_of o.left.queue o.left.table o.messages) ≡ popped (queue_of self table messages) tsn)))
    c_inflight_queue_pop_one tsn = flight_both_one tells word same_said

    pub c_inflight_queue_pop_up_to_one : (tsn : ℕ) → Only (λ (o : FlightLeftBoth ℤ). Word o.left.said × (TsnWords o.left.table
        × (after (done o.left.said) (queue_of o.left.queue o.left.table o.messages) ≡ popped_up_to (queue_of self table messages) tsn)))
    c_inflight_queue_pop_up_to_one tsn = flight_both_one done Word done-one

    pub c_inflight_queue_get_one : (tsn : ℕ) → Only (λ (o : Said Given). Word o.result × (told o.result o.values ≡ got (queue_of self table messages) tsn))
    c_inflight_queue_get_one tsn = said_one
