-- No second outcome of a call of the reassembly queue fits its promise: the answer, the struct, the words of the table and the bytes of pool and buffer are fixed.
-- What is only lent to be read is at exit what it was, by its loan, and is no part of an outcome.
-- Assumes nothing.
use mathlib.Core.Path.{◌≡◌, refl, sym, ap, ◌∙◌}
use mathlib.Core.List.{List}
use Prim.Native.Nat.{ℕ}
use Rattle.wire_model.specs.Refusal.{Told}
use Rattle.data_fields.specs.declared.ChunkPayloadData.{ChunkPayloadData}
use Rattle.std.specs.Prelude.{Bool, Result, Option}
use Rattle.refusal.specs.declared.Refusal.{Refusal}
use Rattle.refusal.specs.Told.{flag_told, count_told}
use Rattle.chunks.specs.declared.Chunks.{Chunks}
use Rattle.reassembly_state.specs.Model.{Message}
use Rattle.reassembly_state.specs.State.{After, after, pushed, is_readable, Read, reads, read, forward_ordered, forward_unordered, num_bytes}
use Rattle.reassembly_queue.specs.Queue.{state_of, fresh}
use Rattle.reassembly_state.specs.Answers.{took_told, done_told}
use Rattle.reassembly_bounded.specs.Bounded.{forward_bounded}
use Rattle.reassembly_applicable.specs.Applicable.{applicable}
use Rattle.reassembly_applicable.specs.Answers.{applicable_told}
use Rattle.reassembly_queue.specs.declared.ReassemblyQueue.{ReassemblyQueue}
use Rattle.wire.proofs.Exists.{Bytes}
use Rattle.forward_tsn.specs.Applied.{Pairs, applied_to_stream}
use Rattle.forward_theorems.proofs.Pairs.{pairs-some}
use Rattle.one_answer.proofs.Only.{Only, named-one, both}
use Rattle.one_answer.proofs.Told.{flag_one, count-one, took_one, done-one, applicable-one}
use Rattle.one_answer.proofs.States.{FragmentWords, rq_struct_one, rq_words_one, rq_pool_one}

-- ── outcomes ──

-- what a call gives, and at exit the struct, the table's words and the pool's bytes
pub record Left (A : Type 0) : Type 0 where
  pub gives : A
  pub queue : ReassemblyQueue
  pub table : List ℕ
  pub pool : List ℕ

-- and the buffer's bytes
pub record LeftRead : Type 0 where
  pub gives : Result (Option Chunks) Refusal
  pub queue : ReassemblyQueue
  pub table : List ℕ
  pub pool : List ℕ
  pub buffer : List ℕ

-- ── an answer and a queue, beside table and pool ──

module _ {A B : Type 0} (told : A → Told B) (told-one : (b : Told B) → Only (λ (r : A). told r ≡ b)) where
  left_one : {b : After B} → Only (λ (o : Left A). FragmentWords o.table × (after (told o.gives) (state_of o.queue o.table o.pool) ≡ b))
  left_one r s p q =
      let e : after (told r.gives) (state_of r.queue r.table r.pool) ≡ after (told s.gives) (state_of s.queue s.table s.pool) = p.1 ∙ sym q.1 in
      let l = ap (λ (x : After B). x.state) e in
      both (λ (g : A × ReassemblyQueue) (lent : List ℕ × List ℕ). record { gives = g.0; queue = g.1; table = lent.0; pool = lent.1 })
      (both (λ (g : A) (k : ReassemblyQueue). (g, k)) (told-one (told s.gives) r.gives s.gives (ap (λ (x : After B). x.told) e) refl) (rq_struct_one r.queue s.queue r.table s.table r.pool s.pool l))
      (both (λ (ws pool : List ℕ). (ws, pool)) (rq_words_one r.queue s.queue r.table s.table r.pool s.pool l p.0 q.0) (rq_pool_one r.queue s.queue r.table s.table r.pool s.pool l))

-- ── the calls ──

pub rq_new_one : (si max_message_size : ℕ) → Only (λ (r : ReassemblyQueue). r ≡ fresh si max_message_size)
rq_new_one si max_message_size = named-one

module _ (self : ReassemblyQueue) (table pool : List ℕ) where
  pub rq_push_one : (chunk : ChunkPayloadData) (user_data : List ℕ)
      → Only (λ (o : Left (Result Bool Refusal)). FragmentWords o.table × (after (flag_told o.gives) (state_of o.queue o.table o.pool) ≡ pushed (state_of self table pool) chunk user_data))
  rq_push_one chunk user_data = left_one flag_told (λ b. flag_one)

  pub rq_is_readable_one : Only (λ (r : Result Bool Refusal). flag_told r ≡ is_readable (state_of self table pool))
  rq_is_readable_one = flag_one

  pub rq_read_one : (buffer : List ℕ)
      → Only (λ (o : LeftRead). FragmentWords o.table × (reads (took_told o.gives) (state_of o.queue o.table o.pool) o.buffer ≡ read (state_of self table pool) buffer))
  rq_read_one buffer r s p q =
      let left : LeftRead → Left (Result (Option Chunks) Refusal) = λ (o : LeftRead). record { gives = o.gives; queue = o.queue; table = o.table; pool = o.pool } in
      let leaves : Read → After Message = λ (x : Read). after x.told x.state in
      both (λ (l : Left (Result (Option Chunks) Refusal)) (b : List ℕ). record { gives = l.gives; queue = l.queue; table = l.table; pool = l.pool; buffer = b })
      (left_one took_told (λ b. took_one) (left r) (left s) (p.0, ap leaves p.1) (q.0, ap leaves q.1))
      (ap (λ (x : Read). x.buffer) (p.1 ∙ sym q.1))

  pub rq_forward_tsn_for_ordered_one : (last_ssn : ℕ)
      → Only (λ (o : Left (Result (Unit {0}) Refusal)). FragmentWords o.table × (after (done_told o.gives) (state_of o.queue o.table o.pool) ≡ forward_ordered (state_of self table pool) last_ssn))
  rq_forward_tsn_for_ordered_one last_ssn = left_one done_told (λ b. done-one)

  pub rq_forward_tsn_for_unordered_one : (new_cumulative_tsn : ℕ)
      → Only (λ (o : Left (Result (Unit {0}) Refusal)). FragmentWords o.table × (after (done_told o.gives) (state_of o.queue o.table o.pool) ≡ forward_unordered (state_of self table pool) new_cumulative_tsn))
  rq_forward_tsn_for_unordered_one new_cumulative_tsn = left_one done_told (λ b. done-one)

  pub rq_forward_tsn_for_ordered_bounded_one : (last_ssn new_cumulative_tsn : ℕ)
      → Only (λ (o : Left (Result (Unit {0}) Refusal)). FragmentWords o.table × (after (done_told o.gives) (state_of o.queue o.table o.pool) ≡ forward_bounded (state_of self table pool) last_ssn new_cumulative_tsn))
  rq_forward_tsn_for_ordered_bounded_one last_ssn new_cumulative_tsn = left_one done_told (λ b. done-one)

  pub rq_applicable_forward_tsn_for_ordered_bounded_one : (last_ssn new_cumulative_tsn peer_last_tsn : ℕ) → Only (λ (r : Result (Option ℕ) Refusal). applicable_told r ≡ applicable (state_of self table pool) last_ssn new_cumulative_tsn peer_last_tsn)
  rq_applicable_forward_tsn_for_ordered_bounded_one last_ssn new_cumulative_tsn peer_last_tsn = applicable-one

  pub rq_get_num_bytes_one : Only (λ (r : Result ℕ Refusal). count_told r ≡ num_bytes (state_of self table pool))
  rq_get_num_bytes_one = count-one

  -- ── a FORWARD TSN chunk applied ──

  pub forward-tsn_apply_to_stream_one : (cumulative_tsn new_cumulative_tsn : ℕ) (streams : List ℕ) → Bytes streams
      → Only (λ (o : Left (Result (Unit {0}) Refusal)). FragmentWords o.table
      × ((f : Pairs streams) → after (done_told o.gives) (state_of o.queue o.table o.pool) ≡ applied_to_stream (state_of self table pool) cumulative_tsn new_cumulative_tsn f.streams f.ssns))
  forward-tsn_apply_to_stream_one cumulative_tsn new_cumulative_tsn streams by r s p q =
      let f = pairs-some streams by in
      left_one done_told (λ b. done-one) r s (p.0, p.1 f) (q.0, q.1 f)
