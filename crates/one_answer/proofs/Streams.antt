-- No second outcome of a call on eight streams fits its promise: the answer, the struct, the words of the table and the bytes of pool and buffer are fixed.
-- What is only lent to be read is at exit what it was, by its loan, and is no part of an outcome.
-- Assumes nothing.
use mathlib.Core.Path.{◌≡◌, refl, sym, ap, ◌∙◌}
use mathlib.Core.List.{List}
use Prim.Native.Nat.{ℕ}
use lib.ListN.{get_or}
use Rattle.wire_model.specs.Refusal.{Told}
use Rattle.table.proofs.Columns.{injective}
use Rattle.data_fields.specs.declared.ChunkPayloadData.{ChunkPayloadData}
use Rattle.std.specs.Prelude.{Bool, Result, Option}
use Rattle.refusal.specs.declared.Refusal.{Refusal}
use Rattle.refusal.specs.Told.{flag_told, count_told}
use Rattle.chunks.specs.declared.Chunks.{Chunks}
use Rattle.reassembly_state.specs.Limits.{frags_most}
use Rattle.reassembly_state.specs.Model.{Message}
use Rattle.reassembly_state.specs.Answers.{took_told, done_told}
use Rattle.reassembly_state.specs.declared.Counts.{Counts}
use Rattle.reassembly_applicable.specs.Answers.{applicable_told}
use Rattle.streams_model.specs.Shape.{no_counts, fresh_streams}
use Rattle.streams_model.specs.State.{State, state_of, After, after, pushed, is_readable, Read, reads, read, forward_ordered, forward_unordered, forward_bounded, applicable, num_bytes}
use Rattle.streams_model.specs.declared.Streams.{Streams}
use Rattle.one_answer.proofs.Only.{Only, named-one, both}
use Rattle.one_answer.proofs.Told.{flag_one, count-one, took_one, done-one, applicable-one}
use Rattle.one_answer.proofs.States.{FragmentWords}

-- ── outcomes ──

-- what a call gives, and at exit the struct, the table's words and the pool's bytes
pub record Left (A : Type 0) : Type 0 where
  pub gives : A
  pub streams : Streams
  pub table : List ℕ
  pub pool : List ℕ

-- and the buffer's bytes
pub record LeftRead : Type 0 where
  pub gives : Result (Option Chunks) Refusal
  pub streams : Streams
  pub table : List ℕ
  pub pool : List ℕ
  pub buffer : List ℕ

-- the struct of eight counts
abbrev struct_of : List Counts → Streams
struct_of qs =
    record {
      s0 = get_or qs 0 no_counts;
      s1 = get_or qs 1 no_counts;
      s2 = get_or qs 2 no_counts;
      s3 = get_or qs 3 no_counts;
      s4 = get_or qs 4 no_counts;
      s5 = get_or qs 5 no_counts;
      s6 = get_or qs 6 no_counts;
      s7 = get_or qs 7 no_counts;
    }

-- ── an answer and the streams, beside table and pool ──

module _ {A B : Type 0} (told : A → Told B) (told-one : (b : Told B) → Only (λ (r : A). told r ≡ b)) where
  left_one : {b : After B} → Only (λ (o : Left A). FragmentWords o.table × (after (told o.gives) (state_of o.streams o.table o.pool) ≡ b))
  left_one r s p q =
      let e : after (told r.gives) (state_of r.streams r.table r.pool) ≡ after (told s.gives) (state_of s.streams s.table s.pool) = p.1 ∙ sym q.1 in
      let l = ap (λ (x : After B). x.state) e in
      both (λ (g : A × Streams) (lent : List ℕ × List ℕ). record { gives = g.0; streams = g.1; table = lent.0; pool = lent.1 })
      (both (λ (g : A) (k : Streams). (g, k)) (told-one (told s.gives) r.gives s.gives (ap (λ (x : After B). x.told) e) refl) (ap (λ (x : State). struct_of x.queues) l))
      (both (λ (ws pool : List ℕ). (ws, pool)) (injective frags_most r.table s.table p.0 q.0 (ap (λ (x : State). x.rows) l)) (ap (λ (x : State). x.pool) l))

-- ── the calls ──

pub streams_new_one : (max_message_size : ℕ) → Only (λ (r : Streams). r ≡ fresh_streams max_message_size)
streams_new_one max_message_size = named-one

module _ (streams : Streams) (table pool : List ℕ) (stream : ℕ) where
  pub streams_push_one : (chunk : ChunkPayloadData) (user_data : List ℕ)
      → Only (λ (o : Left (Result Bool Refusal)). FragmentWords o.table × (after (flag_told o.gives) (state_of o.streams o.table o.pool) ≡ pushed (state_of streams table pool) stream chunk user_data))
  streams_push_one chunk user_data = left_one flag_told (λ b. flag_one)

  pub streams_is_readable_one : Only (λ (r : Result Bool Refusal). flag_told r ≡ is_readable (state_of streams table pool) stream)
  streams_is_readable_one = flag_one

  pub streams_read_one : (buffer : List ℕ)
      → Only (λ (o : LeftRead). FragmentWords o.table × (reads (took_told o.gives) (state_of o.streams o.table o.pool) o.buffer ≡ read (state_of streams table pool) stream buffer))
  streams_read_one buffer r s p q =
      let left : LeftRead → Left (Result (Option Chunks) Refusal) = λ (o : LeftRead). record { gives = o.gives; streams = o.streams; table = o.table; pool = o.pool } in
      let leaves : Read → After Message = λ (x : Read). after x.told x.state in
      both (λ (l : Left (Result (Option Chunks) Refusal)) (b : List ℕ). record { gives = l.gives; streams = l.streams; table = l.table; pool = l.pool; buffer = b })
      (left_one took_told (λ b. took_one) (left r) (left s) (p.0, ap leaves p.1) (q.0, ap leaves q.1))
      (ap (λ (x : Read). x.buffer) (p.1 ∙ sym q.1))

  pub streams_forward_tsn_for_ordered_one : (last_ssn : ℕ)
      → Only (λ (o : Left (Result (Unit {0}) Refusal)). FragmentWords o.table × (after (done_told o.gives) (state_of o.streams o.table o.pool) ≡ forward_ordered (state_of streams table pool) stream last_ssn))
  streams_forward_tsn_for_ordered_one last_ssn = left_one done_told (λ b. done-one)

  pub streams_forward_tsn_for_unordered_one : (new_cumulative_tsn : ℕ)
      → Only (λ (o : Left (Result (Unit {0}) Refusal)). FragmentWords o.table × (after (done_told o.gives) (state_of o.streams o.table o.pool) ≡ forward_unordered (state_of streams table pool) stream new_cumulative_tsn))
  streams_forward_tsn_for_unordered_one new_cumulative_tsn = left_one done_told (λ b. done-one)

  pub streams_forward_tsn_for_ordered_bounded_one : (last_ssn new_cumulative_tsn : ℕ)
      → Only (λ (o : Left (Result (Unit {0}) Refusal)). FragmentWords o.table × (after (done_told o.gives) (state_of o.streams o.table o.pool) ≡ forward_bounded (state_of streams table pool) stream last_ssn new_cumulative_tsn))
  streams_forward_tsn_for_ordered_bounded_one last_ssn new_cumulative_tsn = left_one done_told (λ b. done-one)

  pub streams_applicable_forward_tsn_for_ordered_bounded_one : (last_ssn new_cumulative_tsn peer_last_tsn : ℕ) → Only (λ (r : Result (Option ℕ) Refusal). applicable_told r ≡ applicable (state_of streams table pool) stream last_ssn new_cumulative_tsn peer_last_tsn)
  streams_applicable_forward_tsn_for_ordered_bounded_one last_ssn new_cumulative_tsn peer_last_tsn = applicable-one

  pub streams_get_num_bytes_one : Only (λ (r : Result ℕ Refusal). count_told r ≡ num_bytes (state_of streams table pool) stream)
  streams_get_num_bytes_one = count-one
