-- What each answer tells can be taken back: no two values of its type tell the same.
-- Assumes nothing.
use mathlib.Core.Path.{◌≡◌, refl}
use mathlib.Core.Bool.{Bool, true, false, cond}
use Prim.Native.Nat.{ℕ}
use Rattle.std.specs.Prelude.{Option, Some, None, Result}
use Rattle.wire_model.specs.Refusal.{Told}
use Rattle.refusal.specs.Told.{answer_told, flag_told, count_told}
use Rattle.refusal.specs.declared.Refusal.{Refusal as Refused}
use Rattle.refusal.proofs.Reasons.{answer_back, answer_inverse}
use Rattle.data_fields.specs.Fields.{DataValues, data_held}
use Rattle.data_fields.specs.declared.ChunkPayloadData.{ChunkPayloadData}
use Rattle.payload_model.specs.Queue.{Found, nothing, Last, Handed, zeros}
use Rattle.payload_model.specs.Answers.{queued_found, chunk_found, last_found, taken_told, last_told, done_told, handed_told}
use Rattle.payload_model.specs.declared.Queued.{Queued}
use Rattle.payload_model.specs.declared.Duplicates.{Duplicates}
use Rattle.chunks.specs.Message as hand
use Rattle.chunks.specs.declared.Chunks.{Chunks}
use Rattle.chunks.specs.declared.Part.{Part}
use Rattle.reassembly_state.specs.Model.{Message}
use Rattle.reassembly_state.specs.Answers as rq
use Rattle.set_reach.specs.Applicable as applying
use Rattle.reassembly_applicable.specs.Answers.{ssn_found, applicable_told}
use Rattle.one_answer.proofs.Only.{Only, only}

-- ── a Result, if what is accepted is known by its values ──

pub answer-one :
    {T A : Type 0} (zero : A) (values : T → A) (of : A → T) → ((x : T) → of (values x) ≡ x) →
    {b : Told A} → Only (λ (r : Result T Refused). answer_told zero values r ≡ b)
answer-one zero values of known = only (answer_told zero values) (answer_back of) (answer_inverse zero values of known)

pub flag_one : {b : Told Bool} → Only (λ (r : Result Bool Refused). flag_told r ≡ b)
flag_one = answer-one false (λ (b : Bool). b) (λ (b : Bool). b) (λ (b : Bool). refl)

pub count-one : {b : Told ℕ} → Only (λ (r : Result ℕ Refused). count_told r ≡ b)
count-one = answer-one 0 (λ (n : ℕ). n) (λ (n : ℕ). n) (λ (n : ℕ). refl)

-- ── of the TSN queue ──

-- a chunk, by its values
abbrev pub chunk_held : DataValues → ChunkPayloadData
chunk_held v =
    record {
      unordered = v.unordered;
      beginning_fragment = v.beginning;
      ending_fragment = v.ending;
      immediate_sack = v.immediate;
      tsn = v.tsn;
      stream_identifier = v.stream;
      stream_sequence_number = v.ssn;
      payload_type = v.identifier;
    }

-- as it is held
abbrev pub queued_back : Found → Queued
queued_back f = record { chunk = chunk_held f.values; size = f.size }

pub queued-known : (q : Queued) → queued_back (queued_found q) ≡ q
unfolding queued_found data_held
queued-known q = refl

abbrev chunk_taken : Found → Option Queued
chunk_taken f = cond f.found (Some (queued_back f)) None

chunk-known : (q : Option Queued) → chunk_taken (chunk_found q) ≡ q
unfolding queued_found data_held
chunk-known (Some q) = refl
chunk-known None = refl

pub taken-one : {b : Told Found} → Only (λ (r : Result (Option Queued) Refused). taken_told r ≡ b)
taken-one = answer-one nothing chunk_found chunk_taken chunk-known

abbrev last_taken : Last → Option ℕ
last_taken l = cond l.found (Some l.tsn) None

last-known : (t : Option ℕ) → last_taken (last_found t) ≡ t
last-known (Some t) = refl
last-known None = refl

pub last_one : {b : Told Last} → Only (λ (r : Result (Option ℕ) Refused). last_told r ≡ b)
last_one = answer-one (record { found = false; tsn = 0 }) last_found last_taken last-known

pub done-one : {b : Told Bool} → Only (λ (r : Result (Unit {0}) Refused). done_told r ≡ b)
done-one = answer-one false (λ (u : Unit {0}). true) (λ (b : Bool). tt) (λ (u : Unit {0}). refl)

-- the log handed out
pub handed-one : {b : Told Handed} → Only (λ (r : Result Duplicates Refused). handed_told r ≡ b)
handed-one =
    answer-one (record { count = 0; tsns = zeros }) (λ (d : Duplicates). record { count = d.count; tsns = d.tsns })
    (λ (h : Handed). record { count = h.count; tsns = h.tsns }) (λ (d : Duplicates). refl)

-- ── of the message in hand ──

abbrev place_taken : hand.Place → Option Part
place_taken p = cond p.comes (Some (record { start = p.start; size = p.size })) None

piece_back : (r : Option Part) → place_taken (hand.place_of r) ≡ r
piece_back (Some p) = refl
piece_back None = refl

pub piece-one : {b : Told hand.Place} → Only (λ (r : Result (Option Part) Refused). hand.piece_told r ≡ b)
piece-one = answer-one _ _ place_taken piece_back

-- ── of the reassembly queue ──

abbrev in_hand : Message → Chunks
in_hand m = record { ssn = m.ssn; ppi = m.ppi; size = m.size; position = m.position; given = m.given }

abbrev message_taken : Message → Option Chunks
message_taken m = cond m.comes (Some (in_hand m)) None

took-back : (r : Option Chunks) → message_taken (rq.message_found r) ≡ r
unfolding rq.message_held
took-back (Some c) = refl
took-back None = refl

pub took_one : {b : Told Message} → Only (λ (r : Result (Option Chunks) Refused). rq.took_told r ≡ b)
took_one = answer-one _ _ message_taken took-back

abbrev applicable_taken : applying.Found → Option ℕ
applicable_taken f = cond f.found (Some f.ssn) None

applicable-back : (r : Option ℕ) → applicable_taken (ssn_found r) ≡ r
applicable-back (Some n) = refl
applicable-back None = refl

pub applicable-one : {b : Told applying.Found} → Only (λ (r : Result (Option ℕ) Refused). applicable_told r ≡ b)
applicable-one = answer-one _ _ applicable_taken applicable-back
