-- No second answer fits: any two outcomes that meet the promise of a call are equal.
-- Assumes nothing.
use mathlib.Core.Path.{◌≡◌, refl, sym, ap, ◌∙◌}
use mathlib.Core.Bool.{false, cond}
use mathlib.Core.List.{List}
use Prim.Native.Nat.{ℕ}
use lib.Dec.{eqb}
use lib.ListN.{length}
use denote.Ref.{Bor}
use Rattle.std.specs.Prelude.{Result, Ok, Err}
use Rattle.wire_model.specs.Refusal as tells
use Rattle.wire_model.specs.Refusal.{Told, Written, written}
use Rattle.refusal.specs.declared.Refusal.{Refusal}
use Rattle.refusal.specs.declared.Refusal.TheVariants as reasons
use Rattle.refusal.specs.Told.{number, answer_told, count_told}
use Rattle.refusal.proofs.Reasons.{reason, its_reason, answer_back, answer_inverse}
use Rattle.wire.proofs.Exists.{Bytes}
use Rattle.chunk.specs.Layout.{Header, header}
use Rattle.chunk_selective_ack.specs.Layout.{Sack, sack, Block, block}
use Rattle.chunk.specs.Header.{HeaderFront, header_checks, kind_checks, header_of, header_told, header_as_told, header_read}
use Rattle.chunk.specs.Part.{Part, no_part, part_told}
use Rattle.data_fields.specs.Fields.{DataValues, no_data, data_held}
use Rattle.chunk_payload_data.specs.Data.{data_told, DataFront, data_checks, data_read, user_data}
use Rattle.chunk_selective_ack.specs.Sack.{sack_held, sack_told, SackFront, sack_read, blocks_part, duplicates_part, BlockFront, block_told, block_read, TsnFront, tsn_told, tsn_read}
use Rattle.chunk_forward_tsn.specs.Layout.{Pair, pair}
use Rattle.chunk_forward_tsn.specs.ForwardTsn.{Forward, forward, forward_told, ForwardFront, forward_read, pairs_part, PairFront, pair_told, pair_read}
use Rattle.chunk.specs.declared.chunk_header.ChunkHeader.{ChunkHeader}
use Rattle.chunk.specs.declared.chunk_header.Unfit.{Unfit}
use Rattle.chunk.specs.declared.chunk_header.Unfit.TheVariants.{Refused, Below}
use Rattle.data_fields.specs.declared.ChunkPayloadData.{ChunkPayloadData}
use Rattle.sack_fields.specs.declared.ChunkSelectiveAck.{ChunkSelectiveAck}
use Rattle.sack_entries.specs.declared.GapAckBlock.{GapAckBlock}
use Rattle.chunk_forward_tsn.specs.declared.ChunkForwardTsn.{ChunkForwardTsn}
use Rattle.forward_tsn_entries.specs.declared.ChunkForwardTsnStream.{ChunkForwardTsnStream}
use Rattle.chunk_theorems.proofs.Fronts.{header-some, data_some, sack-some, block-some, tsn-some, forward-some, pair-some}

-- the general lemma: a promise that fixes what an answer tells fixes the answer, if what it tells can be taken back
pub one_answer : {A B : Type 0} (tells : A → B) (back : B → A) → ((a : A) → back (tells a) ≡ a) → {r s : A} {b : B} → tells r ≡ b → tells s ≡ b → r ≡ s
one_answer tells back inverse {r} {s} p q = sym (inverse r) ∙ ap back (p ∙ sym q) ∙ inverse s

-- the same of an answer that may be refused, if what is accepted is known by its values
told_one : {T A : Type 0} (zero : A) (values : T → A) (of : A → T) → ((x : T) → of (values x) ≡ x) → {r s : Result T Refusal} {b : Told A} → answer_told zero values r ≡ b → answer_told zero values s ≡ b → r ≡ s
told_one zero values of known = one_answer (answer_told zero values) (answer_back of) (answer_inverse zero values of known)

-- ── what each answer has is known by its values ──

header-back : Header → ChunkHeader
header-back h = record { typ = h.kind; flags = h.flags; length = h.size }

header_known : (h : ChunkHeader) → header-back (header_of h) ≡ h
unfolding header-back
header_known h = refl

header_told-one : {r s : Result ChunkHeader Refusal} {b : Told Header} → header_told r ≡ b → header_told s ≡ b → r ≡ s
header_told-one = told_one (header 0 0 0) header_of header-back header_known

-- where a chunk below the least length has the number 20, which is no reason's, the two cases of an unfit one are told apart
not_20 : (e : Refusal) → eqb (number e) 20 ≡ false
not_20 reasons.Unsound = refl
not_20 reasons.ShortHeader = refl
not_20 reasons.BadLength = refl
not_20 reasons.OtherType = refl
not_20 reasons.ShortData = refl
not_20 reasons.ShortSack = refl
not_20 reasons.MessageTooLarge = refl
not_20 reasons.ShortBuffer = refl
not_20 reasons.NoRoom = refl
not_20 reasons.ChunkTooLarge = refl
not_20 reasons.ShortOutput = refl
not_20 reasons.OutOfRange = refl
not_20 reasons.BadForwardTsn = refl
not_20 reasons.ShortPacket = refl
not_20 reasons.WrongChecksum = refl
not_20 reasons.NoData = refl
not_20 reasons.BadCause = refl
not_20 reasons.OppositeTsn = refl
not_20 reasons.HeldTsn = refl
not_20 reasons.NoStream = refl

unfit_back : Told Header → Result ChunkHeader Unfit
unfit_back t = go t.refusal
  where
    go : tells.Refusal → Result ChunkHeader Unfit
    go tells.none = Ok (header-back t.values)
    go (tells.refuse k) = Err (cond (eqb k 20) Below (Refused (reason k)))

unfit_inverse : (r : Result ChunkHeader Unfit) → unfit_back (header_as_told 20 r) ≡ r
unfolding unfit_back header-back
unfit_inverse (Ok h) = refl
unfit_inverse (Err Below) = refl
unfit_inverse (Err (Refused e)) = rw (not_20 e, its_reason e)

data_back : DataValues → ChunkPayloadData
data_back v =
    record {
      unordered = v.unordered;
      beginning_fragment = v.beginning;
      ending_fragment = v.ending;
      immediate_sack = v.immediate;
      tsn = v.tsn;
      stream_identifier = v.stream;
      stream_sequence_number = v.ssn;
      payload_type = v.identifier;
    }

data_known : (p : ChunkPayloadData) → data_back (data_held p) ≡ p
unfolding data_back data_held
data_known p = refl

pub data_told-one : {r s : Result ChunkPayloadData Refusal} → data_told r ≡ data_told s → r ≡ s
data_told-one e = told_one no_data data_held data_back data_known e refl

sack-back : Sack → ChunkSelectiveAck
sack-back v = record { cumulative_tsn_ack = v.cumulative; advertised_receiver_window_credit = v.window; gap_ack_blocks = v.blocks; duplicate_tsns = v.duplicates }

sack_known : (s : ChunkSelectiveAck) → sack-back (sack_held s) ≡ s
unfolding sack-back sack_held
sack_known s = refl

pub sack-told-one : {r s : Result ChunkSelectiveAck Refusal} → sack_told r ≡ sack_told s → r ≡ s
sack-told-one e = told_one (sack 0 0 0 0) sack_held sack-back sack_known e refl

block_back : Block → GapAckBlock
block_back b = record { start = b.start; end = b.end }

forward-back : Forward → ChunkForwardTsn
forward-back f = record { new_cumulative_tsn = f.point; streams = f.pairs }

forward_known : (f : ChunkForwardTsn) → forward-back (forward f.new_cumulative_tsn f.streams) ≡ f
unfolding forward-back
forward_known f = refl

pub forward-told-one : {r s : Result ChunkForwardTsn Refusal} → forward_told r ≡ forward_told s → r ≡ s
forward-told-one e = told_one (forward 0 0) (λ (f : ChunkForwardTsn). forward f.new_cumulative_tsn f.streams) forward-back forward_known e refl

pair-back : Pair → ChunkForwardTsnStream
pair-back p = record { identifier = p.stream; sequence = p.ssn }

-- ── the readers: fields stand at the front of any bytes, and what they say is the answer ──

module _ (raw : List ℕ) (by : Bytes raw) where
  pub header-one : {r s : Result ChunkHeader Refusal}
      → ((f : HeaderFront raw) → header_told r ≡ header_read (header_checks (length raw) f.fields) f.fields)
      → ((f : HeaderFront raw) → header_told s ≡ header_read (header_checks (length raw) f.fields) f.fields) → r ≡ s
  header-one p q = let f = header-some raw by in header_told-one (p f) (q f)

  pub header_as_one : (kind least : ℕ) {r s : Result ChunkHeader Unfit}
      → ((short : ℕ) (f : HeaderFront raw) → header_as_told short r ≡ header_read (kind_checks kind least short (length raw) f.fields) f.fields)
      → ((short : ℕ) (f : HeaderFront raw) → header_as_told short s ≡ header_read (kind_checks kind least short (length raw) f.fields) f.fields) → r ≡ s
  header_as_one kind least p q = let f = header-some raw by in one_answer (header_as_told 20) unfit_back unfit_inverse (p 20 f) (q 20 f)

  pub data_head-one : {r s : Result ChunkHeader Refusal}
      → ((f : HeaderFront raw) → header_told r ≡ header_read (data_checks (length raw) f.fields) f.fields)
      → ((f : HeaderFront raw) → header_told s ≡ header_read (data_checks (length raw) f.fields) f.fields) → r ≡ s
  data_head-one p q = let f = header-some raw by in header_told-one (p f) (q f)

  pub data_one : {r s : Result ChunkPayloadData Refusal}
      → ((f : DataFront raw) → data_told r ≡ data_read (length raw) f.fields) → ((f : DataFront raw) → data_told s ≡ data_read (length raw) f.fields) → r ≡ s
  data_one p q = let f = data_some raw by in told_one no_data data_held data_back data_known (p f) (q f)

  pub sack-one : {r s : Result ChunkSelectiveAck Refusal}
      → ((f : SackFront raw) → sack_told r ≡ sack_read (length raw) f.fields) → ((f : SackFront raw) → sack_told s ≡ sack_read (length raw) f.fields) → r ≡ s
  sack-one p q = let f = sack-some raw by in told_one (sack 0 0 0 0) sack_held sack-back sack_known (p f) (q f)

  pub block_one : (i : ℕ) {r s : Result GapAckBlock Refusal}
      → ((f : BlockFront raw i) → block_told r ≡ block_read raw i f.fields) → ((f : BlockFront raw i) → block_told s ≡ block_read raw i f.fields) → r ≡ s
  unfolding block_back
  block_one i p q = let f = block-some raw i by in told_one (block 0 0) (λ (b : GapAckBlock). block b.start b.end) block_back (λ b. refl) (p f) (q f)

  pub tsn-one : (i : ℕ) {r s : Result ℕ Refusal}
      → ((f : TsnFront raw i) → tsn_told r ≡ tsn_read raw i f.fields) → ((f : TsnFront raw i) → tsn_told s ≡ tsn_read raw i f.fields) → r ≡ s
  tsn-one i p q = let f = tsn-some raw i by in told_one 0 (λ (t : ℕ). t) (λ (t : ℕ). t) (λ t. refl) (p f) (q f)

  pub forward-one : {r s : Result ChunkForwardTsn Refusal}
      → ((f : ForwardFront raw) → forward_told r ≡ forward_read (length raw) f.fields) → ((f : ForwardFront raw) → forward_told s ≡ forward_read (length raw) f.fields) → r ≡ s
  forward-one p q = let f = forward-some raw by in told_one (forward 0 0) (λ (f : ChunkForwardTsn). forward f.new_cumulative_tsn f.streams) forward-back forward_known (p f) (q f)

  pub pair_one : (i : ℕ) {r s : Result ChunkForwardTsnStream Refusal}
      → ((f : PairFront raw i) → pair_told r ≡ pair_read raw i f.fields) → ((f : PairFront raw i) → pair_told s ≡ pair_read raw i f.fields) → r ≡ s
  unfolding pair-back
  pair_one i p q = let f = pair-some raw i by in told_one (pair 0 0) (λ (s : ChunkForwardTsnStream). pair s.identifier s.sequence) pair-back (λ s. refl) (p f) (q f)

-- ── the parts: refusal, bytes and place ──

part_back : Part → Bor (List ℕ)
part_back p = record { now = p.bytes; ref_ptr = p.place }

pub part_one : {r s : Result (Bor (List ℕ)) Refusal} {t : Told Part} → part_told r ≡ t → part_told s ≡ t → r ≡ s
unfolding part_back
part_one = told_one no_part (λ (r : Bor (List ℕ)). record { bytes = r.now; place = r.ref_ptr }) part_back (λ p. refl)

module _ (raw : Bor (List ℕ)) (by : Bytes raw.now) {p q : Result (Bor (List ℕ)) Refusal} where
  pub user_data-one : ((f : HeaderFront raw.now) → part_told p ≡ user_data raw f.fields) → ((f : HeaderFront raw.now) → part_told q ≡ user_data raw f.fields) → p ≡ q
  user_data-one a b = let f = header-some raw.now by in part_one (a f) (b f)

  pub blocks-part-one : ((f : SackFront raw.now) → part_told p ≡ blocks_part raw f.fields) → ((f : SackFront raw.now) → part_told q ≡ blocks_part raw f.fields) → p ≡ q
  blocks-part-one a b = let f = sack-some raw.now by in part_one (a f) (b f)

  pub duplicates_part-one : ((f : SackFront raw.now) → part_told p ≡ duplicates_part raw f.fields) → ((f : SackFront raw.now) → part_told q ≡ duplicates_part raw f.fields) → p ≡ q
  duplicates_part-one a b = let f = sack-some raw.now by in part_one (a f) (b f)

  pub pairs-part-one : ((f : HeaderFront raw.now) → part_told p ≡ pairs_part raw f.fields) → ((f : HeaderFront raw.now) → part_told q ≡ pairs_part raw f.fields) → p ≡ q
  pairs-part-one a b = let f = header-some raw.now by in part_one (a f) (b f)

-- ── the writers: the answer and the buffer ──

pub written_one : {r s : Result ℕ Refusal} {out out' : List ℕ} {w : Written} → written (count_told r) out ≡ w → written (count_told s) out' ≡ w → (r ≡ s) × (out ≡ out')
written_one p q = (
  told_one 0 (λ (n : ℕ). n) (λ (n : ℕ). n) (λ n. refl) (ap (λ (w : Written). w.count) p) (ap (λ (w : Written). w.count) q),
  ap (λ (w : Written). w.out) (p ∙ sym q),
)
