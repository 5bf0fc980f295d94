-- DATA both ways: what is accepted is a chunk of the fields that come back, what is such a chunk is accepted, and the round trips.
-- Assumes nothing.
use mathlib.Core.Path.{◌≡◌, refl, sym, ap, ◌∙◌}
use mathlib.Core.Bool.{Bool, true, false}
use mathlib.Core.List.{List, ◌++◌}
use Prim.Native.Nat.{ℕ, ◌+◌, ◌-◌, ◌*◌, ◌/◌, ◌%◌, ◌^◌, ◌<◌, ◌≤◌}
use native.Mathlib.Omega.{arith}
use borrow.Author.Tests.{ne_eqb, eqb-true, eqb-false, le-ltb}
use lib.Dec.{eqb}
use lib.ListN.{length, take, drop, length-drop}
use lib.Seq.{take_all, take_at}
use denote.Ref.{Bor}
use Rattle.std.specs.Prelude.{Result, Ok}
use Rattle.wire_model.specs.BigEndian.{over}
use Rattle.wire_model.specs.Refusal.{none, says, first, Told, written}
use Rattle.refusal.specs.declared.Refusal.{Refusal}
use Rattle.chunk.specs.Layout.{Header, header}
use Rattle.data_fields.specs.Fields.{Data}
use Rattle.chunk_payload_data.specs.Layout.{DataFits, data_value, data_chunk}
use Rattle.wire.proofs.Reading.{accepted, first-passed, none_holds, none_both}
use Rattle.wire.proofs.Writing.{write_done}
use Rattle.chunk.specs.Header.{HeaderFront, kind_checks, Headed, HeadedFits}
use Rattle.chunk.specs.Part.{Part}
use Rattle.data_fields.specs.Fields.{flag_set, weighed, DataValues, no_data, data_shown, data_held, data_flags, data_sent}
use Rattle.payload_identifier.specs.Identifier.{identifier_number, identifier_name}
use Rattle.chunk_payload_data.specs.Data.{data_told, DataFront, data_only, data_checks, data_read, user_data, size_checks, data_written}
use Rattle.data_fields.specs.declared.ChunkPayloadData.{ChunkPayloadData}
use Rattle.payload_identifier.specs.declared.PayloadProtocolIdentifier.{PayloadProtocolIdentifier}
use Rattle.payload_identifier.specs.declared.PayloadProtocolIdentifier.TheVariants.{Dcep, String, Binary, StringEmpty, BinaryEmpty, Unknown}
use Rattle.chunk.proofs.Headers.{header-front, passes, headed_accepted, chunk_front, chunk-behind, chunk_passes, part-back}
use Rattle.data_marshal.proofs.DataBytes.{data_value-length}
use Rattle.chunk_theorems.proofs.OneAnswer.{data_told-one}

-- ── what is accepted is a DATA chunk of the fields in front and of the user data ──

pub data_accepted : (raw : List ℕ) (f : DataFront raw) → first (data_checks (length raw) f.fields.header) ≡ none
    → take f.fields.header.size raw ≡ data_chunk f.fields.header.flags f.fields.fields (take (f.fields.header.size - 16) (drop 16 raw))
data_accepted raw f e =
    let h = f.fields.header in
    headed_accepted data_value DataFits 0 12 f (data_value-length f.fields.fields) (passes 0 16 4 (length raw) h (none_both (kind_checks 0 16 4 (length raw) h) (data_only h) e).0)

-- ── what is a DATA chunk of some fields and user data, whatever follows, is accepted with them ──

-- fields and data that a chunk can have: each fits its place, the data has a byte, and the length fits 16 bits
pub record Sendable (flags : ℕ) (d : Data) (user : List ℕ) : Type 0 where
  pub flag : flags < 2 ^ 8
  pub fits : DataFits d
  pub some : 0 < length user
  pub few : length user ≤ 65519

module _ (flags : ℕ) (d : Data) (user rest : List ℕ) (s : Sendable flags d user) where
  abbrev bytes : List ℕ
  bytes = data_chunk flags d user ++ rest

  abbrev head : Headed Data
  head = record { header = header 0 flags (16 + length user); fields = d }

  pub fits : HeadedFits DataFits head
  fits = record { header = record { kind = omega arith; flags = s.flag; size = omega (arith, s.few) }; fields = s.fits }

  -- the fields in front of it are its own
  abbrev pub data_front : DataFront bytes
  data_front = chunk_front data_value 0 flags 12 d user rest (data_value-length d) fits

  -- nothing is refused
  pub data_passes : first (data_checks (length bytes) head.header) ≡ none
  data_passes =
      first-passed (kind_checks 0 16 4 (length bytes) head.header) (data_only head.header) (chunk_passes data_value 0 flags 12 d user rest (data_value-length d) 4)
      ∙ rw (ne_eqb (16 + length user) 16 (λ e. omega (arith, s.some, e)))

  -- so what meets the promise of `unmarshal` has its fields
  pub data_read-back : (r : Result ChunkPayloadData Refusal) → ((f : DataFront bytes) → data_told r ≡ data_read (length bytes) f.fields) → data_told r ≡ says none (data_shown flags d)
  unfolding data_read
  data_read-back r promise = rw data_passes at (promise data_front)

-- and what meets the promise of `user_data` has its user data
pub user_data-back : (flags : ℕ) (d : Data) (user rest : List ℕ) → Sendable flags d user → (raw : Bor (List ℕ)) → raw.now ≡ data_chunk flags d user ++ rest
    → {p : Told Part} → ((f : HeaderFront raw.now) → p ≡ user_data raw f.fields) → (p.refusal ≡ none) × (p.values.bytes ≡ user)
unfolding user_data
user_data-back flags d user rest s raw e {p} promise =
    let f = header-front data_value DataFits 12 (data_front flags d user rest s) in
    let g : HeaderFront raw.now = record { fields = f.fields; fits = f.fits; begins = rw e f.begins } in
    let q = part-back (λ (lent : ℕ). data_checks lent f.fields) 16 (16 + length user - 16) raw e (data_passes flags d user rest s) (promise g) in
    let cut : 16 + length user - 16 ≡ length user = omega arith in
    (q.0, q.1 ∙ rw (cut, chunk-behind data_value 0 flags 12 d user rest (data_value-length d)) (take_at user rest (length user) refl))

-- ── reading what was written gives the fields ──

-- a flag as the number 0 or 1
bit : Bool → ℕ
bit b = weighed 1 b

bit_le : (b : Bool) → bit b ≤ 1
unfolding bit
bit_le true = omega arith
bit_le false = omega arith

bit_set : (b : Bool) → eqb (bit b) 1 ≡ b
unfolding bit
bit_set true = refl
bit_set false = refl

weighed_bit : (w : ℕ) (b : Bool) → weighed w b ≡ w * bit b
unfolding bit
weighed_bit w true = omega arith
weighed_bit w false = omega arith

-- the flags byte of a struct says its flags
record Flags (n : ℕ) (e b u i : Bool) : Type 0 where
  small : n < 2 ^ 8
  unordered : flag_set 4 n ≡ u
  beginning : flag_set 2 n ≡ b
  ending : flag_set 1 n ≡ e
  immediate : flag_set 8 n ≡ i

flags_shown : (e b u i : Bool) → Flags (weighed 1 e + weighed 2 b + weighed 4 u + weighed 8 i) e b u i
flags_shown e b u i =
    let n = weighed 1 e + weighed 2 b + weighed 4 u + weighed 8 i in
    let sum : n ≡ bit e + 2 * bit b + 4 * bit u + 8 * bit i = omega (arith, weighed_bit 1 e, weighed_bit 2 b, weighed_bit 4 u, weighed_bit 8 i) in
    let one = bit_le e in
    let two = bit_le b in
    let three = bit_le u in
    let four = bit_le i in
    let from-b : n / 2 ≡ bit b + 2 * bit u + 4 * bit i = omega arith in
    let from-u : n / 4 ≡ bit u + 2 * bit i = omega arith in
    let from-i : n / 8 ≡ bit i = omega arith in
    let at-e : n / 1 % 2 ≡ bit e = omega arith in
    let at_b : n / 2 % 2 ≡ bit b = rw from-b (omega arith) in
    let at-u : n / 4 % 2 ≡ bit u = rw from-u (omega arith) in
    let at_i : n / 8 % 2 ≡ bit i = rw from-i (omega arith) in
    record {
      small = omega arith;
      unordered = rw at-u (bit_set u);
      beginning = rw at_b (bit_set b);
      ending = rw at-e (bit_set e);
      immediate = rw at_i (bit_set i);
    }

module _ (p : ChunkPayloadData) where
  -- what is sent of a struct is what it holds
  pub sent_shown : data_shown (data_flags p) (data_sent p) ≡ data_held p
  unfolding data_shown data_flags data_sent data_held
  sent_shown =
      let f = flags_shown p.ending_fragment p.beginning_fragment p.unordered p.immediate_sack in
      rw (f.unordered, f.beginning, f.ending, f.immediate)

  -- read behind a write into any buffer, the struct comes back
  pub data_written-read : (user rest : List ℕ) → Sendable (data_flags p) (data_sent p) user → (r : Result ChunkPayloadData Refusal)
      → (let raw = data_chunk (data_flags p) (data_sent p) user ++ rest in (f : DataFront raw) → data_told r ≡ data_read (length raw) f.fields)
      → r ≡ Ok p
  data_written-read user rest s r promise = data_told-one (data_read-back (data_flags p) (data_sent p) user rest s r promise ∙ ap (says none) sent_shown)

-- ── writing what was read gives the same bytes ──

-- "whenever the upper flag bits are 0 and nothing follows the length"
pub record Plain (h : Header) (raw : List ℕ) : Type 0 where
  pub flags : h.flags < 16
  pub last : h.size ≡ length raw

-- a flag that is read weighs what it stood for
weighed-read : (k x : ℕ) → weighed k (eqb (x % 2) 1) ≡ k * (x % 2)
weighed-read k x = go (eqb (x % 2) 1) refl
  where
    go : (b : Bool) → eqb (x % 2) 1 ≡ b → weighed k b ≡ k * (x % 2)
    go true e = rw (eqb-true (x % 2) 1 e) (omega arith)
    go false e = let odd = eqb-false (x % 2) 1 e in let even : x % 2 ≡ 0 = omega arith in rw even (omega arith)

-- flags below 16 are what their bits weigh
flags_back : (n : ℕ) → n < 16 → weighed 1 (flag_set 1 n) + weighed 2 (flag_set 2 n) + weighed 4 (flag_set 4 n) + weighed 8 (flag_set 8 n) ≡ n
flags_back n h =
    let one : n / 1 % 2 + 2 * (n / 2) ≡ n = omega arith in
    let two : n / 2 % 2 + 2 * (n / 4) ≡ n / 2 = omega arith in
    let four : n / 4 % 2 + 2 * (n / 8) ≡ n / 4 = omega arith in
    let eight : n / 8 % 2 ≡ n / 8 = omega arith in
    rw (weighed-read 1 (n / 1), weighed-read 2 (n / 2), weighed-read 4 (n / 4), weighed-read 8 (n / 8)) (omega (arith, one, two, four, eight))

pub data_read-written : (raw : List ℕ) (f : DataFront raw) → first (data_checks (length raw) f.fields.header) ≡ none → Plain f.fields.header raw
    → (p : ChunkPayloadData) → data_held p ≡ data_shown f.fields.header.flags f.fields.fields → data_chunk (data_flags p) (data_sent p) (drop 16 raw) ≡ raw
unfolding data_held data_shown data_flags data_sent
data_read-written raw f e plain p held =
    let h = f.fields.header in
    let d = f.fields.fields in
    let bits : data_flags p ≡ h.flags =
    rw (ap (λ (v : DataValues). v.unordered) held, ap (λ (v : DataValues). v.beginning) held, ap (λ (v : DataValues). v.ending) held, ap (λ (v : DataValues). v.immediate) held)
    (flags_back h.flags plain.flags) in
    let sent : data_sent p ≡ d =
    rw (ap (λ (v : DataValues). v.tsn) held, ap (λ (v : DataValues). v.stream) held, ap (λ (v : DataValues). v.ssn) held, ap (λ (v : DataValues). v.identifier) held) in
    let user : take (h.size - 16) (drop 16 raw) ≡ drop 16 raw = take_all (h.size - 16) (drop 16 raw) (rw length-drop (omega (arith, plain.last))) in
    let all : take h.size raw ≡ raw = take_all h.size raw (omega (arith, plain.last)) in
    rw (bits, sent) (ap (data_chunk h.flags d) (sym user) ∙ sym (data_accepted raw f e) ∙ all)

-- "Reading then writing now returns the same bytes": what meets the promise of `unmarshal` with fields, written with the data behind them into any buffer
-- that has room, leaves the chunk's own bytes at its front
pub data_same_bytes : (raw : List ℕ) (f : DataFront raw) → Plain f.fields.header raw
    → (p : ChunkPayloadData) → ((g : DataFront raw) → data_told (Ok p) ≡ data_read (length raw) g.fields)
    → (out : List ℕ) → length raw ≤ length out → data_written p (drop 16 raw) out ≡ written (says none (length raw)) (over out raw)
unfolding data_read data_written
data_same_bytes raw f plain p promise out room =
    let h = f.fields.header in
    let a = accepted no_data (data_shown h.flags f.fields.fields) (first (data_checks (length raw) h)) (promise f) in
    let no = none_both (kind_checks 0 16 4 (length raw) h) (data_only h) a.0 in
    let least = (passes 0 16 4 (length raw) h no.0).enough in
    let more = eqb-false h.size 16 (none_holds (data_only h) no.1).0 in
    let user : length (drop 16 raw) ≡ length raw - 16 = length-drop 16 raw in
    let some : length (drop 16 raw) ≡ 0 → ⊥ = λ e. more (omega (arith, least, plain.last, user, e)) in
    let few : length (drop 16 raw) ≤ 65519 = omega (arith, plain.last, user, f.fits.header.size) in
    rw (data_read-written raw f a.0 plain p a.1)
    (sym (write_done (size_checks (length (drop 16 raw))) raw out (rw (ne_eqb _ 0 some, le-ltb 65519 _ few)) refl room refl))

-- ── the names are a reading of the number ──

-- a name is the name of its number
pub name_of_number : (p : PayloadProtocolIdentifier) → identifier_name (identifier_number p) ≡ p
unfolding identifier_name
name_of_number Dcep = refl
name_of_number String = refl
name_of_number Binary = refl
name_of_number StringEmpty = refl
name_of_number BinaryEmpty = refl
name_of_number Unknown = refl
