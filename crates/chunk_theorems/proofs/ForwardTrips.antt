-- FORWARD TSN both ways: what is accepted is a chunk of the point and the pairs that come back, what is such a chunk is accepted, and the round trips.
-- Assumes nothing.
use mathlib.Core.Path.{◌≡◌, refl, sym, ap, ◌∙◌}
use mathlib.Core.List.{List, ◌++◌}
use Prim.Native.Nat.{ℕ, ◌+◌, ◌-◌, ◌*◌, ◌/◌, ◌%◌, ◌^◌, ◌<◌, ◌≤◌}
use native.Mathlib.Omega.{arith}
use borrow.Author.Tests.{lt-leb, eq-eqb, eqb-true, not-false}
use lib.ListN.{length, get_or, take, drop, set}
use lib.Seq.{take_at}
use denote.Ref.{Bor}
use Rattle.wire_model.specs.BigEndian.{big_endian}
use Rattle.std.specs.Prelude.{Result, Ok}
use Rattle.wire_model.specs.Refusal.{none, says, first, Told}
use Rattle.refusal.specs.declared.Refusal.{Refusal}
use Rattle.wire_model.specs.Facts.{big_endian-length}
use Rattle.wire.proofs.Reading.{first-passed, none_holds, none_both}
use Rattle.wire.proofs.Exists.{Bytes}
use Rattle.chunk.specs.Layout.{header, header_bytes, chunk}
use Rattle.chunk.specs.Header.{HeaderFront, kind_checks, Headed, HeadedFits}
use Rattle.chunk.specs.Part.{Part}
use Rattle.chunk.proofs.Headers.{header-front, passes, headed_accepted, chunk_front, chunk-behind, chunk_passes, part-back}
use Rattle.entries.proofs.Entries.{entries_length, entry_begins, any-pairs, entry_bytes}
use Rattle.chunk_forward_tsn.specs.Layout.{pair, pairs_bytes, forward_tsn_chunk}
use Rattle.chunk_forward_tsn.specs.ForwardTsn.{forward, forward_told, Word, ForwardFront, pairs_only, forward_checks, forward_read, pairs_part, PairFront, pair_told, pair_read}
use Rattle.chunk_forward_tsn.specs.declared.ChunkForwardTsn.{ChunkForwardTsn}
use Rattle.forward_tsn_entries.specs.declared.ChunkForwardTsnStream.{ChunkForwardTsnStream}
use Rattle.forward_tsn_marshal.proofs.ForwardBytes.{pair_entries, bytes-pairs}
use Rattle.chunk_theorems.proofs.OneAnswer.{forward-told-one}

-- how many pairs a length says
abbrev pub pair_count : Headed ℕ → ℕ
pair_count h = (h.header.size - 8) / 4

-- ── what is accepted is a FORWARD TSN chunk of the point in front and of whole pairs ──

-- up to the length it is that chunk, the length is 8 and 4 for each pair, and within what is lent
pub record Accepted (raw : List ℕ) (h : Headed ℕ) : Type 0 where
  pub is : take h.header.size raw ≡ chunk 192 h.header.flags (big_endian 4 h.fields ++ take (4 * pair_count h) (drop 8 raw))
  pub pairs : h.header.size ≡ 8 + 4 * pair_count h
  pub within : h.header.size ≤ length raw

-- what no check refuses is such a chunk
pub forward_accepted : (raw : List ℕ) (f : ForwardFront raw) → first (forward_checks (length raw) f.fields.header) ≡ none → Accepted raw f.fields
forward_accepted raw f e =
    let h = f.fields.header in
    let both = none_both (kind_checks 192 8 12 (length raw) h) (pairs_only h) e in
    let p = passes 192 8 12 (length raw) h both.0 in
    let whole : h.size % 4 ≡ 0 = eqb-true _ _ (not-false _ (none_holds (pairs_only h) both.1).0) in
    let left : h.size - 8 ≡ 4 * pair_count f.fields = omega (arith, whole, p.enough) in
    record {
      is = rw left at (headed_accepted (big_endian 4) Word 192 4 f (big_endian-length 4 f.fields.fields) p);
      pairs = omega (arith, left, p.enough);
      within = p.within;
    }

-- ── what is a FORWARD TSN chunk of a point and pairs, whatever follows, is accepted with them ──

-- what a chunk can have: each number fits its place, each stream has an SSN, and the length fits 16 bits
pub record Sendable (flags point : ℕ) (streams ssns : List ℕ) : Type 0 where
  pub flag : flags < 2 ^ 8
  pub tsn : point < 2 ^ 32
  pub same : length streams ≡ length ssns
  pub few : length streams ≤ 16381

module _ (flags point : ℕ) (streams ssns rest : List ℕ) (s : Sendable flags point streams ssns) where
  abbrev bytes : List ℕ
  bytes = forward_tsn_chunk flags point streams ssns ++ rest

  abbrev pairs : List ℕ
  pairs = pairs_bytes streams ssns

  abbrev head : Headed ℕ
  head = record { header = header 192 flags (8 + length pairs); fields = point }

  size : length pairs ≡ 4 * length streams
  size = entries_length pair_entries streams ssns s.same

  -- its header and its point fit their places
  pub fits : HeadedFits Word head
  fits = record { header = record { kind = omega arith; flags = s.flag; size = omega (arith, s.few, size) }; fields = s.tsn }

  -- the fields in front of it are its own
  abbrev pub forward-front : ForwardFront bytes
  forward-front = chunk_front (big_endian 4) 192 flags 4 point pairs rest (big_endian-length 4 point) fits

  -- nothing is refused
  pub forward_passes : first (forward_checks (length bytes) head.header) ≡ none
  forward_passes =
      first-passed (kind_checks 192 8 12 (length bytes) head.header) (pairs_only head.header) (chunk_passes (big_endian 4) 192 flags 4 point pairs rest (big_endian-length 4 point) 12)
      ∙ rw (eq-eqb ((8 + length pairs) % 4) 0 (omega (arith, size)))

  -- so what meets the promise of `unmarshal` has its point and the number of its pairs
  pub forward-read-back : (r : Result ChunkForwardTsn Refusal) → ((f : ForwardFront bytes) → forward_told r ≡ forward_read (length bytes) f.fields) → forward_told r ≡ says none (forward point (length streams))
  unfolding forward_read
  forward-read-back r promise = let count : (8 + length pairs - 8) / 4 ≡ length streams = omega (arith, size) in rw (forward_passes, count) at (promise forward-front)

  -- and what meets the promise of `streams` has its pairs
  pub pairs-part-back : (raw : Bor (List ℕ)) → raw.now ≡ bytes → {p : Told Part} → ((f : HeaderFront raw.now) → p ≡ pairs_part raw f.fields) → (p.refusal ≡ none) × (p.values.bytes ≡ pairs)
  unfolding pairs_part
  pairs-part-back raw e promise =
      let f = header-front (big_endian 4) Word 4 forward-front in
      let g : HeaderFront raw.now = record { fields = f.fields; fits = f.fits; begins = rw e f.begins } in
      let q = part-back (λ (lent : ℕ). forward_checks lent f.fields) 8 (8 + length pairs - 8) raw e forward_passes (promise g) in
      let left : 8 + length pairs - 8 ≡ length pairs = omega arith in
      (q.0, q.1 ∙ rw (left, chunk-behind (big_endian 4) 192 flags 4 point pairs rest (big_endian-length 4 point)) (take_at pairs rest (length pairs) refl))

-- what meets the promise of `stream_at` has the stream and the SSN of that index
pub pair-read-back : (streams ssns : List ℕ) → length streams ≡ length ssns → ((j : ℕ) → get_or streams j 0 < 2 ^ 16) → ((j : ℕ) → get_or ssns j 0 < 2 ^ 16) → (i : ℕ) → i < length streams
    → (r : Result ChunkForwardTsnStream Refusal) → ((f : PairFront (pairs_bytes streams ssns) i) → pair_told r ≡ pair_read (pairs_bytes streams ssns) i f.fields) → pair_told r ≡ says none (pair (get_or streams i 0) (get_or ssns i 0))
pair-read-back streams ssns same small less i h r promise =
    rw (lt-leb (length (pairs_bytes streams ssns) / 4) i (omega (arith, entries_length pair_entries streams ssns same))) at
    (promise (record { fields = pair (get_or streams i 0) (get_or ssns i 0); fits = record { stream = small i; ssn = less i }; begins = entry_begins pair_entries streams ssns i same h }))

-- ── reading what was written gives the point and the number of pairs ──

pub forward-written-read : (point : ℕ) (streams ssns rest : List ℕ) → Sendable 0 point streams ssns → (r : Result ChunkForwardTsn Refusal)
    → (let raw = forward_tsn_chunk 0 point streams ssns ++ rest in (f : ForwardFront raw) → forward_told r ≡ forward_read (length raw) f.fields)
    → r ≡ Ok (record { new_cumulative_tsn = point; streams = length streams })
forward-written-read point streams ssns rest s r promise = forward-told-one (forward-read-back 0 point streams ssns rest s r promise)

-- ── writing what was read gives the same chunk with flags 0 ──

-- these lists have a stream and an SSN for each pair that the length says, and are the bytes behind the point
pub record Listed (raw : List ℕ) (h : Headed ℕ) (streams ssns : List ℕ) : Type 0 where
  pub count : length streams ≡ pair_count h
  pub same : length ssns ≡ pair_count h
  pub is : pairs_bytes streams ssns ≡ take (4 * pair_count h) (drop 8 raw)

module _ (raw : List ℕ) (f : ForwardFront raw) (e : first (forward_checks (length raw) f.fields.header) ≡ none) where
  -- what was read, up to its length, is the chunk of its flags, its point and its pairs
  pub forward-read-whole : (streams ssns : List ℕ) → Listed raw f.fields streams ssns → take f.fields.header.size raw ≡ forward_tsn_chunk f.fields.header.flags f.fields.fields streams ssns
  forward-read-whole streams ssns l = rw l.is (forward_accepted raw f e).is

  -- the chunk that is written of them differs in the flags alone, byte 1, which is 0
  pub forward-read-written : (streams ssns : List ℕ) → Listed raw f.fields streams ssns → forward_tsn_chunk 0 f.fields.fields streams ssns ≡ set (take f.fields.header.size raw) 1 0
  unfolding header_bytes big_endian
  forward-read-written streams ssns l = sym (ap (λ (x : List ℕ). set x 1 0) (forward-read-whole streams ssns l))

  -- such lists exist
  pub pairs_exist : Bytes raw → (streams : List ℕ) × (ssns : List ℕ) × Listed raw f.fields streams ssns
  pairs_exist by =
      let ok = forward_accepted raw f e in
      let p = entry_bytes raw by 8 (pair_count f.fields) (omega (arith, ok.pairs, ok.within)) in
      let (streams, ssns, c, m, a, b, is) = any-pairs (pair_count f.fields) _ p.0 p.1 in
      (streams, ssns, record { count = c; same = m; is = bytes-pairs streams ssns (omega arith) ∙ is })
