-- SACK both ways: what is accepted is a chunk of the fields that come back, what is such a chunk is accepted, and the round trips.
-- Assumes nothing.
use mathlib.Core.Path.{◌≡◌, refl, sym, ap, ◌∙◌}
use mathlib.Core.List.{List, [], ◌++◌, append_assoc, append-nil}
use Prim.Native.Nat.{ℕ, ◌+◌, ◌-◌, ◌*◌, ◌/◌, ◌^◌, ◌<◌, ◌≤◌}
use native.Mathlib.Omega.{arith}
use borrow.Author.Tests.{le-ltb, lt-leb, ltb-false}
use lib.ListN.{length, get_or, take, drop}
use lib.Seq.{take-add, take_all, take_at, drop_at, drop-drop}
use denote.Ref.{Bor}
use Rattle.std.specs.Prelude.{Result, Ok}
use Rattle.wire_model.specs.Refusal.{none, says, first, Told}
use Rattle.refusal.specs.declared.Refusal.{Refusal}
use Rattle.wire.proofs.Reading.{first-passed, none_holds, none_both}
use Rattle.wire.proofs.Exists.{Bytes}
use Rattle.chunk.specs.Layout.{header, chunk}
use Rattle.chunk_selective_ack.specs.Layout.{Sack, sack, SackFits, sack_value, block, gap_blocks, duplicate_tsns, sack_chunk}
use Rattle.chunk.specs.Header.{kind_checks, Headed, HeadedFits}
use Rattle.chunk.specs.Part.{Part}
use Rattle.chunk_selective_ack.specs.Sack.{sack_held, sack_told, SackFront, lists_only, sack_checks, sack_read, blocks_part, duplicates_part, entry_checks, BlockFront, block_told, block_read, TsnFront, tsn_told, tsn_read}
use Rattle.sack_fields.specs.declared.ChunkSelectiveAck.{ChunkSelectiveAck}
use Rattle.sack_entries.specs.declared.GapAckBlock.{GapAckBlock}
use Rattle.chunk.proofs.Headers.{passes, headed_accepted, chunk_front, chunk-behind, chunk_passes, part-back}
use Rattle.entries.proofs.Entries.{entries_length, entry_begins, any-pairs, any-words, entry_bytes}
use Rattle.sack_marshal.proofs.SackBytes.{block_entries, tsn_entries, blocks-pairs, tsns-words, sack-value-length, lists_length}
use Rattle.chunk_theorems.proofs.OneAnswer.{sack-told-one}

-- ── what is accepted is a SACK chunk of the fields in front and of what lies behind them ──

-- up to the length it is that chunk, its lists are within the length, and that within what is lent
pub record Accepted (raw : List ℕ) (h : Headed Sack) : Type 0 where
  pub is : take h.header.size raw ≡ chunk 3 h.header.flags (sack_value h.fields ++ take (h.header.size - 16) (drop 16 raw))
  pub lists : 16 + 4 * h.fields.blocks + 4 * h.fields.duplicates ≤ h.header.size
  pub within : h.header.size ≤ length raw

-- what no check refuses is such a chunk
pub sack_accepted : (raw : List ℕ) (f : SackFront raw) → first (sack_checks (length raw) f.fields) ≡ none → Accepted raw f.fields
sack_accepted raw f e =
    let h = f.fields.header in
    let both = none_both (kind_checks 3 16 5 (length raw) h) (lists_only f.fields) e in
    let p = passes 3 16 5 (length raw) h both.0 in
    record {
      is = headed_accepted sack_value SackFits 3 12 f (sack-value-length f.fields.fields) p;
      lists = ltb-false _ _ (none_holds (lists_only f.fields) both.1).0;
      within = p.within;
    }

-- ── what is a SACK chunk of some fields and lists, whatever follows, is accepted with them ──

-- fields and lists that a chunk can have: each fits its place, each block has a start and an end, and the length fits 16 bits
pub record Sendable (flags cumulative window : ℕ) (starts ends duplicates more : List ℕ) : Type 0 where
  pub flag : flags < 2 ^ 8
  pub tsn : cumulative < 2 ^ 32
  pub credit : window < 2 ^ 32
  pub same : length starts ≡ length ends
  pub few : 16 + 4 * length starts + 4 * length duplicates + length more < 2 ^ 16

module _ (flags cumulative window : ℕ) (starts ends duplicates more rest : List ℕ) (s : Sendable flags cumulative window starts ends duplicates more) where
  abbrev bytes : List ℕ
  bytes = sack_chunk flags cumulative window starts ends duplicates more ++ rest

  abbrev lists : List ℕ
  lists = gap_blocks starts ends ++ (duplicate_tsns duplicates ++ more)

  abbrev fields : Sack
  fields = sack cumulative window (length starts) (length duplicates)

  abbrev head : Headed Sack
  head = record { header = header 3 flags (16 + length lists); fields = fields }

  size : length lists ≡ 4 * length starts + 4 * length duplicates + length more
  size = lists_length starts ends duplicates more s.same

  -- its header and its fields fit their places
  pub fits : HeadedFits SackFits head
  fits =
      record {
        header = record { kind = omega arith; flags = s.flag; size = omega (arith, s.few, size) };
        fields = record { cumulative = s.tsn; window = s.credit; blocks = omega (arith, s.few); duplicates = omega (arith, s.few) };
      }

  -- the fields in front of it are its own
  abbrev pub sack-front : SackFront bytes
  sack-front = chunk_front sack_value 3 flags 12 fields lists rest (sack-value-length fields) fits

  -- nothing is refused
  pub sack_passes : first (sack_checks (length bytes) head) ≡ none
  sack_passes =
      first-passed (kind_checks 3 16 5 (length bytes) head.header) (lists_only head) (chunk_passes sack_value 3 flags 12 fields lists rest (sack-value-length fields) 5)
      ∙ rw (le-ltb (16 + length lists) (16 + 4 * length starts + 4 * length duplicates) (omega (arith, size)))

  -- so what meets the promise of `unmarshal` has its fields
  pub sack-read-back : (r : Result ChunkSelectiveAck Refusal) → ((f : SackFront bytes) → sack_told r ≡ sack_read (length bytes) f.fields) → sack_told r ≡ says none fields
  unfolding sack_read
  sack-read-back r promise = rw sack_passes at (promise sack-front)

  -- behind the fields lie the blocks, and behind those the duplicates
  behind : drop 16 bytes ≡ gap_blocks starts ends ++ (duplicate_tsns duplicates ++ (more ++ rest))
  behind = rw (chunk-behind sack_value 3 flags 12 fields lists rest (sack-value-length fields)) (simp append_assoc)

  further : drop (16 + 4 * length starts) bytes ≡ duplicate_tsns duplicates ++ (more ++ rest)
  further = sym (drop-drop (4 * length starts) 16 bytes) ∙ ap (drop (4 * length starts)) behind ∙ drop_at (gap_blocks starts ends) _ (4 * length starts) (entries_length block_entries starts ends s.same)

  module _ (raw : Bor (List ℕ)) (e : raw.now ≡ bytes) where
    abbrev front : SackFront raw.now
    front = record { fields = head; fits = fits; begins = rw e sack-front.begins }

    -- what meets the promise of `gap_ack_blocks` has its blocks
    pub blocks-part-back : {p : Told Part} → ((f : SackFront raw.now) → p ≡ blocks_part raw f.fields) → (p.refusal ≡ none) × (p.values.bytes ≡ gap_blocks starts ends)
    unfolding blocks_part
    blocks-part-back promise =
        let q = part-back (λ (lent : ℕ). sack_checks lent head) 16 (4 * length starts) raw e sack_passes (promise front) in
        (q.0, q.1 ∙ rw behind (take_at (gap_blocks starts ends) _ (4 * length starts) (entries_length block_entries starts ends s.same)))

    -- what meets the promise of `duplicate_tsns` has its duplicates
    pub duplicates_part-back : {p : Told Part} → ((f : SackFront raw.now) → p ≡ duplicates_part raw f.fields) → (p.refusal ≡ none) × (p.values.bytes ≡ duplicate_tsns duplicates)
    unfolding duplicates_part
    duplicates_part-back promise =
        let q = part-back (λ (lent : ℕ). sack_checks lent head) (16 + 4 * length starts) (4 * length duplicates) raw e sack_passes (promise front) in
        (q.0, q.1 ∙ rw further (take_at (duplicate_tsns duplicates) _ (4 * length duplicates) (entries_length tsn_entries duplicates duplicates refl)))

-- ── an entry of a list is found by its index ──

-- an index below the number of entries is not refused
entry_passes : (part : List ℕ) (i n : ℕ) → length part ≡ 4 * n → i < n → first (entry_checks part i) ≡ none
entry_passes part i n l h = rw (lt-leb (length part / 4) i (omega arith))

-- what meets the promise of `gap_ack_block_at` has the start and the end of that index
pub block-read-back : (starts ends : List ℕ) → length starts ≡ length ends → ((j : ℕ) → get_or starts j 0 < 2 ^ 16) → ((j : ℕ) → get_or ends j 0 < 2 ^ 16) → (i : ℕ) → i < length starts
    → (r : Result GapAckBlock Refusal) → ((f : BlockFront (gap_blocks starts ends) i) → block_told r ≡ block_read (gap_blocks starts ends) i f.fields) → block_told r ≡ says none (block (get_or starts i 0) (get_or ends i 0))
block-read-back starts ends same small less i h r promise =
    rw (entry_passes (gap_blocks starts ends) i (length starts) (entries_length block_entries starts ends same) h) at
    (promise (record { fields = block (get_or starts i 0) (get_or ends i 0); fits = record { start = small i; end = less i }; begins = entry_begins block_entries starts ends i same h }))

-- what meets the promise of `duplicate_tsn_at` has the duplicate of that index
pub tsn-read-back : (tsns : List ℕ) → ((j : ℕ) → get_or tsns j 0 < 2 ^ 32) → (i : ℕ) → i < length tsns
    → (r : Result ℕ Refusal) → ((f : TsnFront (duplicate_tsns tsns) i) → tsn_told r ≡ tsn_read (duplicate_tsns tsns) i f.fields) → tsn_told r ≡ says none (get_or tsns i 0)
tsn-read-back tsns small i h r promise =
    rw (entry_passes (duplicate_tsns tsns) i (length tsns) (entries_length tsn_entries tsns tsns refl) h) at
    (promise (record { fields = get_or tsns i 0; fits = small i; begins = entry_begins tsn_entries tsns tsns i refl h }))

-- ── reading what was written gives the fields ──

-- read behind a write into any buffer, the fields and the counts of the lists come back
pub sack-written-read : (cumulative window : ℕ) (starts ends duplicates rest : List ℕ) → Sendable 0 cumulative window starts ends duplicates [] → (r : Result ChunkSelectiveAck Refusal)
    → (let raw = sack_chunk 0 cumulative window starts ends duplicates [] ++ rest in (f : SackFront raw) → sack_told r ≡ sack_read (length raw) f.fields)
    → r ≡ Ok (record { cumulative_tsn_ack = cumulative; advertised_receiver_window_credit = window; gap_ack_blocks = length starts; duplicate_tsns = length duplicates })
unfolding sack_held
sack-written-read cumulative window starts ends duplicates rest s r promise = sack-told-one (sack-read-back 0 cumulative window starts ends duplicates [] rest s r promise)

-- ── writing what was read gives the same bytes ──

-- the flags are 0, nothing follows the length, and within it nothing follows the lists
pub record Plain (h : Headed Sack) (raw : List ℕ) : Type 0 where
  pub flags : h.header.flags ≡ 0
  pub last : h.header.size ≡ length raw
  pub exact : h.header.size ≡ 16 + 4 * h.fields.blocks + 4 * h.fields.duplicates

-- these lists have the counts that the fields say, and are the bytes behind the fields
pub record Listed (s : Sack) (raw starts ends duplicates : List ℕ) : Type 0 where
  pub count : length starts ≡ s.blocks
  pub same : length ends ≡ s.blocks
  pub number : length duplicates ≡ s.duplicates
  pub blocks : gap_blocks starts ends ≡ take (4 * s.blocks) (drop 16 raw)
  pub tsns : duplicate_tsns duplicates ≡ take (4 * s.duplicates) (drop (16 + 4 * s.blocks) raw)

-- the chunk of the fields that were read and of such lists is the bytes that they were read from
pub sack-read-written : (raw : List ℕ) (f : SackFront raw) → first (sack_checks (length raw) f.fields) ≡ none → Plain f.fields raw
    → (starts ends duplicates : List ℕ) → Listed f.fields.fields raw starts ends duplicates
    → sack_chunk 0 f.fields.fields.cumulative f.fields.fields.window starts ends duplicates [] ≡ raw
sack-read-written raw f e plain starts ends duplicates l =
    let h = f.fields.header in
    let s = f.fields.fields in
    let n = 4 * s.blocks in
    let x = 4 * s.duplicates in
    let lists : gap_blocks starts ends ++ (duplicate_tsns duplicates ++ []) ≡ take (n + x) (drop 16 raw) =
    rw (append-nil, l.blocks, l.tsns, ← (drop-drop n 16 raw)) (sym (take-add n x (drop 16 raw))) in
    let size : n + x ≡ h.size - 16 = omega (arith, plain.exact) in
    let all : take h.size raw ≡ raw = take_all h.size raw (omega (arith, plain.last)) in
    rw (l.count, l.number, lists, size, ← plain.flags) (sym (sack_accepted raw f e).is ∙ all)

-- ── such lists exist ──

-- any 4 n bytes are n blocks
pub blocks_exist : (n : ℕ) (part : List ℕ) → Bytes part → length part ≡ 4 * n
    → (starts : List ℕ) × (ends : List ℕ) × (length starts ≡ n) × (length ends ≡ n) × (gap_blocks starts ends ≡ part)
blocks_exist n part by l =
    let (starts, ends, c, m, a, b, is) = any-pairs n part by l in
    (starts, ends, c, m, blocks-pairs starts ends (omega arith) ∙ is)

-- any 4 n bytes are n duplicates
pub tsns_exist : (n : ℕ) (part : List ℕ) → Bytes part → length part ≡ 4 * n → (tsns : List ℕ) × (length tsns ≡ n) × (duplicate_tsns tsns ≡ part)
tsns_exist n part by l =
    let (tsns, t, a, is) = any-words n part by l in
    (tsns, t, tsns-words tsns ∙ is)

-- whatever is accepted has such lists behind its fields
pub lists_exist : (raw : List ℕ) (f : SackFront raw) → Bytes raw → first (sack_checks (length raw) f.fields) ≡ none
    → (starts : List ℕ) × (ends : List ℕ) × (duplicates : List ℕ) × Listed f.fields.fields raw starts ends duplicates
lists_exist raw f by e =
    let s = f.fields.fields in
    let a = sack_accepted raw f e in
    let p = entry_bytes raw by 16 s.blocks (omega (arith, a.lists, a.within)) in
    let q = entry_bytes raw by (16 + 4 * s.blocks) s.duplicates (omega (arith, a.lists, a.within)) in
    let (starts, ends, c, m, b) = blocks_exist s.blocks _ p.0 p.1 in
    let (duplicates, x, t) = tsns_exist s.duplicates _ q.0 q.1 in
    (starts, ends, duplicates, record { count = c; same = m; number = x; blocks = b; tsns = t })
