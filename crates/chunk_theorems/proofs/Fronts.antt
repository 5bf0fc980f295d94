-- Existence: whatever bytes are lent, some fields stand at their front, so a promise about the fields in front says something of every input.
-- Assumes nothing.
use mathlib.Core.Path.{◌≡◌, ◌∙◌}
use mathlib.Core.List.{List, ◌++◌}
use Prim.Native.Nat.{ℕ, ◌+◌, ◌-◌, ◌*◌, ◌≤◌}
use native.Mathlib.Omega.{arith}
use lib.ListN.{length, take, drop, length-append, length-drop}
use lib.Seq.{take-add}
use Rattle.wire_model.specs.BigEndian.{big_endian}
use Rattle.wire.specs.Front.{Front}
use Rattle.wire_model.specs.Facts.{big_endian-length}
use Rattle.wire.proofs.Exists.{Bytes, Piece, piece, cut, bytes_drop, padded, padded-long, padded-bytes, unpadded}
use Rattle.chunk.specs.Layout.{header, HeaderFits, header_bytes}
use Rattle.chunk_payload_data.specs.Layout.{DataFits, data_value}
use Rattle.chunk_selective_ack.specs.Layout.{sack, SackFits, sack_value, block, block_bytes}
use Rattle.chunk_forward_tsn.specs.Layout.{pair, pair_bytes}
use Rattle.chunk.specs.Header.{HeaderFront, HeadedFits, headed_bytes}
use Rattle.chunk_payload_data.specs.Data.{DataFront}
use Rattle.chunk_selective_ack.specs.Sack.{SackFront, BlockFits, BlockFront, TsnFront}
use Rattle.chunk_forward_tsn.specs.ForwardTsn.{Word, ForwardFront, PairFits, PairFront}
use Rattle.chunk.proofs.Headers.{header-length, FieldsFront}
use Rattle.entries.proofs.Entries.{two_fit}
use Rattle.data_marshal.proofs.DataBytes.{data_value-length}
use Rattle.sack_marshal.proofs.SackBytes.{block-length, sack-value-length}
use Rattle.forward_tsn_marshal.proofs.ForwardBytes.{pair-length}

-- fields whose layout is the first n bytes
record Laid {A : Type 0} (layout : A → List ℕ) (Fits : A → Type 0) (n : ℕ) (raw : List ℕ) : Type 0 where
  fields : A
  fits : Fits fields
  is : take n raw ≡ layout fields

-- to find them in bytes that are enough is to find them in any
laid-front : {A : Type 0} {layout : A → List ℕ} {Fits : A → Type 0} {n : ℕ} (raw : List ℕ) → ((a : A) → length (layout a) ≡ n) → Laid layout Fits n (padded n raw) → Front layout Fits n raw
laid-front {n = n} raw size l = record { fields = l.fields; fits = l.fits; begins = unpadded n raw (size l.fields) l.is }

-- the bytes of four numbers one behind the other
four_is : (raw : List ℕ) (a b c d : ℕ) (p : Piece raw a) (q : Piece (drop a raw) b) (r : Piece (drop b (drop a raw)) c) (s : Piece (drop c (drop b (drop a raw))) d)
    → take (a + (b + (c + d))) raw ≡ big_endian a p.value ++ (big_endian b q.value ++ (big_endian c r.value ++ big_endian d s.value))
four_is raw a b c d p q r s = cut raw a (b + (c + d)) p (cut (drop a raw) b (c + d) q (cut (drop b (drop a raw)) c d r s.is))

-- such numbers stand in bytes that are enough
four : (raw : List ℕ) → Bytes raw → (a b c d : ℕ) → a + (b + (c + d)) ≤ length raw
    → (p : Piece raw a) × (q : Piece (drop a raw) b) × (r : Piece (drop b (drop a raw)) c) × (s : Piece (drop c (drop b (drop a raw))) d)
    × (take (a + (b + (c + d))) raw ≡ big_endian a p.value ++ (big_endian b q.value ++ (big_endian c r.value ++ big_endian d s.value)))
four raw by a b c d h =
    let u = bytes_drop raw a by in
    let v = bytes_drop (drop a raw) b u in
    let l : length (drop a raw) ≡ length raw - a = length-drop a raw in
    let m : length (drop b (drop a raw)) ≡ length (drop a raw) - b = length-drop b (drop a raw) in
    let n : length (drop c (drop b (drop a raw))) ≡ length (drop b (drop a raw)) - c = length-drop c (drop b (drop a raw)) in
    let p = piece raw by a (omega arith) in
    let q = piece (drop a raw) u b (omega arith) in
    let r = piece (drop b (drop a raw)) v c (omega arith) in
    let s = piece (drop c (drop b (drop a raw))) (bytes_drop (drop b (drop a raw)) c v) d (omega arith) in
    (p, q, r, s, four_is raw a b c d p q r s)

header-laid : (raw : List ℕ) → Bytes raw → 4 ≤ length raw → Laid header_bytes HeaderFits 4 raw
unfolding header_bytes
header-laid raw by h =
    let p = piece raw by 1 (omega arith) in
    let q = piece (drop 1 raw) (bytes_drop raw 1 by) 1 (rw length-drop (omega arith)) in
    let r = piece (drop 1 (drop 1 raw)) (bytes_drop (drop 1 raw) 1 (bytes_drop raw 1 by)) 2 (simp length-drop (omega arith)) in
    record {
      fields = header p.value q.value r.value;
      fits = record { kind = p.fits; flags = q.fits; size = r.fits };
      is = cut raw 1 3 p (cut (drop 1 raw) 1 2 q r.is);
    }

data_laid : (raw : List ℕ) → Bytes raw → 12 ≤ length raw → Laid data_value DataFits 12 raw
unfolding data_value
data_laid raw by h =
    let f = four raw by 4 2 2 4 (omega arith) in
    record {
      fields = record { tsn = f.0.value; stream = f.1.value; ssn = f.2.value; identifier = f.3.value };
      fits = record { tsn = f.0.fits; stream = f.1.fits; ssn = f.2.fits; identifier = f.3.fits };
      is = f.4;
    }

sack-laid : (raw : List ℕ) → Bytes raw → 12 ≤ length raw → Laid sack_value SackFits 12 raw
unfolding sack_value
sack-laid raw by h =
    let f = four raw by 4 4 2 2 (omega arith) in
    record {
      fields = sack f.0.value f.1.value f.2.value f.3.value;
      fits = record { cumulative = f.0.fits; window = f.1.fits; blocks = f.2.fits; duplicates = f.3.fits };
      is = f.4;
    }

headed_laid : {A : Type 0} (value : A → List ℕ) (Fits : A → Type 0) (n : ℕ) → ((raw : List ℕ) → Bytes raw → n ≤ length raw → Laid value Fits n raw)
    → (raw : List ℕ) → Bytes raw → 4 + n ≤ length raw → Laid (headed_bytes value) (HeadedFits Fits) (4 + n) raw
headed_laid value Fits n some raw by h =
    let p = header-laid raw by (omega arith) in
    let q = some (drop 4 raw) (bytes_drop raw 4 by) (rw length-drop (omega arith)) in
    record {
      fields = record { header = p.fields; fields = q.fields };
      fits = record { header = p.fits; fields = q.fits };
      is = take-add 4 n raw ∙ rw (p.is, q.is);
    }

headed_some : {A : Type 0} (value : A → List ℕ) (Fits : A → Type 0) (n : ℕ) → ((a : A) → length (value a) ≡ n) → ((raw : List ℕ) → Bytes raw → n ≤ length raw → Laid value Fits n raw)
    → (raw : List ℕ) → Bytes raw → FieldsFront value Fits n raw
headed_some value Fits n sized some raw by =
    laid-front raw (λ a. simp (length-append, header-length, sized)) (headed_laid value Fits n some (padded (4 + n) raw) (padded-bytes (4 + n) raw by) (padded-long (4 + n) raw))

-- ── a header and the fields of each kind stand at the front of any bytes ──

pub header-some : (raw : List ℕ) → Bytes raw → HeaderFront raw
header-some raw by = laid-front raw header-length (header-laid (padded 4 raw) (padded-bytes 4 raw by) (padded-long 4 raw))

pub data_some : (raw : List ℕ) → Bytes raw → DataFront raw
data_some raw by = headed_some data_value DataFits 12 data_value-length data_laid raw by

pub sack-some : (raw : List ℕ) → Bytes raw → SackFront raw
sack-some raw by = headed_some sack_value SackFits 12 sack-value-length sack-laid raw by

word-laid : (raw : List ℕ) → Bytes raw → 4 ≤ length raw → Laid (big_endian 4) Word 4 raw
word-laid raw by h = let p = piece raw by 4 h in record { fields = p.value; fits = p.fits; is = p.is }

pub forward-some : (raw : List ℕ) → Bytes raw → ForwardFront raw
forward-some raw by = headed_some (big_endian 4) Word 4 (big_endian-length 4) word-laid raw by

-- ── a block, a TSN and a pair stand at every index of any part ──

block-laid : (raw : List ℕ) → Bytes raw → 4 ≤ length raw → Laid block_bytes BlockFits 4 raw
unfolding block_bytes
block-laid raw by h = let (x, y, a, b, is) = two_fit raw by h in record { fields = block x y; fits = record { start = a; end = b }; is = is }

pub block-some : (part : List ℕ) (i : ℕ) → Bytes part → BlockFront part i
block-some part i by =
    let raw = drop (4 * i) part in
    laid-front raw block-length (block-laid (padded 4 raw) (padded-bytes 4 raw (bytes_drop part (4 * i) by)) (padded-long 4 raw))

pub tsn-some : (part : List ℕ) (i : ℕ) → Bytes part → TsnFront part i
tsn-some part i by =
    let raw = drop (4 * i) part in
    laid-front raw (big_endian-length 4) (word-laid (padded 4 raw) (padded-bytes 4 raw (bytes_drop part (4 * i) by)) (padded-long 4 raw))

pair-laid : (raw : List ℕ) → Bytes raw → 4 ≤ length raw → Laid pair_bytes PairFits 4 raw
unfolding pair_bytes
pair-laid raw by h = let (x, y, a, b, is) = two_fit raw by h in record { fields = pair x y; fits = record { stream = a; ssn = b }; is = is }

pub pair-some : (part : List ℕ) (i : ℕ) → Bytes part → PairFront part i
pair-some part i by =
    let raw = drop (4 * i) part in
    laid-front raw pair-length (pair-laid (padded 4 raw) (padded-bytes 4 raw (bytes_drop part (4 * i) by)) (padded-long 4 raw))
