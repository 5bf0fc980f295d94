-- The bytes of a FORWARD TSN chunk: their number, and how they are put together.
-- Assumes nothing.
use mathlib.Core.Path.{◌≡◌, refl}
use mathlib.Core.List.{List, ◌++◌}
use Prim.Native.Nat.{ℕ, ◌+◌, ◌-◌, ◌*◌}
use native.Mathlib.Omega.{arith}
use lib.ListN.{length, length-append}
use borrow.Rule.Slice.PartMut.{mid_of, put_mid}
use Rattle.wire_model.specs.BigEndian.{big_endian, over}
use Rattle.wire_model.specs.Facts.{big_endian-length}
use Rattle.chunk.specs.Layout.{header, header_bytes}
use Rattle.chunk.proofs.Headers.{header-length, chunk-put}
use Rattle.entries.specs.Pairs.{pairs}
use Rattle.entries.proofs.Entries.{Entries, pairs_entries, entries_length, entries_same}
use Rattle.forward_tsn_entries.specs.Layout.{Pair, pair, pair_bytes, pairs_bytes, forward_tsn_chunk}

pub pair-length : (p : Pair) → length (pair_bytes p) ≡ 4
unfolding big_endian pair_bytes
pair-length p = refl

pub pair_entries : Entries (λ (s n : ℕ). pair_bytes (pair s n)) pairs_bytes
unfolding pairs_bytes
pair_entries = record { none = λ ssns. refl; more = λ s n streams ssns. refl; wide = λ s n. pair-length (pair s n) }

-- as `put_pairs` writes them
pub bytes-pairs : (streams ssns : List ℕ) → length streams ≡ length ssns → pairs_bytes streams ssns ≡ pairs streams ssns
unfolding pair_bytes
bytes-pairs = entries_same pair_entries pairs_entries

module _ (flags point : ℕ) (streams ssns : List ℕ) (same : length streams ≡ length ssns) where
  -- a FORWARD TSN chunk has 8 bytes and 4 for each pair
  pub forward-chunk-length : length (forward_tsn_chunk flags point streams ssns) ≡ 8 + 4 * length streams
  forward-chunk-length = simp (length-append, header-length, big_endian-length) (omega (arith, entries_length pair_entries streams ssns same))

  -- it stands in a buffer once its header and point are put at the front, and its pairs behind them
  pub forward-put : (out₀ : List ℕ) {out ys : List ℕ} → out ≡ over out₀ (header_bytes (header 192 flags (8 + 4 * length streams)) ++ big_endian 4 point) → ys ≡ over (mid_of 8 (length out - 8) out) (pairs streams ssns)
      → put_mid 8 (length out - 8) out ys ≡ over out₀ (forward_tsn_chunk flags point streams ssns)
  forward-put out₀ {out} {ys} e f =
      chunk-put 192 flags 4 (big_endian 4 point) (pairs_bytes streams ssns) out₀ {out = out} {ys = ys} (big_endian-length 4 point)
      (rw (entries_length pair_entries streams ssns same) e) (rw (bytes-pairs streams ssns same) f)
