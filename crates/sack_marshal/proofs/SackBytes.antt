-- The bytes of a SACK chunk: their number, and how its lists are put together.
-- Assumes nothing.
use mathlib.Core.Path.{◌≡◌, refl}
use mathlib.Core.List.{List, [], ◌++◌, append-nil}
use Prim.Native.Nat.{ℕ, ◌+◌, ◌-◌, ◌*◌}
use native.Mathlib.Omega.{arith}
use lib.ListN.{length, length-append}
use borrow.Rule.Slice.PartMut.{mid_of, put_mid}
use Rattle.wire_model.specs.BigEndian.{big_endian, over}
use Rattle.wire_model.specs.Facts.{big_endian-length}
use Rattle.chunk.specs.Layout.{header, header_bytes}
use Rattle.sack_entries.specs.Layout.{Sack, sack, sack_value, Block, block, block_bytes, gap_blocks, duplicate_tsns, sack_chunk}
use Rattle.chunk.proofs.Headers.{header-length, chunk-put}
use Rattle.entries.specs.Pairs.{pairs, words}
use Rattle.entries.proofs.Entries.{Entries, pairs_entries, words_entries, entries_length, entries_same}

-- ── the lists, entry by entry ──

pub block-length : (b : Block) → length (block_bytes b) ≡ 4
unfolding big_endian block_bytes
block-length b = refl

pub block_entries : Entries (λ (s e : ℕ). block_bytes (block s e)) gap_blocks
unfolding gap_blocks
block_entries = record { none = λ ends. refl; more = λ s e starts ends. refl; wide = λ s e. block-length (block s e) }

pub tsn_entries : Entries (λ (t u : ℕ). big_endian 4 t) (λ (ts us : List ℕ). duplicate_tsns ts)
unfolding duplicate_tsns
tsn_entries = record { none = λ us. refl; more = λ t u ts us. refl; wide = λ t u. big_endian-length 4 t }

-- as `put_pairs` and `put_words` write them
pub blocks-pairs : (starts ends : List ℕ) → length starts ≡ length ends → gap_blocks starts ends ≡ pairs starts ends
unfolding block_bytes
blocks-pairs = entries_same block_entries pairs_entries

pub tsns-words : (tsns : List ℕ) → duplicate_tsns tsns ≡ words tsns
tsns-words tsns = entries_same tsn_entries words_entries tsns tsns refl

-- ── the chunk ──

pub sack-value-length : (s : Sack) → length (sack_value s) ≡ 12
unfolding big_endian sack_value
sack-value-length s = refl

pub lists_length : (starts ends duplicates more : List ℕ) → length starts ≡ length ends
    → length (gap_blocks starts ends ++ (duplicate_tsns duplicates ++ more)) ≡ 4 * length starts + 4 * length duplicates + length more
lists_length starts ends duplicates more same = simp length-append (omega (arith, entries_length block_entries starts ends same, entries_length tsn_entries duplicates duplicates refl))

module _ (cumulative window : ℕ) (starts ends duplicates : List ℕ) (same : length starts ≡ length ends) where
  abbrev fields : Sack
  fields = sack cumulative window (length starts) (length duplicates)

  size : 16 + length (gap_blocks starts ends ++ (duplicate_tsns duplicates ++ [])) ≡ 16 + 4 * length starts + 4 * length duplicates
  size = omega (arith, lists_length starts ends duplicates [] same)

  -- a SACK chunk has 16 bytes and 4 for each block and each duplicate
  pub sack-chunk-length : length (sack_chunk 0 cumulative window starts ends duplicates []) ≡ 16 + 4 * length starts + 4 * length duplicates
  sack-chunk-length = simp (length-append, header-length, sack-value-length) (omega (arith, simp length-append at size))

  -- it stands in a buffer once its header and fields are put at the front, and its lists behind them
  pub sack-put : (out₀ : List ℕ) {out ys : List ℕ} → out ≡ over out₀ (header_bytes (header 3 0 (16 + 4 * length starts + 4 * length duplicates)) ++ sack_value fields)
      → ys ≡ over (mid_of 16 (length out - 16) out) (pairs starts ends ++ words duplicates) → put_mid 16 (length out - 16) out ys ≡ over out₀ (sack_chunk 0 cumulative window starts ends duplicates [])
  sack-put out₀ {out} {ys} e f =
      chunk-put 3 0 12 (sack_value fields) (gap_blocks starts ends ++ (duplicate_tsns duplicates ++ [])) out₀ {out = out} {ys = ys} (sack-value-length fields)
      (rw size e) (rw (blocks-pairs starts ends same, append-nil, tsns-words duplicates) f)
