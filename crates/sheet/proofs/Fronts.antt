-- The fields that stand in front of the sheet's bytes, for which a reader's promise says what it answers.
-- Assumes nothing.
use mathlib.Core.Path.{◌≡◌, refl}
use mathlib.Core.List.{List}
use Prim.Native.Nat.{ℕ, ◌<◌, ◌^◌}
use native.Mathlib.Omega.{arith}
use lib.ListN.{length, take}
use Rattle.wire_model.specs.BigEndian.{big_endian}
use Rattle.chunk.specs.Layout.{header, header_bytes}
use Rattle.chunk.specs.Header.{HeaderFront, Headed, headed_bytes}
use Rattle.chunk.proofs.Headers.{header-front}
use Rattle.data_fields.specs.Fields.{Data}
use Rattle.chunk_payload_data.specs.Layout.{DataFits, data_value}
use Rattle.chunk_payload_data.specs.Data.{DataFront}
use Rattle.chunk_selective_ack.specs.Layout.{sack, sack_value, block, block_bytes}
use Rattle.chunk_selective_ack.specs.Sack.{SackFront, BlockFront, TsnFront}
use Rattle.sheet.specs.Sheet.{p2_bytes, p3_bytes, p4_bytes, p5_blocks, p5_duplicates, p5_bytes}

-- ── DATA: P2's fields, with a length and an identifier ──

abbrev data_head : ℕ → ℕ → Headed Data
data_head size identifier = record { header = header 0 3 size; fields = record { tsn = 10; stream = 2; ssn = 5; identifier = identifier } }

abbrev data_front : (size identifier : ℕ) (raw : List ℕ) → size < 2 ^ 16 → identifier < 2 ^ 32
    → take 16 raw ≡ take (length raw) (headed_bytes data_value (data_head size identifier))
    → DataFront raw
data_front size identifier raw h i e =
    record {
      fields = data_head size identifier;
      fits = record {
        header = record { kind = omega arith; flags = omega arith; size = h };
        fields = record { tsn = omega arith; stream = omega arith; ssn = omega arith; identifier = i };
      };
      begins = e;
    }

-- the header alone
abbrev pub head_of : {raw : List ℕ} → DataFront raw → HeaderFront raw
head_of f = header-front data_value DataFits 12 f

unfoldable pub front_2 : DataFront p2_bytes
unfolding big_endian header_bytes data_value
front_2 = data_front 19 51 p2_bytes (omega arith) (omega arith) refl

unfoldable pub front_3 : DataFront p3_bytes
unfolding big_endian header_bytes data_value
front_3 = data_front 19 7 p3_bytes (omega arith) (omega arith) refl

unfoldable pub front_15 : DataFront (p4_bytes 15)
unfolding big_endian header_bytes data_value
front_15 = data_front 15 51 (p4_bytes 15) (omega arith) (omega arith) refl

unfoldable pub front_16 : DataFront (p4_bytes 16)
unfolding big_endian header_bytes data_value
front_16 = data_front 16 51 (p4_bytes 16) (omega arith) (omega arith) refl

-- ── SACK ──

unfoldable pub front_5 : SackFront p5_bytes
unfolding big_endian header_bytes sack_value
front_5 =
    record {
      fields = record { header = header 3 0 28; fields = sack 100 1500 2 1 };
      fits = record {
        header = record { kind = omega arith; flags = omega arith; size = omega arith };
        fields = record { cumulative = omega arith; window = omega arith; blocks = omega arith; duplicates = omega arith };
      };
      begins = refl;
    }

unfoldable pub block_0 : BlockFront p5_blocks 0
unfolding big_endian block_bytes
block_0 = record { fields = block 2 3; fits = record { start = omega arith; end = omega arith }; begins = refl }

unfoldable pub block_1 : BlockFront p5_blocks 1
unfolding big_endian block_bytes
block_1 = record { fields = block 5 5; fits = record { start = omega arith; end = omega arith }; begins = refl }

unfoldable pub duplicate_0 : TsnFront p5_duplicates 0
unfolding big_endian
duplicate_0 = record { fields = 98; fits = omega arith; begins = refl }
