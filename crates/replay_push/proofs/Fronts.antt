-- The header and the DATA fields where they stand are those in front of any bytes.
-- Assumes nothing.
use mathlib.Core.Path.{◌≡◌, ap, ◌∙◌}
use mathlib.Core.List.{List, ◌++◌}
use Prim.Native.Nat.{ℕ, ◌+◌, ◌^◌, ◌<◌}
use lib.ListN.{drop}
use lib.Seq.{drop-drop}
use Rattle.wire_model.specs.BigEndian.{big_endian}
use Rattle.wire.proofs.Exists.{Bytes, bytes_drop}
use Rattle.chunk.specs.Layout.{HeaderFits, header_bytes}
use Rattle.chunk.specs.Header.{HeaderFront}
use Rattle.chunk_payload_data.specs.Layout.{DataFits, data_value}
use Rattle.chunk_payload_data.specs.Data.{DataFront}
use Rattle.replay_file.specs.File.{number}
use Rattle.replay_file.proofs.Numbers.{firsts, firsts_begin, firsts_both, number_lt, number_is}
use Rattle.replay_push.specs.Decoded.{front_header, front_data, front_fields}

module _ (raw : List ℕ) (by : Bytes raw) where
  -- the number at a place fits, and is the bytes there
  fits_at : (at k : ℕ) → number k (drop at raw) < 256 ^ k
  fits_at at k = number_lt k (drop at raw) (bytes_drop raw at by)

  is_at : (at k : ℕ) → big_endian k (number k (drop at raw)) ≡ firsts k (drop at raw)
  is_at at k = number_is k (drop at raw) (bytes_drop raw at by)

  -- one behind the other
  both_at : (at a b : ℕ) → firsts a (drop at raw) ++ firsts b (drop (at + a) raw) ≡ firsts (a + b) (drop at raw)
  both_at at a b = rw (← (drop-drop a at raw)) (firsts_both a b (drop at raw))

  pub header_is : header_bytes (front_header raw) ≡ firsts 4 raw
  unfolding header_bytes front_header
  header_is = rw (number_is 1 raw by, is_at 1 1, is_at 2 2) (ap (λ (l : List ℕ). firsts 1 raw ++ l) (both_at 1 1 2) ∙ firsts_both 1 3 raw)

  pub value-is : data_value (front_data raw) ≡ firsts 12 (drop 4 raw)
  unfolding data_value front_data
  value-is = rw (is_at 4 4, is_at 8 2, is_at 10 2, is_at 12 4, both_at 10 2 4, both_at 8 2 6) (both_at 4 4 8)

  pub header_fits : HeaderFits (front_header raw)
  unfolding front_header
  header_fits = record { kind = number_lt 1 raw by; flags = fits_at 1 1; size = fits_at 2 2 }

  pub value_fits : DataFits (front_data raw)
  unfolding front_data
  value_fits = record { tsn = fits_at 4 4; stream = fits_at 8 2; ssn = fits_at 10 2; identifier = fits_at 12 4 }

  abbrev pub header-there : HeaderFront raw
  header-there = record { fields = front_header raw; fits = header_fits; begins = rw header_is (firsts_begin 4 raw) }

  abbrev pub data_there : DataFront raw
  data_there =
      record {
        fields = front_fields raw;
        fits = record { header = header_fits; fields = value_fits };
        begins = rw (header_is, value-is, firsts_both 4 12 raw) (firsts_begin 16 raw);
      }
