-- What byte list a FORWARD TSN chunk with a given point and pairs is: RFC 3758 section 3.2. All numbers are big-endian.
-- Assumes nothing.
use Rattle.std.specs.Prelude.{ℕ, List, [], ◌∷◌, ◌++◌}
use Rattle.wire_model.specs.BigEndian.{big_endian}
use Rattle.chunk.specs.Layout.{chunk}

-- a pair: a stream, and the SSN that is skipped in it
pub record Pair : Type 0 where
  pub stream : ℕ
  pub ssn : ℕ

abbrev pub pair : ℕ → ℕ → Pair
pair stream ssn = record { stream = stream; ssn = ssn }

-- Stream-i, Stream Sequence-i
unfoldable pub pair_bytes : Pair → List ℕ
pair_bytes p = big_endian 2 p.stream ++ big_endian 2 p.ssn

-- Stream-1, Stream Sequence-1 up to Stream-N, Stream Sequence-N, by the streams and by the SSNs
unfoldable pub pairs_bytes : List ℕ → List ℕ → List ℕ
pairs_bytes [] ssns = []
pairs_bytes (s ∷ streams) [] = []
pairs_bytes (s ∷ streams) (n ∷ ssns) = pair_bytes (pair s n) ++ pairs_bytes streams ssns

-- "Type = 192", the flags, the New Cumulative TSN, and the pairs
abbrev pub forward_tsn_chunk : ℕ → ℕ → List ℕ → List ℕ → List ℕ
forward_tsn_chunk flags point streams ssns = chunk 192 flags (big_endian 4 point ++ pairs_bytes streams ssns)
