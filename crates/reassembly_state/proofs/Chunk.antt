-- What a chunk says is what its fragment says, and its record with its bytes is that fragment.
-- Assumes nothing.
use mathlib.Core.Path.{◌≡◌, refl}
use mathlib.Core.Bool.{Bool, true, false}
use mathlib.Core.List.{List}
use Prim.Native.Nat.{ℕ, ◌+◌, ◌*◌, ◌/◌, ◌%◌, ◌<◌, ◌≤◌}
use native.Mathlib.Omega.{arith}
use borrow.Author.Tests.{eq-eqb, ne_eqb}
use lib.Dec.{eqb}
use lib.ListN.{length}
use Rattle.data_fields.specs.Fields.{data_flags, data_sent, weighed}
use Rattle.data_fields.specs.declared.ChunkPayloadData.{ChunkPayloadData}
use Rattle.table.specs.Rows.{row}
use Rattle.table.specs.declared.Row.{Row}
use Rattle.fragments.specs.Frag.{Frag, begins, ends, ssn_of, long_length, row_of, frag_of}
use Rattle.reassembly_state.specs.State.{fragment_of}

-- a flag's weight, by the one of weight 1
weight : (k : ℕ) (b : Bool) → weighed k b ≡ k * weighed 1 b
weight k true = omega arith
weight k false = omega arith

weight_one : (b : Bool) → weighed 1 b ≤ 1
weight_one true = omega arith
weight_one false = omega arith

abbrev flagged : Bool → Bool → Bool → Bool → ℕ
flagged e b u i = weighed 1 e + weighed 2 b + weighed 4 u + weighed 8 i

ends_flag : (e b u i : Bool) → eqb (flagged e b u i % 2) 1 ≡ e
ends_flag true b u i = eq-eqb (flagged true b u i % 2) 1 (omega (arith, weight 2 b, weight 4 u, weight 8 i))
ends_flag false b u i = ne_eqb (flagged false b u i % 2) 1 (λ z. omega (arith, weight 2 b, weight 4 u, weight 8 i))

begins_flag : (e b u i : Bool) → eqb (flagged e b u i / 2 % 2) 1 ≡ b
begins_flag e true u i = eq-eqb (flagged e true u i / 2 % 2) 1 (omega (arith, weight_one e, weight 4 u, weight 8 i))
begins_flag e false u i = ne_eqb (flagged e false u i / 2 % 2) 1 (λ z. omega (arith, weight_one e, weight 4 u, weight 8 i))

-- the record of a chunk with so many bytes
abbrev pub chunk_row : ChunkPayloadData → ℕ → Row
chunk_row p size = row (data_flags p * 16777216 + size) (data_sent p).tsn ((data_sent p).stream * 65536 + (data_sent p).ssn) (data_sent p).identifier

module _ (p : ChunkPayloadData) (bytes : List ℕ) where
  pub chunk-ends : ends (fragment_of p bytes) ≡ p.ending_fragment
  unfolding fragment_of data_flags
  chunk-ends = ends_flag p.ending_fragment p.beginning_fragment p.unordered p.immediate_sack

  pub chunk-begins : begins (fragment_of p bytes) ≡ p.beginning_fragment
  unfolding fragment_of data_flags
  chunk-begins = begins_flag p.ending_fragment p.beginning_fragment p.unordered p.immediate_sack

  pub chunk-ssn : p.stream_sequence_number < 65536 → ssn_of (fragment_of p bytes) ≡ p.stream_sequence_number
  unfolding fragment_of data_sent
  chunk-ssn h = omega arith

  pub chunk-tsn : (fragment_of p bytes).tsn ≡ p.tsn
  unfolding fragment_of data_sent
  chunk-tsn = refl

  pub chunk_bytes : (fragment_of p bytes).bytes ≡ bytes
  unfolding fragment_of
  chunk_bytes = refl

  pub chunk_row_lem : chunk_row p (length bytes) ≡ row_of (fragment_of p bytes)
  unfolding fragment_of
  chunk_row_lem = refl

  module _ (h : length bytes < 16777216) where
    pub chunk-long : {r : Row} → r ≡ chunk_row p (length bytes) → long_length r.head ≡ length bytes
    chunk-long e = rw e (omega arith)

    pub chunk_flags : (chunk_row p (length bytes)).head / 16777216 ≡ data_flags p
    chunk_flags = omega arith

    pub chunk-frag : frag_of (chunk_row p (length bytes)) bytes ≡ fragment_of p bytes
    unfolding fragment_of
    chunk-frag = rw chunk_flags

-- a fragment is that of its row
pub frag-back : (f : Frag) → length f.bytes < 16777216 → frag_of (row_of f) f.bytes ≡ f
frag-back f h = let e : (f.flags * 16777216 + length f.bytes) / 16777216 ≡ f.flags = omega arith in rw e

pub row-size : (f : Frag) → length f.bytes < 16777216 → long_length (row_of f).head ≡ length f.bytes
row-size f h = omega arith
