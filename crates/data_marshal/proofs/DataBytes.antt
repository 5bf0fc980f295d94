-- The bytes of a DATA chunk: their number.
-- Assumes nothing.
use mathlib.Core.Path.{◌≡◌, refl}
use mathlib.Core.List.{List}
use Prim.Native.Nat.{ℕ, ◌+◌}
use native.Mathlib.Omega.{arith}
use lib.ListN.{length, length-append}
use Rattle.wire_model.specs.BigEndian.{big_endian}
use Rattle.data_fields.specs.Fields.{Data}
use Rattle.data_marshal.specs.Layout.{data_value, data_chunk}
use Rattle.chunk.proofs.Headers.{header-length}

pub data_value-length : (d : Data) → length (data_value d) ≡ 12
unfolding big_endian data_value
data_value-length d = refl

-- a DATA chunk has 16 bytes and its user data
pub data_chunk-length : (flags : ℕ) (d : Data) (user : List ℕ) → length (data_chunk flags d user) ≡ 16 + length user
data_chunk-length flags d user = simp (length-append, header-length, data_value-length) (omega arith)
