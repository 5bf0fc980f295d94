-- A nesting of causes, the bytes that say it, and the causes that it has: RFC 4960 sections 3.3.10 and 3.3.7.
-- Assumes nothing.
use Rattle.std.specs.Prelude.{◌≡◌, ◌⊎◌, ℕ, ◌+◌, ◌-◌, ◌<◌, List, [], ◌∷◌, ◌++◌, length, replicate}
use Rattle.wire_model.specs.BigEndian.{big_endian}
use Rattle.chunk.specs.Layout.{chunk}
use Rattle.packet_parts.specs.Fronts.{rounded}
use Rattle.cause_parts.specs.Causes.{Cause, cause}

-- causes one behind the other
pub data Nest : Type 0 where
  finish : Nest
  -- one that holds no chunk: its code and its value
  plain : ℕ → List ℕ → Nest → Nest
  -- one that holds an ERROR or ABORT chunk: type and flags, the chunk's causes, and the bytes of the value past the chunk
  holding : ℕ → ℕ → Nest → List ℕ → Nest → Nest

-- Cause Code, Cause Length, Cause-Specific Information
abbrev pub cause_bytes : ℕ → List ℕ → List ℕ
cause_bytes code value = big_endian 2 code ++ (big_endian 2 (4 + length value) ++ value)

-- zeros between a cause of so many bytes and the next one; none behind the last
abbrev pub gap : ℕ → Nest → List ℕ
gap n finish = []
gap n (plain code value more) = replicate (rounded n - n) 0
gap n (holding kind flags inner past more) = replicate (rounded n - n) 0

unfoldable pub nest_bytes : Nest → List ℕ
nest_bytes finish = []
nest_bytes (plain code value more) = cause_bytes code value ++ (gap (4 + length value) more ++ nest_bytes more)
nest_bytes (holding kind flags inner past more) =
    let value = chunk kind flags (nest_bytes inner) ++ past in
    cause_bytes 6 value ++ (gap (4 + length value) more ++ nest_bytes more)

-- the value of a cause that holds a chunk
abbrev pub held_value : ℕ → ℕ → Nest → List ℕ → List ℕ
held_value kind flags inner past = chunk kind flags (nest_bytes inner) ++ past

-- its causes from a place on, outer before inner
unfoldable pub nest_causes : ℕ → ℕ → Nest → List Cause
nest_causes depth at finish = []
nest_causes depth at (plain code value more) = cause code depth (at + 4) (length value) ∷ nest_causes depth (at + rounded (4 + length value)) more
nest_causes depth at (holding kind flags inner past more) =
    let size = length (held_value kind flags inner past) in
    cause 6 depth (at + 4) size ∷ (nest_causes (depth + 1) (at + 4 + 4) inner ++ nest_causes depth (at + rounded (4 + size)) more)

-- every number fits its field, and a cause of code 6 that holds no chunk has no value
unfoldable pub NestFits : Nest → Type 0
NestFits finish = Unit {0}
NestFits (plain code value more) = (code < 65536) × (code ≡ 6 → value ≡ []) × (4 + length value < 65536) × NestFits more
NestFits (holding kind flags inner past more) =
    ((kind ≡ 9) ⊎ (kind ≡ 6)) × (flags < 256) × (4 + length (held_value kind flags inner past) < 65536) × NestFits inner × NestFits more
