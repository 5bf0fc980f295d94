-- The chunk that bytes begin with: RFC 4960 section 3.2.
-- Assumes nothing.
use Rattle.std.specs.Prelude.{ℕ, ◌+◌, ◌*◌, ◌/◌, ◌≤◌, List, [], ◌∷◌, length, get_or, Result, Ok, Err}
use Rattle.wire_model.specs.Refusal.{Check, first, Told, answer}
use Rattle.chunk.specs.Layout.{Header, header}
use Rattle.chunk.specs.Header.{header_checks}
use Rattle.refusal.specs.declared.Refusal.{Refusal}

-- Chunk Type, Chunk Flags and Chunk Length, big-endian, where they stand
unfoldable pub front_header : List ℕ → Header
front_header bytes = header (get_or bytes 0 0) (get_or bytes 1 0) (get_or bytes 2 0 * 256 + get_or bytes 3 0)

abbrev pub front_size : List ℕ → ℕ
front_size bytes = (front_header bytes).size

-- 1: "fewer than 4 bytes"; 2: "length below 4 or above the bytes lent"
abbrev pub front_checks : List ℕ → List Check
front_checks bytes = header_checks (length bytes) (front_header bytes)

-- "One to three bytes left are refusal 1; a bad length is 2"; where no byte is left nothing is refused
abbrev pub left_checks : List ℕ → List Check
left_checks [] = []
left_checks (b ∷ bytes) = front_checks (b ∷ bytes)

-- the byte count of the chunk, or what refuses it
unfoldable pub size_read : List ℕ → Told ℕ
size_read bytes = answer 0 (first (front_checks bytes)) (front_size bytes)

-- where a size comes back the chunk has its header, and lies within what is lent
abbrev pub SizeRoom : ℕ → Result ℕ Refusal → Type 0
SizeRoom lent (Ok n) = (4 ≤ n) × (n ≤ lent)
SizeRoom lent (Err e) = Unit {0}

-- "the length rounded up to 4"
unfoldable pub rounded : ℕ → ℕ
rounded n = (n + 3) / 4 * 4
