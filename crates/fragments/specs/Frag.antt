-- A fragment: the header fields and the user data of a DATA chunk that is held, and what it says.
-- Assumes nothing.
use Rattle.std.specs.Prelude.{ℕ, ◌+◌, ◌*◌, ◌/◌, ◌%◌, Bool, List, eqb, length, replicate}
use Rattle.serial_model.specs.Serial.{before}
use Rattle.table.specs.Rows.{row}
use Rattle.table.specs.declared.Row.{Row}

-- flags, TSN, stream and SSN in one word, payload identifier, and user data
pub record Frag : Type 0 where
  pub flags : ℕ
  pub tsn : ℕ
  pub id : ℕ
  pub ppi : ℕ
  pub bytes : List ℕ

-- ── what it says ──

-- "flags E=1, B=2"
abbrev pub ends : Frag → Bool
ends x = eqb (x.flags % 2) 1

abbrev pub begins : Frag → Bool
begins x = eqb (x.flags / 2 % 2) 1

-- the SSN stands in the lower half of the id
abbrev pub ssn_of : Frag → ℕ
ssn_of x = x.id % 65536

-- x has the TSN t; x is before it; x is after it
abbrev pub has_tsn : ℕ → Frag → Bool
has_tsn t x = eqb x.tsn t

abbrev pub tsn_before : ℕ → Frag → Bool
tsn_before t x = before 32 x.tsn t

abbrev pub tsn_after : ℕ → Frag → Bool
tsn_after t x = before 32 t x.tsn

-- x is of a set with SSN s; of one before it
abbrev pub has_ssn : ℕ → Frag → Bool
has_ssn s x = eqb (ssn_of x) s

abbrev pub ssn_before : ℕ → Frag → Bool
ssn_before s x = before 16 (ssn_of x) s

-- ── the record of a fragment, and the fragment of a record ──

-- a data length of 24 bits stands in the lower bits of the head, the flags above it
abbrev pub long_length : ℕ → ℕ
long_length head = head % 16777216

abbrev pub row_of : Frag → Row
row_of x = row (x.flags * 16777216 + length x.bytes) x.tsn x.id x.ppi

-- a record with these bytes
abbrev pub frag_of : Row → List ℕ → Frag
frag_of r bytes = record { flags = r.head / 16777216; tsn = r.tsn; id = r.id; ppi = r.ppi; bytes = bytes }

-- a record with as many bytes as it says, whatever they are: enough for whatever looks at no byte
abbrev pub bare : Row → Frag
bare r = frag_of r (replicate (long_length r.head) 0)

-- what a record says of its fragment
abbrev pub of_row : (Frag → Bool) → Row → Bool
of_row p r = p (bare r)
