-- A file of captured chunks: document 02, M-113.
-- Assumes nothing.
use Rattle.std.specs.Prelude.{ℕ, zero, suc, ◌+◌, ◌*◌, Bool, false, cond, List, [], ◌∷◌, eqb, ltb, length, get_or, take, drop, Option, Some, None}
use Rattle.replay_file.specs.declared.Record.{Record}
use Rattle.replay_file.specs.declared.Record.TheVariants as answers

-- "big-endian": the number that the first k bytes are
unfoldable pub number : ℕ → List ℕ → ℕ
number zero bytes = 0
number (suc k) bytes = number k bytes * 256 + get_or bytes k 0

-- "one version byte, 1, at the front"; "Another version writes only `bad version`, and an empty file likewise"
abbrev pub versioned : List ℕ → Bool
versioned [] = false
versioned (v ∷ bytes) = eqb v 1

-- ── where a record should start ──

-- no byte is left; a record cut short; a chunk of so many bytes behind its length
pub data Start : Type 0 where
  none : Start
  short : Start
  chunk : ℕ → Start

-- "length first, two bytes big-endian, then that many bytes of one chunk"; "a record cut short, in its length or after"
unfoldable pub start : List ℕ → Start
start bytes =
    cond (eqb (length bytes) 0) none
    (cond (ltb (length bytes) 2) short
    (cond (ltb (length bytes) (2 + number 2 bytes)) short
    (chunk (number 2 bytes))))

-- the case of each answer
abbrev pub record_told : Option Record → Start
record_told None = none
record_told (Some answers.Cut) = short
record_told (Some (answers.Chunk n)) = chunk n

-- ── the records of a file, behind its version ──

pub data Part : Type 0 where
  whole : List ℕ → Part
  cut : Part

-- what starts here, and what follows it; a record that is cut short is the last
abbrev pub parted_at : Start → List ℕ → (List ℕ → List Part) → List Part
parted_at none bytes rest = []
parted_at short bytes rest = cut ∷ []
parted_at (chunk n) bytes rest = whole (take n (drop 2 bytes)) ∷ rest (drop (2 + n) bytes)

-- at most so many of them
abbrev pub records_of : ℕ → List ℕ → List Part
records_of zero bytes = []
records_of (suc most) bytes = parted_at (start bytes) bytes (records_of most)

-- "After 2^33 records it ends as at the file's end."
abbrev pub records_most : ℕ
records_most = 8589934592
