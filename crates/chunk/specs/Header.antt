-- Reading a header: what is refused, and what an answer says.
-- Assumes nothing.
use Rattle.std.specs.Prelude.{ℕ, ◌≤◌, not, ◌||◌, List, [], ◌∷◌, ◌++◌, ltb, eqb, Result, Ok, Err}
use Rattle.wire_model.specs.Refusal.{none, refuse, Check, when, first, Told, says, answer}
use Rattle.refusal.specs.declared.Refusal.{Refusal}
use Rattle.refusal.specs.Told.{number, answer_told}
use Rattle.wire.specs.Front.{Front}
use Rattle.chunk.specs.Layout.{Header, header, HeaderFits, header_bytes}
use Rattle.chunk.specs.declared.chunk_header.ChunkHeader.{ChunkHeader}
use Rattle.chunk.specs.declared.chunk_header.Unfit.{Unfit}
use Rattle.chunk.specs.declared.chunk_header.Unfit.TheVariants.{Refused, Below}

-- the header that the lent bytes begin with
abbrev pub HeaderFront : List ℕ → Type 0
HeaderFront raw = Front header_bytes HeaderFits 4 raw

-- 1: "fewer than 4 bytes lent"; 2: "length below 4 or above the bytes lent"
abbrev pub header_checks : ℕ → Header → List Check
header_checks lent h = when (ltb lent 4) 1 ∷ when (ltb h.size 4 || ltb lent h.size) 2 ∷ []

-- 3: "not the type asked for"; and a length below the least of its type, with the number of that type
abbrev pub kind_only : ℕ → ℕ → ℕ → Header → List Check
kind_only kind least short h = when (not (eqb h.kind kind)) 3 ∷ when (ltb h.size least) short ∷ []

abbrev pub kind_checks : ℕ → ℕ → ℕ → ℕ → Header → List Check
kind_checks kind least short lent h = header_checks lent h ++ kind_only kind least short h

-- what an answer has: type, flags, length
abbrev pub header_of : ChunkHeader → Header
header_of h = header h.typ h.flags h.length

abbrev pub header_told : Result ChunkHeader Refusal → Told Header
header_told = answer_told (header 0 0 0) header_of

-- the refusal where those below the least length of a type are refused with this one
abbrev pub short_as : Refusal → Unfit → Refusal
short_as short (Refused e) = e
short_as short Below = short

-- what an answer says that was asked for a chunk of one type, where below the least length of the type it has this number
abbrev pub header_as_told : ℕ → Result ChunkHeader Unfit → Told Header
header_as_told short (Ok h) = says none (header_of h)
header_as_told short (Err (Refused e)) = says (refuse (number e)) (header 0 0 0)
header_as_told short (Err Below) = says (refuse short) (header 0 0 0)

unfoldable pub header_read : List Check → Header → Told Header
header_read checks h = answer (header 0 0 0) (first checks) h

-- where a header comes back its length is at least the least of its type, and at most what is lent
abbrev pub Room : {E : Type 0} → ℕ → ℕ → Result ChunkHeader E → Type 0
Room least lent (Ok h) = (least ≤ h.length) × (h.length ≤ lent)
Room least lent (Err e) = Unit {0}

-- ── a header with the fields behind it ──

pub record Headed (A : Type 0) : Type 0 where
  pub header : Header
  pub fields : A

pub record HeadedFits {A : Type 0} (Fits : A → Type 0) (h : Headed A) : Type 0 where
  pub header : HeaderFits h.header
  pub fields : Fits h.fields

abbrev pub headed_bytes : {A : Type 0} → (A → List ℕ) → Headed A → List ℕ
headed_bytes value h = header_bytes h.header ++ value h.fields

-- the header, and the 12 bytes of fields behind it, that the lent bytes begin with
abbrev pub HeadedFront : {A : Type 0} → (A → List ℕ) → (A → Type 0) → List ℕ → Type 0
HeadedFront value Fits raw = Front (headed_bytes value) (HeadedFits Fits) 16 raw
