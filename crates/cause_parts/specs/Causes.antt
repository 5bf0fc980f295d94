-- The causes of an ERROR or ABORT chunk: RFC 4960 sections 3.3.10 and 3.3.7, and document 02's request M-106.
-- Assumes nothing.
use Rattle.std.specs.Prelude.{ℕ, zero, suc, ◌+◌, ◌-◌, ◌*◌, cond, ◌||◌, List, [], ◌∷◌, ◌++◌, ltb, eqb, length, get_or, take, drop}
use Rattle.wire_model.specs.Refusal.{Refusal, none, refuse, Check, when, first}
use Rattle.packet_parts.specs.Fronts.{front_header, front_size, left_checks, rounded}

-- "code, depth (0 outermost), start in the chunk and length of its value"
pub record Cause : Type 0 where
  pub code : ℕ
  pub depth : ℕ
  pub start : ℕ
  pub size : ℕ

abbrev pub cause : ℕ → ℕ → ℕ → ℕ → Cause
cause code depth start size = record { code = code; depth = depth; start = start; size = size }

-- ── reading in order ──

-- the causes that were read, in order, and the fault at which reading ended
pub record Reading : Type 0 where
  pub causes : List Cause
  pub fault : Refusal

abbrev pub reading : List Cause → Refusal → Reading
reading cs k = record { causes = cs; fault = k }

-- causes, and what is read behind them
abbrev pub onward : List Cause → Reading → Reading
onward cs r = reading (cs ++ r.causes) r.fault

-- "The first fault in reading order decides": behind a fault nothing is read
abbrev pub unless : Refusal → List Cause → Reading → Reading
unless none cs r = onward cs r
unless (refuse k) cs r = reading cs (refuse k)

abbrev pub checked : List Check → Reading → Reading
checked checks r = unless (first checks) [] r

infixr 20 ◌then◌
abbrev pub ◌then◌ : Reading → Reading → Reading
r then s = unless r.fault r.causes s

-- ── one cause ──

-- "causes of code 2, length 2 counting its own 4 bytes, value"
unfoldable pub cause_code : List ℕ → ℕ
cause_code bytes = get_or bytes 0 0 * 256 + get_or bytes 1 0

unfoldable pub cause_size : List ℕ → ℕ
cause_size bytes = get_or bytes 2 0 * 256 + get_or bytes 3 0

abbrev pub cause_value : List ℕ → List ℕ
cause_value bytes = drop 4 (take (cause_size bytes) bytes)

-- "Refusal 16: one to three bytes where a cause should start, or a cause length below 4 or past its chunk"
abbrev pub cause_checks : List ℕ → List Check
cause_checks bytes = when (ltb (length bytes) 4) 16 ∷ when (ltb (cause_size bytes) 4 || ltb (length bytes) (cause_size bytes)) 16 ∷ []

-- "follow ERROR and ABORT inside, check only the header of other kinds, ignore cause bytes past the enclosed chunk": the causes of the chunk that a value begins with
abbrev pub chunk_causes : List ℕ → List ℕ
chunk_causes value = let kind = (front_header value).kind in cond (eqb kind 9 || eqb kind 6) (drop 4 (take (front_size value) value)) []

-- ── causes that hold chunks that hold causes ──

-- "an empty value holds none", "An enclosed header gives 1 or 2": the chunk in a value that stands at a place, its causes one deeper
abbrev pub chunk_by : (ℕ → ℕ → List ℕ → Reading) → ℕ → ℕ → List ℕ → Reading
chunk_by read depth at value = checked (left_checks value) (read (depth + 1) (at + 4) (chunk_causes value))

-- "Under code 6 a cause may hold a chunk"
abbrev pub held_by : (ℕ → ℕ → List ℕ → Reading) → ℕ → ℕ → List ℕ → Reading
held_by read depth at bytes = cond (eqb (cause_code bytes) 6) (chunk_by read depth (at + 4) (cause_value bytes)) (reading [] none)

-- "Report every cause in order, outer before inner": the cause at a place, what it holds, and "next cause at the length rounded up to 4"
abbrev pub cause_by : (ℕ → ℕ → List ℕ → Reading) → ℕ → ℕ → List ℕ → Reading
cause_by read depth at bytes =
    checked (cause_checks bytes)
    (reading (cause (cause_code bytes) depth (at + 4) (cause_size bytes - 4) ∷ []) none
    then held_by read depth at bytes
    then read depth (at + rounded (cause_size bytes)) (drop (rounded (cause_size bytes)) bytes))

-- the causes from a place on, at a depth, in at most so many turns; where no byte is left the list is finished
unfoldable pub causes_in : ℕ → ℕ → ℕ → List ℕ → Reading
causes_in zero depth at bytes = reading [] none
causes_in (suc turns) depth at [] = reading [] none
causes_in (suc turns) depth at (b ∷ bytes) = cause_by (causes_in turns) depth at (b ∷ bytes)

-- each call is on fewer bytes (`causes-step`), so there are no more turns than bytes
unfoldable pub causes : ℕ → ℕ → List ℕ → Reading
causes depth at bytes = causes_in (length bytes) depth at bytes

abbrev pub chunk_held : ℕ → ℕ → List ℕ → Reading
chunk_held depth at value = chunk_by causes depth at value
