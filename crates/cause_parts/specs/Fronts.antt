-- The cause at a place of a chunk, and the chunk in a cause's value: what is answered of each.
-- Assumes nothing.
use Rattle.std.specs.Prelude.{◌≡◌, ℕ, ◌+◌, ◌≤◌, List, [], length, take, drop, Result, Ok, Err, Option, Some, None}
use Rattle.wire_model.specs.Refusal.{none, refuse, first}
use Rattle.refusal.specs.Told.{number}
use Rattle.refusal.specs.declared.Refusal.{Refusal}
use Rattle.packet_parts.specs.Fronts.{left_checks}
use Rattle.cause_parts.specs.Causes.{cause_code, cause_size, cause_checks, chunk_causes}
use Rattle.cause_parts.specs.declared.CauseHeader.{CauseHeader}

-- the cause that bytes begin with passes, and has this code and size
pub record CauseThere (bytes : List ℕ) (h : CauseHeader) : Type 0 where
  pub passes : first (cause_checks bytes) ≡ none
  pub code : h.code ≡ cause_code bytes
  pub size : h.size ≡ cause_size bytes
  pub four : 4 ≤ h.size
  pub within : h.size ≤ length bytes

-- what each case says of the bytes at a place
abbrev pub CauseAt : List ℕ → Result CauseHeader Refusal → Type 0
CauseAt bytes (Ok h) = CauseThere bytes h
CauseAt bytes (Err e) = first (cause_checks bytes) ≡ refuse (number e)

-- the chunk that the bytes from a place on begin with has causes, up to an end
pub record CausesThere (raw : List ℕ) (at end : ℕ) : Type 0 where
  pub passes : first (left_checks (drop at raw)) ≡ none
  pub are : chunk_causes (drop at raw) ≡ drop (at + 4) (take end raw)
  pub four : at + 4 ≤ end
  pub within : end ≤ length raw

abbrev pub ChunkAt : List ℕ → ℕ → Result (Option ℕ) Refusal → Type 0
ChunkAt raw at (Ok (Some end)) = CausesThere raw at end
ChunkAt raw at (Ok None) = (first (left_checks (drop at raw)) ≡ none) × (chunk_causes (drop at raw) ≡ [])
ChunkAt raw at (Err e) = first (left_checks (drop at raw)) ≡ refuse (number e)
