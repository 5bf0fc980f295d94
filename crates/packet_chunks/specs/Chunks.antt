-- The chunks of a packet, from a place on: document 02's request M-103.
-- Assumes nothing.
use Rattle.std.specs.Prelude.{ℕ, ◌+◌, min, ◌||◌, List, [], ◌∷◌, ◌++◌, ltb, length, drop, Result, Option, Some, None}
use Rattle.wire_model.specs.Refusal.{Check, when, first, Told, answer}
use Rattle.packet_parts.specs.Fronts.{front_size, left_checks, rounded}
use Rattle.refusal.specs.Told.{answer_told}
use Rattle.refusal.specs.declared.Refusal.{Refusal}
use Rattle.packet_chunks.specs.declared.Found.{Found}

-- a chunk up to an end, and the place of what follows it; or no chunk any more
pub data Spot : Type 0 where
  chunk : ℕ → ℕ → Spot
  finished : Spot

-- "a place below 12 or past the packet is 11, before all else"
abbrev pub place_checks : List ℕ → ℕ → List Check
place_checks packet at = when (ltb at 12 || ltb (length packet) at) 11 ∷ []

-- "It advances by the length rounded up to 4; rounding past the end finishes the walk": what is left at a place of a packet of so many bytes
abbrev pub spot : ℕ → ℕ → List ℕ → Spot
spot end at [] = finished
spot end at (b ∷ bytes) = let size = front_size (b ∷ bytes) in chunk (at + size) (min (at + rounded size) end)

unfoldable pub step_at : List ℕ → ℕ → Told Spot
step_at packet at = answer finished (first (place_checks packet at ++ left_checks (drop at packet))) (spot (length packet) at (drop at packet))

-- a chunk that is found, or none
abbrev pub spot_of : Option Found → Spot
spot_of (Some f) = chunk f.end f.next
spot_of None = finished

-- what a step tells: its number, and what stands at the place
abbrev pub step_told : Result (Option Found) Refusal → Told Spot
step_told = answer_told finished spot_of
