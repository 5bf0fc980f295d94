-- The chunk at a place of a packet, as C has it.
-- Assumes nothing.
use Rattle.std.specs.Prelude.{ℕ, Bool, true, false, List}
use Rattle.wire_model.specs.Refusal.{Told, says}
use Rattle.packet_chunks.specs.Chunks.{Spot, chunk, finished, step_at}

-- whether a chunk stands there, where it ends, and the place of what follows it
pub record Stop : Type 0 where
  pub found : Bool
  pub end : ℕ
  pub next : ℕ

abbrev pub stop : Bool → ℕ → ℕ → Stop
stop found end next = record { found = found; end = end; next = next }

-- where the walk is over nothing is found: false, 0 and 0
abbrev pub stop_of : Spot → Stop
stop_of (chunk end next) = stop true end next
stop_of finished = stop false 0 0

-- what `step_at` says of the place, its number with it
unfoldable pub stop_at : List ℕ → ℕ → Told Stop
stop_at packet at = says (step_at packet at).refusal (stop_of (step_at packet at).values)
