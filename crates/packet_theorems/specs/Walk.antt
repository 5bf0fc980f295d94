-- A whole walk over the chunks of a packet, one step after the other.
-- Assumes nothing.
use Rattle.std.specs.Prelude.{ℕ, zero, suc, ◌-◌, List, [], ◌∷◌, ◌++◌, take, drop}
use Rattle.wire_model.specs.Refusal.{Refusal, none, refuse}
use Rattle.packet_chunks.specs.Chunks.{Spot, chunk, finished, step_at}

-- a walk ends, by a refusal or without one; or it has not ended in its turns
pub data End : Type 0 where
  ended : Refusal → End
  unfinished : End

-- the chunks that were handed out, in order
pub record Walked : Type 0 where
  pub chunks : List (List ℕ)
  pub end : End

abbrev pub walked : List (List ℕ) → End → Walked
walked chunks end = record { chunks = chunks; end = end }

-- what a step at a place leads to: a chunk is handed out, and the walk goes on at the next place
abbrev pub onward : (ℕ → Walked) → List ℕ → ℕ → Refusal → Spot → Walked
onward more packet at (refuse k) s = walked [] (ended (refuse k))
onward more packet at none finished = walked [] (ended none)
onward more packet at none (chunk end next) = walked (take (end - at) (drop at packet) ∷ (more next).chunks) (more next).end

-- the walk from a place on, in so many turns
unfoldable pub walk : ℕ → List ℕ → ℕ → Walked
walk zero packet at = walked [] unfinished
walk (suc turns) packet at = onward (walk turns packet) packet at (step_at packet at).refusal (step_at packet at).values

-- bytes one behind the other
unfoldable pub together : List (List ℕ) → List ℕ
together [] = []
together (l ∷ ls) = l ++ together ls
