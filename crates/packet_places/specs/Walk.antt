-- What a walk over the chunks of a packet hands out at its place, and where it goes on.
-- Assumes nothing.
use Rattle.std.specs.Prelude.{ℕ, ◌+◌, ◌-◌, List, [], take, drop}
use Rattle.std.specs.Borrow.{Bor}
use Rattle.packet_chunks.specs.Chunks.{Spot, chunk, finished, step_at}

-- a part's bytes, and where it lies: its block of memory and the offset there
pub record Lies : Type 0 where
  pub bytes : List ℕ
  pub place : ℕ × ℕ

abbrev pub lies : Bor (List ℕ) → Lies
lies r = record { bytes = r.now; place = r.ref_ptr }

-- a chunk goes from its place up to its end; where there is none the part is empty
abbrev pub spot_bytes : Bor (List ℕ) → ℕ → Spot → Lies
spot_bytes packet at (chunk end next) = record { bytes = take (end - at) (drop at packet.now); place = (packet.ref_ptr.0, at + packet.ref_ptr.1) }
spot_bytes packet at finished = record { bytes = []; place = packet.ref_ptr }

unfoldable pub bytes_at : Bor (List ℕ) → ℕ → Lies
bytes_at packet at = spot_bytes packet at (step_at packet.now at).values

-- "It advances by the length rounded up to 4"; at the end, and where a step is refused, it stays
abbrev pub spot_next : ℕ → Spot → ℕ
spot_next at (chunk end next) = next
spot_next at finished = at

unfoldable pub place_after : List ℕ → ℕ → ℕ
place_after packet at = spot_next at (step_at packet at).values
