-- A walk over any bytes ends: its places grow.
-- Assumes nothing.
use mathlib.Core.Path.{◌≡◌, refl, ap, sym}
use Prim.Native.Nat.{ℕ, zero, suc, ◌+◌, ◌-◌, ◌<◌}
use mathlib.Core.List.{List}
use native.Mathlib.Omega.{arith}
use lib.ListN.{length, take, drop}
use denote.Ref.{Bor}
use Rattle.wire_model.specs.Refusal.{Refusal, none, refuse, Told, says}
use Rattle.packet_chunks.specs.Chunks.{Spot, chunk, finished, step_at}
use Rattle.packet_chunks.proofs.Steps.{reached}
use Rattle.packet_walker.specs.Walk.{spot_bytes, bytes_at, spot_next, place_after}
use Rattle.packet_theorems.specs.Walk.{ended, onward, walk}

-- one turn is enough past the packet, and else one more than the bytes that are left
pub walk-ends-from : (packet : List ℕ) (turns at : ℕ) → 0 < turns → length packet < at + turns → (r : Refusal) × ((walk turns packet at).end ≡ ended r)
unfolding walk
walk-ends-from packet zero at some h = absurd (omega arith)
walk-ends-from packet (suc turns) at some h = go (step_at packet at).refusal (step_at packet at).values refl (walk-ends-from packet turns)
  where
    Rest : Type 0
    Rest = (next : ℕ) → 0 < turns → length packet < next + turns → (r : Refusal) × ((walk turns packet next).end ≡ ended r)

    go : (refusal : Refusal) (spot : Spot) → says refusal spot ≡ step_at packet at → Rest → (r : Refusal) × ((onward (walk turns packet) packet at refusal spot).end ≡ ended r)
    go (refuse k) spot e rest = (refuse k, refl)
    go none finished e rest = (none, refl)
    go none (chunk end next) e rest =
        let p = reached packet at e in
        rest next (omega (arith, p.some, p.on, p.within)) (omega (arith, p.some, p.on))

-- so it ends in one turn more than there are bytes, wherever it starts
pub walk_ends : (packet : List ℕ) (turns at : ℕ) → length packet < turns → (r : Refusal) × ((walk turns packet at).end ≡ ended r)
walk_ends packet turns at h = walk-ends-from packet turns at (omega arith) (omega arith)

-- what a walker hands out at a chunk, and where it goes on, is what the walk has there
module _ (packet : Bor (List ℕ)) (at : ℕ) {end next : ℕ} (e : says none (chunk end next) ≡ step_at packet.now at) where
  pub walker_hands : (bytes_at packet at).bytes ≡ take (end - at) (drop at packet.now)
  unfolding bytes_at
  walker_hands = sym (ap (λ (t : Told Spot). (spot_bytes packet at t.values).bytes) e)

  pub walker_goes_on : place_after packet.now at ≡ next
  unfolding place_after
  walker_goes_on = sym (ap (λ (t : Told Spot). spot_next at t.values) e)
