-- `packet_body::measure` meets its contract: each turn passes one chunk, and the first bad one decides.
use mathlib.Core.Path.{◌≡◌}
use mathlib.Core.List.{List}
use Prim.Native.Nat.{ℕ, ◌-◌}
use lib.ListN.{length}
use Rattle.packet_body.proofs.Passing.{Passing}
use Rattle.packet_body.proofs.measure.Given as goal

abbrev pub invariant-loop-at : goal.invariant-loop-at
invariant-loop-at l = (done : List ℕ) × (l.size ≡ length done) × Passing l.chunks l.at done

abbrev pub decreases-loop-at : goal.decreases-loop-at
decreases-loop-at l = length l.chunks - l.at
