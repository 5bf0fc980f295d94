-- `entries::put_pairs` meets its contract: after i turns the first i entries stand at the front.
use mathlib.Core.Path.{◌≡◌}
use Prim.Native.Nat.{ℕ}
use lib.ListN.{length, take}
use Rattle.wire.proofs.Writing.{Filled}
use Rattle.entries.specs.Pairs.{pairs}
use Rattle.entries.proofs.put_pairs.Given as goal

abbrev pub invariant-loop-i : goal.invariant-loop-i
invariant-loop-i l = (length l.firsts ≡ length l.seconds) × Filled (λ (k : ℕ). pairs (take k l.firsts) (take k l.seconds)) (length l.firsts) l.initial.out l.out l.i
