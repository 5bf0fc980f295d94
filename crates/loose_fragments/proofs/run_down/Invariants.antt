-- `loose_fragments::run_down` meets its contract: after i turns the sum and the run from the wanted TSN down make up the whole run.
use mathlib.Core.Bool.{Bool}
use Prim.Native.Nat.{ℕ, ◌/◌, ◌%◌}
use lib.Dec.{eqb}
use Rattle.loose_fragments.specs.Loose.{previous}
use Rattle.loose_fragments.proofs.Run.{Run}
use Rattle.loose_fragments.proofs.run_down.Given as goal

-- the run ends with it
abbrev pub last : ℕ → Bool
last flags = eqb (flags / 2 % 2) 1

abbrev pub invariant-loop : goal.invariant-loop
invariant-loop l = Run previous last l.size l.table l.from l.n l.tsn l.counter l.sum l.want
