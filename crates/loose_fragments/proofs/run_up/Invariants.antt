-- `loose_fragments::run_up` meets its contract: after i turns the sum and the run from the wanted TSN on make up the whole run.
use mathlib.Core.Bool.{Bool}
use Prim.Native.Nat.{ℕ, ◌%◌}
use lib.Dec.{eqb}
use Rattle.serial_model.specs.Serial.{next}
use Rattle.loose_fragments.proofs.Run.{Run}
use Rattle.loose_fragments.proofs.run_up.Given as goal

-- the run ends with it
abbrev pub last : ℕ → Bool
last flags = eqb (flags % 2) 1

abbrev pub invariant-loop : goal.invariant-loop
invariant-loop l = Run (next 32) last l.size l.table l.from l.n l.tsn l.counter l.sum l.want
