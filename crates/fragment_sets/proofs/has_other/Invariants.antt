-- `fragment_sets::has_other` meets its contract: it is whether one of the ids passed holds another SSN.
use mathlib.Core.Path.{◌≡◌}
use mathlib.Core.Bool.{not}
use Prim.Native.Nat.{ℕ, ◌%◌}
use lib.Dec.{eqb}
use lib.ListN.{take}
use Rattle.std.specs.List.{list_any}
use Rattle.fragment_sets.proofs.has_other.Given as goal

abbrev pub invariant-loop-id : goal.invariant-loop-id
invariant-loop-id l = (l.wanted ≡ l.ssn) × (l.found ≡ list_any (λ (w : ℕ). not (eqb (w % 65536) l.ssn)) (take l.id-index l.id-items))
