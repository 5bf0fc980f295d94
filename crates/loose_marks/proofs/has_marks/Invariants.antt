-- `loose_marks::has_marks` meets its contract: of the heads passed it is whether one is B, and whether one is E.
use mathlib.Core.Path.{◌≡◌}
use Prim.Native.Nat.{ℕ, ◌/◌, ◌%◌}
use lib.Dec.{eqb}
use lib.ListN.{take}
use Rattle.std.specs.List.{list_any}
use Rattle.loose_marks.proofs.has_marks.Given as goal

abbrev pub invariant-loop-head : goal.invariant-loop-head
invariant-loop-head l = (l.begin ≡ list_any (λ (w : ℕ). eqb (w / 16777216 / 2 % 2) 1) (take l.head-index l.head-items)) × (l.end ≡ list_any (λ (w : ℕ). eqb (w / 16777216 % 2) 1) (take l.head-index l.head-items))
