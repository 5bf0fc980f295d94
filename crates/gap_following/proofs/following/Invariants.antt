-- `gap_following::following` meets its contract: after i turns i TSNs have followed one another (`Followed`).
use mathlib.Core.Path.{◌≡◌}
use Prim.Native.Nat.{◌+◌, ◌-◌}
use Rattle.std.specs.Prelude.{min}
use Rattle.gap_model.proofs.Follow.{Followed}
use Rattle.gap_following.proofs.following.Given as goal

abbrev pub invariant-loop-i : goal.invariant-loop-i
invariant-loop-i l = (l.tsns ≡ l.size + l.from) × (l.most ≡ min l.room (l.n - l.from)) × Followed l.size l.n l.table l.from l.room l.tsn l.i l.want
