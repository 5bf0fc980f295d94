-- `inflight_heads::mark_again` meets its contract: after i turns the first i rows are marked, of the table whose first n heads are the slice that is written.
use mathlib.Core.Path.{◌≡◌}
use mathlib.Core.List.{List, map, ◌++◌}
use Prim.Native.Nat.{ℕ, ◌*◌}
use lib.ListN.{length, take, drop}
use Rattle.table.specs.Rows.{rows_of}
use Rattle.table.specs.declared.Row.{Row}
use Rattle.payload_model.specs.Limits.{tsns_most}
use Rattle.inflight_model.specs.Queue.{again_row}
use Rattle.inflight_model.proofs.Passes.{Passing}
use Rattle.inflight_heads.proofs.mark_again.Given as goal

-- the table with these first heads
abbrev pub words : List ℕ → ℕ → List ℕ → List ℕ
words ws n heads = heads ++ drop n ws

-- the marked rows
abbrev pub marks : List ℕ → ℕ → List Row
marks ws n = map again_row (take n (rows_of tsns_most ws))

abbrev pub invariant-loop-head : goal.invariant-loop-head
invariant-loop-head l =
    record {
      long : length (words l.fn.table l.n l.head-items) ≡ 4 * tsns_most;
      all : length (marks l.fn.table l.n) ≡ l.n;
      passing : Passing (rows_of tsns_most l.fn.table) (marks l.fn.table l.n) (rows_of tsns_most (words l.fn.table l.n l.head-items)) l.head-index;
    }
