-- `streams_counts::above` meets its contract: each count is compared with what the ones before it leave.
use mathlib.Core.Path.{sym, ◌∙◌}
use Prim.Native.Nat.{◌+◌, ◌-◌}
use native.Mathlib.Omega.{arith}
use borrow.Author.Tests.{lt-ltb}
use Rattle.reassembly_state.specs.State.{count}
use Rattle.reassembly_state.proofs.Laws.{above_left}
use Rattle.streams_counts.proofs.above.Goals as goal

pub returns-then-most-queue : goal.returns-then-most-queue
returns-then-most-queue c = let a = c.args in sym (lt-ltb a.most (count a.queue) (omega arith))

pub returns-then-left-queue : goal.returns-then-left-queue
returns-then-left-queue c = let a = c.args in sym (lt-ltb a.most (count a.queue) (omega arith))

pub returns : goal.returns
returns c =
    let a = c.args in
    let q = a.queue in
    above_left (a.most - q.finished) q.unordered q.ordered (omega arith) ∙ above_left a.most q.finished (q.unordered + q.ordered) (omega arith)
