-- `streams_counts::unsound` meets its contract: after i turns the first i streams are within the table and their byte counts are their sums.
use mathlib.Core.Path.{sym, ◌∙◌}
use Prim.Native.Nat.{◌+◌, ◌-◌, ◌*◌, ◌≤◌}
use native.Mathlib.Omega.{arith}
use borrow.Author.Tests.{lt-ltb, le-ltb, ltb-false}
use lib.ListN.{drop}
use Rattle.reassembly_state.specs.Limits.{frags_most}
use Rattle.reassembly_state.specs.State.{count}
use Rattle.streams_model.specs.State.{state_of}
use Rattle.streams_model.proofs.Laws.{bytes_most_lem}
use Rattle.streams_counts.proofs.Counting.{asked_none, too_many, unequal, asked-more, asked-all}
use Rattle.streams_counts.proofs.unsound.Goals as goal

pub loop-i-init : goal.loop-i-init
loop-i-init c = let a = c.args in asked_none (state_of a.streams a.table.now a.pool.now)

pub overflow_sub-first : goal.overflow_sub-first
overflow_sub-first c = omega (arith, c.loop-i.invariant.few)

pub returns-then-above : goal.returns-then-above
returns-then-above c =
    let of = let a = c.args in state_of a.streams a.table.now a.pool.now in
    too_many of c.loop-i.invariant (omega arith) c.at-queue.ensures (sym c.above.ensures ∙ c.if-above.true)

pub overflow_add-n : goal.overflow_add-n
overflow_add-n c =
    let fits : c.loop-i.first + count c.at-queue.result ≤ frags_most = let within = ltb-false (frags_most - c.loop-i.first) (count c.at-queue.result) (sym c.above.ensures ∙ c.if-above.false) in omega (arith, within, c.loop-i.invariant.few) in
    omega (arith, fits)

pub overflow_add-n-in-loop-i : goal.overflow_add-n-in-loop-i
overflow_add-n-in-loop-i c =
    let fits : c.loop-i.first + count c.at-queue.result ≤ frags_most = let within = ltb-false (frags_most - c.loop-i.first) (count c.at-queue.result) (sym c.above.ensures ∙ c.if-above.false) in omega (arith, within, c.loop-i.invariant.few) in
    omega (arith, fits)

pub sum_long-sum-requires : goal.sum_long-sum-requires
sum_long-sum-requires c =
    let fits : c.loop-i.first + count c.at-queue.result ≤ frags_most = let within = ltb-false (frags_most - c.loop-i.first) (count c.at-queue.result) (sym c.above.ensures ∙ c.if-above.false) in omega (arith, within, c.loop-i.invariant.few) in
    record {
      size_bound = omega arith;
      table_len = omega arith;
      n_bound = omega (arith, fits);
    }

pub returns-then-sum-queue : goal.returns-then-sum-queue
returns-then-sum-queue c =
    let of = let a = c.args in state_of a.streams a.table.now a.pool.now in
    unequal of c.loop-i.invariant (omega arith) c.at-queue.ensures c.sum_long-sum.ensures c.if-sum-queue.true

pub overflow_add-first : goal.overflow_add-first
overflow_add-first c =
    let fits : c.loop-i.first + count c.at-queue.result ≤ frags_most = let within = ltb-false (frags_most - c.loop-i.first) (count c.at-queue.result) (sym c.above.ensures ∙ c.if-above.false) in omega (arith, within, c.loop-i.invariant.few) in
    omega (arith, fits)

pub overflow_add-bytes : goal.overflow_add-bytes
overflow_add-bytes c =
    let of = let a = c.args in state_of a.streams a.table.now a.pool.now in
    let fits : c.loop-i.first + count c.at-queue.result ≤ frags_most = let within = ltb-false (frags_most - c.loop-i.first) (count c.at-queue.result) (sym c.above.ensures ∙ c.if-above.false) in omega (arith, within, c.loop-i.invariant.few) in
    let summed : c.sum_long-sum.result ≤ 16777216 * frags_most = rw c.sum_long-sum.ensures (bytes_most_lem (count c.at-queue.result) (drop c.loop-i.first of.rows) (omega (arith, fits))) in
    omega (arith, summed, c.loop-i.invariant.small)

pub loop-i-preserved : goal.loop-i-preserved
loop-i-preserved c =
    let of = let a = c.args in state_of a.streams a.table.now a.pool.now in
    let fits : c.loop-i.first + count c.at-queue.result ≤ frags_most = let within = ltb-false (frags_most - c.loop-i.first) (count c.at-queue.result) (sym c.above.ensures ∙ c.if-above.false) in omega (arith, within, c.loop-i.invariant.few) in
    let summed : c.sum_long-sum.result ≤ 16777216 * frags_most = rw c.sum_long-sum.ensures (bytes_most_lem (count c.at-queue.result) (drop c.loop-i.first of.rows) (omega (arith, fits))) in
    asked-more of c.loop-i.invariant (omega arith) c.at-queue.ensures c.sum_long-sum.ensures (sym c.above.ensures ∙ c.if-above.false) c.if-sum-queue.false summed

pub returns-then-room-lt-BYTES : goal.returns-then-room-lt-BYTES
returns-then-room-lt-BYTES c =
    let of = let a = c.args in state_of a.streams a.table.now a.pool.now in
    rw (lt-ltb _ _ c.if-room-lt-BYTES.true) at (asked-all of c.loop-i.invariant (omega arith))

pub returns : goal.returns
returns c =
    let of = let a = c.args in state_of a.streams a.table.now a.pool.now in
    rw (le-ltb _ _ c.if-room-lt-BYTES.false) at (asked-all of c.loop-i.invariant (omega arith))
