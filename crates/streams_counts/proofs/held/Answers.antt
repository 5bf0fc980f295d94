-- `streams_counts::held` meets its contract: after i turns the sums are those of the streams up to i.
use mathlib.Core.Path.{◌≡◌, ap, ◌∙◌}
use Prim.Native.Nat.{ℕ, ◌+◌, ◌-◌, ◌*◌, ◌≤◌}
use native.Mathlib.Omega.{arith}
use borrow.Author.Rules.{rules}
use lib.ListN.{take, drop}
use Rattle.reassembly_state.specs.Limits.{frags_most}
use Rattle.reassembly_state.specs.State.{count}
use Rattle.reassembly_state.specs.declared.Counts.{Counts}
use Rattle.streams_model.specs.Shape.{queues_of}
use Rattle.streams_model.specs.State.{summed, bytes_of}
use Rattle.streams_counts.proofs.Counting.{added_none, added_more, added_within}
use Rattle.streams_counts.proofs.held.Goals as goal

pub loop-i-init : goal.loop-i-init
loop-i-init c = added_none (queues_of c.args.streams) c.args.from c.args.to (search rules)

pub overflow_add-rows : goal.overflow_add-rows
overflow_add-rows c =
    let rows-within : c.loop-i.rows + count c.at-queue.result ≤ frags_most = let a = c.args in let w = added_within (queues_of a.streams) a.from a.to c.loop-i.invariant (omega arith) (omega arith) c.at-queue.ensures count in omega (arith, w, c.loop-i.invariant.rows_are) in
    omega (arith, rows-within)

pub overflow_add-rows-in-loop-i : goal.overflow_add-rows-in-loop-i
overflow_add-rows-in-loop-i c =
    let rows-within : c.loop-i.rows + count c.at-queue.result ≤ frags_most = let a = c.args in let w = added_within (queues_of a.streams) a.from a.to c.loop-i.invariant (omega arith) (omega arith) c.at-queue.ensures count in omega (arith, w, c.loop-i.invariant.rows_are) in
    omega (arith, rows-within)

pub overflow_add-rows-in-loop-i-2 : goal.overflow_add-rows-in-loop-i-2
overflow_add-rows-in-loop-i-2 c =
    let rows-within : c.loop-i.rows + count c.at-queue.result ≤ frags_most = let a = c.args in let w = added_within (queues_of a.streams) a.from a.to c.loop-i.invariant (omega arith) (omega arith) c.at-queue.ensures count in omega (arith, w, c.loop-i.invariant.rows_are) in
    omega (arith, rows-within)

pub overflow_add-bytes : goal.overflow_add-bytes
overflow_add-bytes c =
    let bytes_within : c.loop-i.bytes + bytes_of c.at-queue.result ≤ 16777216 * frags_most = let a = c.args in let w = added_within (queues_of a.streams) a.from a.to c.loop-i.invariant (omega arith) (omega arith) c.at-queue.ensures bytes_of in omega (arith, w, c.loop-i.invariant.bytes_are) in
    omega (arith, bytes_within)

pub loop-i-preserved : goal.loop-i-preserved
loop-i-preserved c =
    let a = c.args in
    added_more (queues_of a.streams) a.from a.to c.loop-i.invariant (omega arith) (omega arith) c.at-queue.ensures

pub returns : goal.returns
returns c =
    let a = c.args in
    let e : c.loop-i.i ≡ a.to = omega arith in
    let up : (f : Counts → ℕ) → summed f (take (c.loop-i.i - a.from) (drop a.from (queues_of a.streams))) ≡ summed f (take (a.to - a.from) (drop a.from (queues_of a.streams))) =
    λ f. ap (λ (n : ℕ). summed f (take (n - a.from) (drop a.from (queues_of a.streams)))) e in
    record {
      rows_value = c.loop-i.invariant.rows_are ∙ up count;
      bytes_value = c.loop-i.invariant.bytes_are ∙ up bytes_of;
    }
