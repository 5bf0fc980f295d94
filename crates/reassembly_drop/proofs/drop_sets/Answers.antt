-- `reassembly_drop::drop_sets` meets its contract: after each set those that stay of the passed ones stand at the front.
use mathlib.Core.Path.{ap, refl}
use mathlib.Core.Bool.{not}
use Prim.Native.Nat.{◌+◌, ◌≤◌, ◌<◌}
use native.Mathlib.Omega.{arith}
use lib.ListN.{length}
use Rattle.table.specs.Rows.{rows_of}
use Rattle.table.proofs.Columns.{rows_long}
use Rattle.reassembly_state.specs.Limits.{frags_most}
use Rattle.reassembly_state.specs.State.{state_of, count}
use Rattle.reassembly_state.proofs.Laws.{Sound, sound}
use Rattle.set_reach.specs.Kept.{dropped}
use Rattle.set_reach.proofs.Skip.{dropped_blind, skip_none, skip_set, skip_bytes, skip_goes, skip_stays, skip_pool, skip_all}
use Rattle.reassembly_drop.proofs.drop_sets.Goals as goal

pub overflow_add-from : goal.overflow_add-from
overflow_add-from c =
    let of = state_of c.args.queue.now c.args.table.now c.args.pool.now in
    let ok : Sound of = sound of c.requires.pool_value in
    omega (arith, ok.few)

pub overflow_add-held : goal.overflow_add-held
overflow_add-held c =
    let of = state_of c.args.queue.now c.args.table.now c.args.pool.now in
    let ok : Sound of = sound of c.requires.pool_value in
    omega (arith, ok.few)

pub sum_long-off-requires : goal.sum_long-off-requires
sum_long-off-requires c =
    let of = state_of c.args.queue.now c.args.table.now c.args.pool.now in
    let ok : Sound of = sound of c.requires.pool_value in
    omega (arith, ok.few)

pub loop-at-init : goal.loop-at-init
loop-at-init c =
    let of = state_of c.args.queue.now c.args.table.now c.args.pool.now in
    let ok : Sound of = sound of c.requires.pool_value in
    (c.requires.table_len, skip_none (dropped c.args.last_ssn c.args.bounded c.args.tsn) (dropped_blind c.args.last_ssn c.args.bounded c.args.tsn) of ok (rows_long frags_most c.args.table.now c.requires.table_len) refl c.sum_long-off.ensures)

pub sum_long-size-requires : goal.sum_long-size-requires
sum_long-size-requires c =
    let of = state_of c.args.queue.now c.args.table.now c.args.pool.now in
    let rows_fit : (0 < c.set_at-k.result) × (c.loop-at.at + c.set_at-k.result ≤ count of.queue) = skip_set c.loop-at.invariant.1 (omega arith) c.set_at-k.ensures in
    omega (arith, rows_fit)

pub overflow_add-at : goal.overflow_add-at
overflow_add-at c =
    let of = state_of c.args.queue.now c.args.table.now c.args.pool.now in
    let rows_fit : (0 < c.set_at-k.result) × (c.loop-at.at + c.set_at-k.result ≤ count of.queue) = skip_set c.loop-at.invariant.1 (omega arith) c.set_at-k.ensures in
    omega (arith, rows_fit)

pub overflow_add-off : goal.overflow_add-off
overflow_add-off c =
    let of = state_of c.args.queue.now c.args.table.now c.args.pool.now in
    let bytes_fit : c.loop-at.off + c.sum_long-size.result ≤ length of.pool = skip_bytes c.loop-at.invariant.1 (omega arith) c.set_at-k.ensures c.sum_long-size.ensures in
    omega (arith, bytes_fit)

pub passed_over-requires : goal.passed_over-requires
passed_over-requires c =
    let of = state_of c.args.queue.now c.args.table.now c.args.pool.now in
    let rows_fit : (0 < c.set_at-k.result) × (c.loop-at.at + c.set_at-k.result ≤ count of.queue) = skip_set c.loop-at.invariant.1 (omega arith) c.set_at-k.ensures in
    omega (arith, rows_fit)

pub move_down-requires : goal.move_down-requires
move_down-requires c =
    let of = state_of c.args.queue.now c.args.table.now c.args.pool.now in
    let rows_fit : (0 < c.set_at-k.result) × (c.loop-at.at + c.set_at-k.result ≤ count of.queue) = skip_set c.loop-at.invariant.1 (omega arith) c.set_at-k.ensures in
    let bytes_fit : c.loop-at.off + c.sum_long-size.result ≤ length of.pool = skip_bytes c.loop-at.invariant.1 (omega arith) c.set_at-k.ensures c.sum_long-size.ensures in
    omega (arith, rows_fit, bytes_fit, skip_pool c.loop-at.invariant.1)

pub overflow_add-kept : goal.overflow_add-kept
overflow_add-kept c =
    let of = state_of c.args.queue.now c.args.table.now c.args.pool.now in
    let rows_fit : (0 < c.set_at-k.result) × (c.loop-at.at + c.set_at-k.result ≤ count of.queue) = skip_set c.loop-at.invariant.1 (omega arith) c.set_at-k.ensures in
    omega (arith, rows_fit)

pub overflow_add-bytes : goal.overflow_add-bytes
overflow_add-bytes c =
    let of = state_of c.args.queue.now c.args.table.now c.args.pool.now in
    let bytes_fit : c.loop-at.off + c.sum_long-size.result ≤ length of.pool = skip_bytes c.loop-at.invariant.1 (omega arith) c.set_at-k.ensures c.sum_long-size.ensures in
    omega (arith, bytes_fit, c.loop-at.invariant.1.small)

pub loop-at-smaller-then-not-passed_over : goal.loop-at-smaller-then-not-passed_over
loop-at-smaller-then-not-passed_over c =
    let of = state_of c.args.queue.now c.args.table.now c.args.pool.now in
    let rows_fit : (0 < c.set_at-k.result) × (c.loop-at.at + c.set_at-k.result ≤ count of.queue) = skip_set c.loop-at.invariant.1 (omega arith) c.set_at-k.ensures in
    omega (arith, rows_fit)

pub loop-at-preserved-then-not-passed_over : goal.loop-at-preserved-then-not-passed_over
loop-at-preserved-then-not-passed_over c = (
  omega arith,
  skip_stays c.loop-at.invariant.1 (omega arith) c.set_at-k.ensures c.sum_long-size.ensures c.passed_over.ensures (ap not c.if-not-passed_over.true) {rows' = rows_of frags_most c.move_down.new.table}
      c.move_down.ensures.table_after c.move_down.ensures.pool_after,
)

pub loop-at-smaller : goal.loop-at-smaller
loop-at-smaller c =
    let of = state_of c.args.queue.now c.args.table.now c.args.pool.now in
    let rows_fit : (0 < c.set_at-k.result) × (c.loop-at.at + c.set_at-k.result ≤ count of.queue) = skip_set c.loop-at.invariant.1 (omega arith) c.set_at-k.ensures in
    omega (arith, rows_fit)

pub loop-at-preserved : goal.loop-at-preserved
loop-at-preserved c = (
  c.loop-at.invariant.0,
  skip_goes c.loop-at.invariant.1 (omega arith) c.set_at-k.ensures c.sum_long-size.ensures c.passed_over.ensures (ap not c.if-not-passed_over.false),
)

pub returns : goal.returns
returns c = skip_all c.loop-at.invariant.1 (omega arith)
