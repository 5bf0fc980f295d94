-- `reassembly_loose::settle` meets its contract: the scan over the loose rows is that over the loose fragments, and the run that it finds goes behind the finished ones.
use mathlib.Core.Path.{◌≡◌}
use Prim.Native.Nat.{◌≤◌}
use native.Mathlib.Omega.{arith}
use lib.ListN.{length}
use Rattle.table.proofs.Columns.{rows_long}
use Rattle.reassembly_state.specs.Limits.{frags_most}
use Rattle.reassembly_state.specs.State.{state_of, count}
use Rattle.reassembly_state.proofs.Laws.{Sound, sound}
use Rattle.reassembly_loose.proofs.Loose.{found_within, found_none, found_some}
use Rattle.reassembly_loose.proofs.settle.Goals as goal

pub scan-whole-requires : goal.scan-whole-requires
scan-whole-requires c =
    let of = state_of c.args.queue.now c.args.table.now c.args.pool.now in
    let ok : Sound of = sound of c.requires.pool_value in
    record {
      table_len = c.requires.table_len;
      n_bound = omega (arith, ok.few);
    }

pub returns-then-start-end : goal.returns-then-start-end
returns-then-start-end c =
    let of = state_of c.args.queue.now c.args.table.now c.args.pool.now in
    let ok : Sound of = sound of c.requires.pool_value in
    let full : length of.rows ≡ frags_most = rows_long frags_most c.args.table.now c.requires.table_len in
    found_none of ok full c.scan-whole.ensures c.if-start-end.true

pub overflow_add-loose : goal.overflow_add-loose
overflow_add-loose c =
    let of = state_of c.args.queue.now c.args.table.now c.args.pool.now in
    let ok : Sound of = sound of c.requires.pool_value in
    let full : length of.rows ≡ frags_most = rows_long frags_most c.args.table.now c.requires.table_len in
    let within : (c.scan-whole.result.from ≤ c.scan-whole.result.to) × ((c.scan-whole.result.to ≤ c.args.queue.now.unordered) × (count c.args.queue.now ≤ frags_most)) = let w = found_within of ok full c.scan-whole.ensures in (w.0, (w.1, ok.few)) in
    omega (arith, within)

pub overflow_add-from : goal.overflow_add-from
overflow_add-from c =
    let of = state_of c.args.queue.now c.args.table.now c.args.pool.now in
    let ok : Sound of = sound of c.requires.pool_value in
    let full : length of.rows ≡ frags_most = rows_long frags_most c.args.table.now c.requires.table_len in
    let within : (c.scan-whole.result.from ≤ c.scan-whole.result.to) × ((c.scan-whole.result.to ≤ c.args.queue.now.unordered) × (count c.args.queue.now ≤ frags_most)) = let w = found_within of ok full c.scan-whole.ensures in (w.0, (w.1, ok.few)) in
    omega (arith, within)

pub overflow_add-from-2 : goal.overflow_add-from-2
overflow_add-from-2 c =
    let of = state_of c.args.queue.now c.args.table.now c.args.pool.now in
    let ok : Sound of = sound of c.requires.pool_value in
    let full : length of.rows ≡ frags_most = rows_long frags_most c.args.table.now c.requires.table_len in
    let within : (c.scan-whole.result.from ≤ c.scan-whole.result.to) × ((c.scan-whole.result.to ≤ c.args.queue.now.unordered) × (count c.args.queue.now ≤ frags_most)) = let w = found_within of ok full c.scan-whole.ensures in (w.0, (w.1, ok.few)) in
    omega (arith, within)

pub overflow_add-from-3 : goal.overflow_add-from-3
overflow_add-from-3 c =
    let of = state_of c.args.queue.now c.args.table.now c.args.pool.now in
    let ok : Sound of = sound of c.requires.pool_value in
    let full : length of.rows ≡ frags_most = rows_long frags_most c.args.table.now c.requires.table_len in
    let within : (c.scan-whole.result.from ≤ c.scan-whole.result.to) × ((c.scan-whole.result.to ≤ c.args.queue.now.unordered) × (count c.args.queue.now ≤ frags_most)) = let w = found_within of ok full c.scan-whole.ensures in (w.0, (w.1, ok.few)) in
    omega (arith, within)

pub move_fragments-requires : goal.move_fragments-requires
move_fragments-requires c =
    let of = state_of c.args.queue.now c.args.table.now c.args.pool.now in
    let ok : Sound of = sound of c.requires.pool_value in
    let full : length of.rows ≡ frags_most = rows_long frags_most c.args.table.now c.requires.table_len in
    let within : (c.scan-whole.result.from ≤ c.scan-whole.result.to) × ((c.scan-whole.result.to ≤ c.args.queue.now.unordered) × (count c.args.queue.now ≤ frags_most)) = let w = found_within of ok full c.scan-whole.ensures in (w.0, (w.1, ok.few)) in
    let w = within in
    record {
      size_bound = omega arith;
      table_len = c.requires.table_len;
      n_le_size = w.1.1;
      a_le_b = omega arith;
      b_le_e = omega arith;
      e_le_n = omega arith;
      table_in_bounds = ok.within;
    }

pub overflow_sub-k : goal.overflow_sub-k
overflow_sub-k c =
    let of = state_of c.args.queue.now c.args.table.now c.args.pool.now in
    let ok : Sound of = sound of c.requires.pool_value in
    let full : length of.rows ≡ frags_most = rows_long frags_most c.args.table.now c.requires.table_len in
    let within : (c.scan-whole.result.from ≤ c.scan-whole.result.to) × ((c.scan-whole.result.to ≤ c.args.queue.now.unordered) × (count c.args.queue.now ≤ frags_most)) = let w = found_within of ok full c.scan-whole.ensures in (w.0, (w.1, ok.few)) in
    omega (arith, within)

pub overflow_add-queue : goal.overflow_add-queue
overflow_add-queue c =
    let of = state_of c.args.queue.now c.args.table.now c.args.pool.now in
    let ok : Sound of = sound of c.requires.pool_value in
    let full : length of.rows ≡ frags_most = rows_long frags_most c.args.table.now c.requires.table_len in
    let within : (c.scan-whole.result.from ≤ c.scan-whole.result.to) × ((c.scan-whole.result.to ≤ c.args.queue.now.unordered) × (count c.args.queue.now ≤ frags_most)) = let w = found_within of ok full c.scan-whole.ensures in (w.0, (w.1, ok.few)) in
    omega (arith, within)

pub overflow_sub-queue : goal.overflow_sub-queue
overflow_sub-queue c =
    let of = state_of c.args.queue.now c.args.table.now c.args.pool.now in
    let ok : Sound of = sound of c.requires.pool_value in
    let full : length of.rows ≡ frags_most = rows_long frags_most c.args.table.now c.requires.table_len in
    let within : (c.scan-whole.result.from ≤ c.scan-whole.result.to) × ((c.scan-whole.result.to ≤ c.args.queue.now.unordered) × (count c.args.queue.now ≤ frags_most)) = let w = found_within of ok full c.scan-whole.ensures in (w.0, (w.1, ok.few)) in
    omega (arith, within)

pub returns : goal.returns
returns c =
    let of = state_of c.args.queue.now c.args.table.now c.args.pool.now in
    let ok : Sound of = sound of c.requires.pool_value in
    let full : length of.rows ≡ frags_most = rows_long frags_most c.args.table.now c.requires.table_len in
    found_some of ok full c.scan-whole.ensures c.if-start-end.false c.move_fragments.ensures.table_after c.move_fragments.ensures.pool_after
