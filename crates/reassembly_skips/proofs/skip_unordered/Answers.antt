-- `reassembly_skips::skip_unordered` meets its contract: the loose fragments ahead of the first one after the TSN are taken out.
use mathlib.Core.Path.{◌≡◌}
use Prim.Native.Nat.{◌≤◌}
use native.Mathlib.Omega.{arith}
use lib.ListN.{length}
use Rattle.table.proofs.Columns.{rows_long}
use Rattle.reassembly_state.specs.Limits.{frags_most}
use Rattle.reassembly_state.specs.State.{state_of}
use Rattle.reassembly_state.proofs.Laws.{Sound, sound}
use Rattle.reassembly_skips.proofs.Passed.{passed_few, freed_bytes, passed-laid}
use Rattle.reassembly_skips.proofs.skip_unordered.Goals as goal

pub overflow_add-count : goal.overflow_add-count
overflow_add-count c =
    let of = state_of c.args.queue.now c.args.table.now c.args.pool.now in
    let ok : Sound of = sound of c.requires.pool_value in
    omega (arith, ok.few)

pub overflow_add-count-2 : goal.overflow_add-count-2
overflow_add-count-2 c =
    let of = state_of c.args.queue.now c.args.table.now c.args.pool.now in
    let ok : Sound of = sound of c.requires.pool_value in
    omega (arith, ok.few)

pub find_after-k-requires : goal.find_after-k-requires
find_after-k-requires c =
    let of = state_of c.args.queue.now c.args.table.now c.args.pool.now in
    let ok : Sound of = sound of c.requires.pool_value in
    record {
      table_len = omega arith;
      n_bound = omega (arith, ok.few);
    }

pub remove_fragments-bytes-requires : goal.remove_fragments-bytes-requires
remove_fragments-bytes-requires c =
    let of = state_of c.args.queue.now c.args.table.now c.args.pool.now in
    let ok : Sound of = sound of c.requires.pool_value in
    let full : length of.rows ≡ frags_most = rows_long frags_most c.args.table.now c.requires.table_len in
    let few : c.find_after-k.result ≤ c.args.queue.now.unordered = omega (arith, c.find_after-k.ensures, passed_few of ok full c.args.new_cumulative_tsn) in
    let k = ok in
    record {
      size_bound = omega arith;
      table_len = c.requires.table_len;
      n_le_size = k.few;
      k_bound = omega (arith, few);
      table_value = k.sums;
      held_in_bounds = omega (arith, k.within, k.sums);
    }

pub overflow_sub-queue : goal.overflow_sub-queue
overflow_sub-queue c =
    let of = state_of c.args.queue.now c.args.table.now c.args.pool.now in
    let ok : Sound of = sound of c.requires.pool_value in
    let full : length of.rows ≡ frags_most = rows_long frags_most c.args.table.now c.requires.table_len in
    let few : c.find_after-k.result ≤ c.args.queue.now.unordered = omega (arith, c.find_after-k.ensures, passed_few of ok full c.args.new_cumulative_tsn) in
    few

pub overflow_sub-queue-2 : goal.overflow_sub-queue-2
overflow_sub-queue-2 c =
    let of = state_of c.args.queue.now c.args.table.now c.args.pool.now in
    let ok : Sound of = sound of c.requires.pool_value in
    let full : length of.rows ≡ frags_most = rows_long frags_most c.args.table.now c.requires.table_len in
    freed_bytes of ok full c.args.new_cumulative_tsn c.find_after-k.ensures c.remove_fragments-bytes.ensures.value

pub returns : goal.returns
returns c =
    let of = state_of c.args.queue.now c.args.table.now c.args.pool.now in
    let ok : Sound of = sound of c.requires.pool_value in
    let full : length of.rows ≡ frags_most = rows_long frags_most c.args.table.now c.requires.table_len in
    let e = c.remove_fragments-bytes.ensures in
    passed-laid of ok full c.args.new_cumulative_tsn c.find_after-k.ensures e.value e.table_after e.pool_after
