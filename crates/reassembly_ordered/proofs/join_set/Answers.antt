-- `reassembly_ordered::join_set` meets its contract: the chunk goes to its place by TSN in its set, which stands where it stood and has one more.
use mathlib.Core.Path.{◌≡◌}
use Prim.Native.Nat.{◌+◌, ◌<◌, ◌≤◌}
use borrow.Author.Rules.{rules}
use native.Mathlib.Omega.{arith}
use lib.ListN.{length, take, drop}
use Rattle.table.specs.Rows.{tsn_before}
use Rattle.table.proofs.Columns.{rows_long}
use Rattle.table.proofs.Scans.{last_within}
use Rattle.fragment_sets.proofs.Complete.{segment-long}
use Rattle.reassembly_state.specs.Limits.{frags_most, bytes_most}
use Rattle.reassembly_state.specs.State.{state_of, count}
use Rattle.reassembly_state.specs.Rows.{set_at, set_run}
use Rattle.reassembly_state.proofs.Laws.{Sound, sound}
use Rattle.reassembly_state.proofs.Chunk.{chunk-long}
use Rattle.reassembly_ask.proofs.Sets.{run_fits, join_stored}
use Rattle.reassembly_ordered.proofs.join_set.Goals as goal

pub row_at-first-requires : goal.row_at-first-requires
row_at-first-requires c =
    let of = state_of c.args.queue.now c.args.table.now c.args.pool.now in
    let ok : Sound of = sound of (search rules) in
    let full : length of.rows ≡ frags_most = rows_long frags_most c.args.table.now (omega arith) in
    let set-at : c.args.at ≡ set_at of c.args.chunk.stream_sequence_number = search rules in
    let set-run : c.args.run ≡ set_run of c.args.chunk.stream_sequence_number = search rules in
    let stands : c.args.at + c.args.run ≤ count c.args.queue.now = omega (arith, run_fits of ok.few full c.args.chunk.stream_sequence_number, set-at, set-run) in
    let some-there : 0 < c.args.run = search rules in
    let room : (count c.args.queue.now < frags_most) × (c.args.queue.now.n_bytes + length c.args.user_data.now ≤ bytes_most) = (search rules, search rules) in
    record {
      table_len = omega arith;
      i_lt_size = omega (arith, stands, some-there, room);
    }

pub walk_back-requires : goal.walk_back-requires
walk_back-requires c =
    let of = state_of c.args.queue.now c.args.table.now c.args.pool.now in
    let ok : Sound of = sound of (search rules) in
    let full : length of.rows ≡ frags_most = rows_long frags_most c.args.table.now (omega arith) in
    let set-at : c.args.at ≡ set_at of c.args.chunk.stream_sequence_number = search rules in
    let set-run : c.args.run ≡ set_run of c.args.chunk.stream_sequence_number = search rules in
    let stands : c.args.at + c.args.run ≤ count c.args.queue.now = omega (arith, run_fits of ok.few full c.args.chunk.stream_sequence_number, set-at, set-run) in
    let room : (count c.args.queue.now < frags_most) × (c.args.queue.now.n_bytes + length c.args.user_data.now ≤ bytes_most) = (search rules, search rules) in
    record {
      table_len = omega arith;
      n_bound = omega (arith, stands, room);
    }

pub overflow_add-place : goal.overflow_add-place
overflow_add-place c =
    let of = state_of c.args.queue.now c.args.table.now c.args.pool.now in
    let ok : Sound of = sound of (search rules) in
    let full : length of.rows ≡ frags_most = rows_long frags_most c.args.table.now (omega arith) in
    let set-at : c.args.at ≡ set_at of c.args.chunk.stream_sequence_number = search rules in
    let set-run : c.args.run ≡ set_run of c.args.chunk.stream_sequence_number = search rules in
    let stands : c.args.at + c.args.run ≤ count c.args.queue.now = omega (arith, run_fits of ok.few full c.args.chunk.stream_sequence_number, set-at, set-run) in
    let room : (count c.args.queue.now < frags_most) × (c.args.queue.now.n_bytes + length c.args.user_data.now ≤ bytes_most) = (search rules, search rules) in
    let placed : c.walk_back.result ≤ c.args.run = let within = last_within (tsn_before c.row_of-row.result.tsn) (take c.args.run (drop c.args.at of.rows)) in omega (arith, within, segment-long of.rows c.args.at c.args.run (omega (arith, stands, room, full)), c.walk_back.ensures) in
    omega (arith, placed, stands, room)

pub put_fragment-requires : goal.put_fragment-requires
put_fragment-requires c =
    let short : length c.args.user_data.now < 16777216 = omega arith in
    let of = state_of c.args.queue.now c.args.table.now c.args.pool.now in
    let ok : Sound of = sound of (search rules) in
    let full : length of.rows ≡ frags_most = rows_long frags_most c.args.table.now (omega arith) in
    let set-at : c.args.at ≡ set_at of c.args.chunk.stream_sequence_number = search rules in
    let set-run : c.args.run ≡ set_run of c.args.chunk.stream_sequence_number = search rules in
    let stands : c.args.at + c.args.run ≤ count c.args.queue.now = omega (arith, run_fits of ok.few full c.args.chunk.stream_sequence_number, set-at, set-run) in
    let room : (count c.args.queue.now < frags_most) × (c.args.queue.now.n_bytes + length c.args.user_data.now ≤ bytes_most) = (search rules, search rules) in
    let placed : c.walk_back.result ≤ c.args.run = let within = last_within (tsn_before c.row_of-row.result.tsn) (take c.args.run (drop c.args.at of.rows)) in omega (arith, within, segment-long of.rows c.args.at c.args.run (omega (arith, stands, room, full)), c.walk_back.ensures) in
    let long = chunk-long c.args.chunk c.args.user_data.now short c.row_of-row.ensures in
    record {
      size_bound = omega arith;
      table_len = omega arith;
      n_lt_size = omega arith;
      at_le_n = omega (arith, placed, stands);
      table_value = ok.sums;
      bytes_in_bounds = omega (arith, ok.long, room);
      head_value = long;
    }

pub overflow_add-run : goal.overflow_add-run
overflow_add-run c =
    let of = state_of c.args.queue.now c.args.table.now c.args.pool.now in
    let ok : Sound of = sound of (search rules) in
    let full : length of.rows ≡ frags_most = rows_long frags_most c.args.table.now (omega arith) in
    let set-at : c.args.at ≡ set_at of c.args.chunk.stream_sequence_number = search rules in
    let set-run : c.args.run ≡ set_run of c.args.chunk.stream_sequence_number = search rules in
    let stands : c.args.at + c.args.run ≤ count c.args.queue.now = omega (arith, run_fits of ok.few full c.args.chunk.stream_sequence_number, set-at, set-run) in
    let room : (count c.args.queue.now < frags_most) × (c.args.queue.now.n_bytes + length c.args.user_data.now ≤ bytes_most) = (search rules, search rules) in
    omega (arith, stands, room)

pub is_complete-requires : goal.is_complete-requires
is_complete-requires c =
    let of = state_of c.args.queue.now c.args.table.now c.args.pool.now in
    let ok : Sound of = sound of (search rules) in
    let full : length of.rows ≡ frags_most = rows_long frags_most c.args.table.now (omega arith) in
    let set-at : c.args.at ≡ set_at of c.args.chunk.stream_sequence_number = search rules in
    let set-run : c.args.run ≡ set_run of c.args.chunk.stream_sequence_number = search rules in
    let stands : c.args.at + c.args.run ≤ count c.args.queue.now = omega (arith, run_fits of ok.few full c.args.chunk.stream_sequence_number, set-at, set-run) in
    let room : (count c.args.queue.now < frags_most) × (c.args.queue.now.n_bytes + length c.args.user_data.now ≤ bytes_most) = (search rules, search rules) in
    record {
      table_len = omega (arith, c.put_fragment.auto, c.requires);
      n_bound = omega (arith, stands, room);
    }

pub overflow_add-queue : goal.overflow_add-queue
overflow_add-queue c =
    let room : (count c.args.queue.now < frags_most) × (c.args.queue.now.n_bytes + length c.args.user_data.now ≤ bytes_most) = (search rules, search rules) in
    omega (arith, room)

pub overflow_add-queue-2 : goal.overflow_add-queue-2
overflow_add-queue-2 c =
    let room : (count c.args.queue.now < frags_most) × (c.args.queue.now.n_bytes + length c.args.user_data.now ≤ bytes_most) = (search rules, search rules) in
    omega (arith, room)

pub returns : goal.returns
returns c =
    let of = state_of c.args.queue.now c.args.table.now c.args.pool.now in
    let ok : Sound of = sound of (search rules) in
    let full : length of.rows ≡ frags_most = rows_long frags_most c.args.table.now (omega arith) in
    let small : c.args.chunk.stream_sequence_number < 65536 = search rules in
    let short : length c.args.user_data.now < 16777216 = omega arith in
    let set-at : c.args.at ≡ set_at of c.args.chunk.stream_sequence_number = search rules in
    let set-run : c.args.run ≡ set_run of c.args.chunk.stream_sequence_number = search rules in
    let some-there : 0 < c.args.run = search rules in
    join_stored of ok full c.args.chunk c.args.user_data.now small short set-at set-run some-there c.row_of-row.ensures c.row_at-first.ensures c.walk_back.ensures c.put_fragment.ensures.table_after c.put_fragment.ensures.pool_after c.is_complete.ensures
