-- `reassembly_ordered::new_set` meets its contract: no ordered fragment has the SSN, so the chunk goes to its place by SSN, and is a whole message where it is B and E.
use mathlib.Core.Path.{◌≡◌}
use Prim.Native.Nat.{◌+◌, ◌<◌, ◌≤◌}
use borrow.Author.Rules.{rules}
use native.Mathlib.Omega.{arith}
use lib.ListN.{length}
use Rattle.table.proofs.Columns.{rows_long}
use Rattle.table.proofs.Scans.{last_within}
use Rattle.fragments.specs.Frag.{of_row, ssn_before}
use Rattle.reassembly_state.specs.Limits.{frags_most, bytes_most}
use Rattle.reassembly_state.specs.State.{state_of, count}
use Rattle.reassembly_state.specs.Rows.{ordered_rows, set_run}
use Rattle.reassembly_state.proofs.Laws.{Sound, sound}
use Rattle.reassembly_state.proofs.Chunk.{chunk-long}
use Rattle.reassembly_ask.proofs.Sets.{ordered-long, new-stored}
use Rattle.reassembly_ordered.proofs.new_set.Goals as goal

pub overflow_add-place : goal.overflow_add-place
overflow_add-place c =
    let of = state_of c.args.queue.now c.args.table.now c.args.pool.now in
    let ok : Sound of = sound of (search rules) in
    let full : length of.rows ≡ frags_most = rows_long frags_most c.args.table.now (omega arith) in
    let placed : c.place_ssn.result ≤ c.args.queue.now.ordered = omega (arith, last_within (of_row (ssn_before c.args.chunk.stream_sequence_number)) (ordered_rows of), ordered-long of ok.few full 0, c.place_ssn.ensures) in
    omega (arith, placed)

pub put_fragment-requires : goal.put_fragment-requires
put_fragment-requires c =
    let short : length c.args.user_data.now < 16777216 = omega arith in
    let of = state_of c.args.queue.now c.args.table.now c.args.pool.now in
    let ok : Sound of = sound of (search rules) in
    let full : length of.rows ≡ frags_most = rows_long frags_most c.args.table.now (omega arith) in
    let placed : c.place_ssn.result ≤ c.args.queue.now.ordered = omega (arith, last_within (of_row (ssn_before c.args.chunk.stream_sequence_number)) (ordered_rows of), ordered-long of ok.few full 0, c.place_ssn.ensures) in
    let long = chunk-long c.args.chunk c.args.user_data.now short c.row_of-row.ensures in
    record {
      size_bound = omega arith;
      table_len = omega arith;
      n_lt_size = omega arith;
      at_le_n = omega (arith, placed);
      table_value = ok.sums;
      bytes_in_bounds = omega (arith, ok.long);
      head_value = long;
    }

pub overflow_add-queue : goal.overflow_add-queue
overflow_add-queue c =
    let room : (count c.args.queue.now < frags_most) × (c.args.queue.now.n_bytes + length c.args.user_data.now ≤ bytes_most) = (search rules, search rules) in
    omega (arith, room)

pub overflow_add-queue-2 : goal.overflow_add-queue-2
overflow_add-queue-2 c =
    let room : (count c.args.queue.now < frags_most) × (c.args.queue.now.n_bytes + length c.args.user_data.now ≤ bytes_most) = (search rules, search rules) in
    omega (arith, room)

pub returns : goal.returns
returns c =
    let of = state_of c.args.queue.now c.args.table.now c.args.pool.now in
    let ok : Sound of = sound of (search rules) in
    let full : length of.rows ≡ frags_most = rows_long frags_most c.args.table.now (omega arith) in
    let small : c.args.chunk.stream_sequence_number < 65536 = search rules in
    let short : length c.args.user_data.now < 16777216 = omega arith in
    let none-there : set_run of c.args.chunk.stream_sequence_number ≡ 0 = search rules in
    new-stored of ok full c.args.chunk c.args.user_data.now small short none-there c.row_of-row.ensures c.place_ssn.ensures c.put_fragment.ensures.table_after c.put_fragment.ensures.pool_after
