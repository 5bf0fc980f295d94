-- `reassembly_loose::store_loose` meets its contract: the place among the loose rows is that among the loose fragments, and the row with its bytes is the chunk's fragment.
use mathlib.Core.Path.{◌≡◌, ap, ◌∙◌}
use native.Mathlib.Omega.{arith}
use Prim.Native.Nat.{◌<◌, ◌≤◌}
use lib.ListN.{length}
use Rattle.table.specs.declared.Row.{Row}
use Rattle.table.proofs.Columns.{rows_long}
use Rattle.fragments.specs.Frag.{row_of, frag_of, long_length}
use Rattle.reassembly_state.specs.Limits.{frags_most}
use Rattle.reassembly_state.specs.State.{state_of, fragment_of}
use Rattle.reassembly_state.proofs.Chunk.{chunk_row_lem, frag-back, row-size}
use Rattle.reassembly_state.proofs.Laws.{Sound, sound}
use Rattle.reassembly_loose.proofs.Loose.{place, place_within, stored-lay}
use Rattle.reassembly_loose.proofs.store_loose.Goals as goal

pub overflow_add-place : goal.overflow_add-place
overflow_add-place c =
    let of = state_of c.args.queue.now c.args.table.now c.args.pool.now in
    let ok : Sound of = sound of c.requires.pool_value in
    let full : length of.rows ≡ frags_most = rows_long frags_most c.args.table.now c.requires.table_len in
    let new = fragment_of c.args.chunk c.args.user_data.now in
    let made : c.row_of-row.result ≡ row_of new = c.row_of-row.ensures ∙ chunk_row_lem c.args.chunk c.args.user_data.now in
    let placing : (c.walk_back.result ≡ place of ok full new) = rw (← (ap (λ (r : Row). r.tsn) made)) c.walk_back.ensures in
    let within : c.walk_back.result ≤ c.args.queue.now.unordered = omega (arith, placing, place_within of ok full new) in
    omega (arith, within, ok.few)

pub put_fragment-requires : goal.put_fragment-requires
unfolding fragment_of
put_fragment-requires c =
    let of = state_of c.args.queue.now c.args.table.now c.args.pool.now in
    let ok : Sound of = sound of c.requires.pool_value in
    let full : length of.rows ≡ frags_most = rows_long frags_most c.args.table.now c.requires.table_len in
    let new = fragment_of c.args.chunk c.args.user_data.now in
    let made : c.row_of-row.result ≡ row_of new = c.row_of-row.ensures ∙ chunk_row_lem c.args.chunk c.args.user_data.now in
    let placing : (c.walk_back.result ≡ place of ok full new) = rw (← (ap (λ (r : Row). r.tsn) made)) c.walk_back.ensures in
    let within : c.walk_back.result ≤ c.args.queue.now.unordered = omega (arith, placing, place_within of ok full new) in
    let small : length new.bytes < 16777216 = omega (arith, c.requires) in
    let says : long_length c.row_of-row.result.head ≡ length c.args.user_data.now = ap (λ (r : Row). long_length r.head) made ∙ row-size new small in
    let k = ok in
    record {
      size_bound = omega arith;
      table_len = c.requires.table_len;
      n_lt_size = c.requires.queue_bound;
      at_le_n = omega (arith, within);
      table_value = k.sums;
      bytes_in_bounds = omega (arith, k.long, c.requires);
      head_value = says;
    }

pub returns : goal.returns
unfolding fragment_of
returns c =
    let of = state_of c.args.queue.now c.args.table.now c.args.pool.now in
    let ok : Sound of = sound of c.requires.pool_value in
    let full : length of.rows ≡ frags_most = rows_long frags_most c.args.table.now c.requires.table_len in
    let new = fragment_of c.args.chunk c.args.user_data.now in
    let made : c.row_of-row.result ≡ row_of new = c.row_of-row.ensures ∙ chunk_row_lem c.args.chunk c.args.user_data.now in
    let placing : (c.walk_back.result ≡ place of ok full new) = rw (← (ap (λ (r : Row). r.tsn) made)) c.walk_back.ensures in
    let small : length new.bytes < 16777216 = omega (arith, c.requires) in
    let holds : frag_of c.row_of-row.result c.args.user_data.now ≡ new = ap (λ (r : Row). frag_of r c.args.user_data.now) made ∙ frag-back new small in
    stored-lay of ok full new placing holds c.put_fragment.ensures.table_after c.put_fragment.ensures.pool_after
