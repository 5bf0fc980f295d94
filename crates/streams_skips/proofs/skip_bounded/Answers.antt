-- `streams_skips::skip_bounded` meets its contract: up to its own the queue is sound, its skip does to its own what it would do alone, what stands behind
use mathlib.Core.Path.{◌≡◌}
use Prim.Native.Nat.{◌*◌, ◌<◌}
use native.Mathlib.Omega.{arith}
use borrow.Author.Rules.{rules}
use lib.ListN.{length}
use Rattle.table.specs.Rows.{rows_of}
use Rattle.table.proofs.Columns.{rows_long}
use Rattle.reassembly_state.specs.Limits.{frags_most}
use Rattle.reassembly_bounded.specs.Bounded.{skip_bounded}
use Rattle.streams_model.specs.Limits.{streams_most}
use Rattle.streams_model.specs.State.{state_of, own}
use Rattle.streams_model.specs.Among.{among_none}
use Rattle.streams_model.proofs.Laws.{Sound, sound, bytes_bounded}
use Rattle.streams_model.proofs.Front.{Fronted, front_sound, front_fits, front-is}
use Rattle.streams_skips.proofs.Shrunk.{Shrunk, bounded_shrunk, whole_fits, no_more, closed}
use Rattle.streams_skips.proofs.skip_bounded.Goals as goal

pub among_front-place-requires : goal.among_front-place-requires
among_front-place-requires c =
    let here : c.args.stream < streams_most = search rules in
    let of = state_of c.args.streams.now c.args.table.now c.args.pool.now in
    let ok : Sound of = sound of (search rules) in
    record {
      stream_lt_streams_most = here;
      streams_bound = ok.few;
      streams_bound_2 = bytes_bounded of ok;
    }

pub skip_bounded-requires : goal.skip_bounded-requires
skip_bounded-requires c =
    let sized : length c.args.table.now ≡ 4 * frags_most = search rules in
    let of = state_of c.args.streams.now c.args.table.now c.args.pool.now in
    let ok : Sound of = sound of (search rules) in
    let full : length of.rows ≡ frags_most = rows_long frags_most c.args.table.now sized in
    let here : c.args.stream < streams_most = search rules in
    let front : c.among_front-place.result.queue ≡ among_none of.queues c.args.stream = c.among_front-place.ensures.queue_value in
    record {
      table_len = sized;
      pool_value = front_sound of ok full c.args.stream here front;
    }

pub close_up-requires : goal.close_up-requires
close_up-requires c =
    let of = state_of c.args.streams.now c.args.table.now c.args.pool.now in
    let ok : Sound of = sound of (search rules) in
    let sized : length c.args.table.now ≡ 4 * frags_most = search rules in
    let full : length of.rows ≡ frags_most = rows_long frags_most c.args.table.now sized in
    let here : c.args.stream < streams_most = search rules in
    let front : c.among_front-place.result.queue ≡ among_none of.queues c.args.stream = c.among_front-place.ensures.queue_value in
    let shrunk : Shrunk of c.args.stream (skip_bounded (own of c.args.stream) c.args.last_ssn c.args.new_cumulative_tsn) c.among_front-place.result.queue c.skip_bounded.new.queue (rows_of frags_most c.skip_bounded.new.table) c.skip_bounded.new.pool = bounded_shrunk of ok full c.args.stream here front c.args.last_ssn c.args.new_cumulative_tsn c.skip_bounded.ensures in
    let less = no_more of ok full c.args.stream here front shrunk in
    let whole = whole_fits of ok full c.args.stream here front c.among_front-place.ensures.others in
    record {
      table_len = omega (arith, c.skip_bounded.auto, sized);
      left_bound = less.0;
      n_bytes_bound = less.1;
      rows_bound = whole.0;
      bytes_in_bounds = omega (arith, c.skip_bounded.auto, whole.1);
    }

pub put_back-requires : goal.put_back-requires
put_back-requires c =
    let here : c.args.stream < streams_most = search rules in
    let of = state_of c.args.streams.now c.args.table.now c.args.pool.now in
    let ok : Sound of = sound of (search rules) in
    let sized : length c.args.table.now ≡ 4 * frags_most = search rules in
    let full : length of.rows ≡ frags_most = rows_long frags_most c.args.table.now sized in
    let front : c.among_front-place.result.queue ≡ among_none of.queues c.args.stream = c.among_front-place.ensures.queue_value in
    let shrunk : Shrunk of c.args.stream (skip_bounded (own of c.args.stream) c.args.last_ssn c.args.new_cumulative_tsn) c.among_front-place.result.queue c.skip_bounded.new.queue (rows_of frags_most c.skip_bounded.new.table) c.skip_bounded.new.pool = bounded_shrunk of ok full c.args.stream here front c.args.last_ssn c.args.new_cumulative_tsn c.skip_bounded.ensures in
    let fronted : Fronted of c.args.stream (skip_bounded (own of c.args.stream) c.args.last_ssn c.args.new_cumulative_tsn) c.skip_bounded.new.queue (rows_of frags_most c.close_up.new.table) c.close_up.new.pool = closed of ok full c.args.stream here front shrunk c.among_front-place.ensures.others c.close_up.ensures.table_after c.close_up.ensures.pool_after in
    let rest = front_fits of ok full c.args.stream here fronted c.among_front-place.ensures.others in
    record {
      stream_lt_streams_most = here;
      rows_le_finished = rest.0;
      rows_le_ordered = rest.1.0;
      bytes_bound = rest.1.1;
    }

pub returns : goal.returns
returns c =
    let of = state_of c.args.streams.now c.args.table.now c.args.pool.now in
    let ok : Sound of = sound of (search rules) in
    let sized : length c.args.table.now ≡ 4 * frags_most = search rules in
    let full : length of.rows ≡ frags_most = rows_long frags_most c.args.table.now sized in
    let here : c.args.stream < streams_most = search rules in
    let front : c.among_front-place.result.queue ≡ among_none of.queues c.args.stream = c.among_front-place.ensures.queue_value in
    let shrunk : Shrunk of c.args.stream (skip_bounded (own of c.args.stream) c.args.last_ssn c.args.new_cumulative_tsn) c.among_front-place.result.queue c.skip_bounded.new.queue (rows_of frags_most c.skip_bounded.new.table) c.skip_bounded.new.pool = bounded_shrunk of ok full c.args.stream here front c.args.last_ssn c.args.new_cumulative_tsn c.skip_bounded.ensures in
    let fronted : Fronted of c.args.stream (skip_bounded (own of c.args.stream) c.args.last_ssn c.args.new_cumulative_tsn) c.skip_bounded.new.queue (rows_of frags_most c.close_up.new.table) c.close_up.new.pool = closed of ok full c.args.stream here front shrunk c.among_front-place.ensures.others c.close_up.ensures.table_after c.close_up.ensures.pool_after in
    front-is of ok full c.args.stream here fronted c.among_front-place.ensures.others c.put_back.ensures
