-- `streams_skips::skip_unordered` meets its contract: the queue that has the others in its lists is sound, its skip does to its own what it would do
use mathlib.Core.Path.{◌≡◌}
use Prim.Native.Nat.{◌*◌, ◌<◌}
use borrow.Author.Rules.{rules}
use lib.ListN.{length}
use Rattle.table.specs.Rows.{rows_of}
use Rattle.table.proofs.Columns.{rows_long}
use Rattle.reassembly_state.specs.Limits.{frags_most}
use Rattle.reassembly_state.specs.Model.{skip_unordered}
use Rattle.streams_model.specs.Limits.{streams_most}
use Rattle.streams_model.specs.State.{state_of, own}
use Rattle.streams_model.proofs.Laws.{Sound, sound, bytes_bounded}
use Rattle.streams_model.proofs.Left.{Left, lent_sound, left_fits, left_is}
use Rattle.streams_skips.proofs.Shrunk.{unordered-left}
use Rattle.streams_skips.proofs.skip_unordered.Goals as goal

pub among_all-place-requires : goal.among_all-place-requires
among_all-place-requires c =
    let here : c.args.stream < streams_most = search rules in
    let of = state_of c.args.streams.now c.args.table.now c.args.pool.now in
    let ok : Sound of = sound of (search rules) in
    record {
      stream_lt_streams_most = here;
      streams_bound = ok.few;
      streams_bound_2 = bytes_bounded of ok;
    }

pub skip_unordered-requires : goal.skip_unordered-requires
skip_unordered-requires c =
    let sized : length c.args.table.now ≡ 4 * frags_most = search rules in
    let of = state_of c.args.streams.now c.args.table.now c.args.pool.now in
    let ok : Sound of = sound of (search rules) in
    let full : length of.rows ≡ frags_most = rows_long frags_most c.args.table.now sized in
    let here : c.args.stream < streams_most = search rules in
    record {
      table_len = sized;
      pool_value = lent_sound of ok full c.args.stream here c.among_all-place.ensures.queue_value;
    }

pub put_back-requires : goal.put_back-requires
put_back-requires c =
    let here : c.args.stream < streams_most = search rules in
    let of = state_of c.args.streams.now c.args.table.now c.args.pool.now in
    let ok : Sound of = sound of (search rules) in
    let sized : length c.args.table.now ≡ 4 * frags_most = search rules in
    let full : length of.rows ≡ frags_most = rows_long frags_most c.args.table.now sized in
    let left : Left of c.args.stream (skip_unordered (own of c.args.stream) c.args.new_cumulative_tsn) c.skip_unordered.new.queue (rows_of frags_most c.skip_unordered.new.table) c.skip_unordered.new.pool = unordered-left of ok full c.args.stream here c.among_all-place.ensures.queue_value c.args.new_cumulative_tsn c.skip_unordered.ensures in
    let rest = left_fits of ok full c.args.stream here left c.among_all-place.ensures.others in
    record {
      stream_lt_streams_most = here;
      rows_le_finished = rest.0;
      rows_le_ordered = rest.1.0;
      bytes_bound = rest.1.1;
    }

pub returns : goal.returns
returns c =
    let of = state_of c.args.streams.now c.args.table.now c.args.pool.now in
    let ok : Sound of = sound of (search rules) in
    let sized : length c.args.table.now ≡ 4 * frags_most = search rules in
    let full : length of.rows ≡ frags_most = rows_long frags_most c.args.table.now sized in
    let here : c.args.stream < streams_most = search rules in
    let left : Left of c.args.stream (skip_unordered (own of c.args.stream) c.args.new_cumulative_tsn) c.skip_unordered.new.queue (rows_of frags_most c.skip_unordered.new.table) c.skip_unordered.new.pool = unordered-left of ok full c.args.stream here c.among_all-place.ensures.queue_value c.args.new_cumulative_tsn c.skip_unordered.ensures in
    left_is of ok full c.args.stream here left c.among_all-place.ensures.others c.put_back.ensures
