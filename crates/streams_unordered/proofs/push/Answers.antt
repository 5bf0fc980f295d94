-- `streams_unordered::push` meets its contract: the queue that has the others in its lists is sound, its push does to its own what it would do alone,
use mathlib.Core.Path.{◌≡◌}
use mathlib.Core.Bool.{Bool}
use Prim.Native.Nat.{◌<◌}
use borrow.Author.Rules.{rules}
use lib.ListN.{length}
use Rattle.wire_model.specs.Refusal.{Told}
use Rattle.table.specs.Rows.{rows_of}
use Rattle.table.proofs.Columns.{rows_long}
use Rattle.reassembly_state.specs.Limits.{frags_most}
use Rattle.reassembly_state.specs.Model.{push_unordered}
use Rattle.reassembly_state.specs.State.{fragment_of}
use Rattle.streams_model.specs.Limits.{streams_most}
use Rattle.streams_model.specs.State.{State, state_of, own, after}
use Rattle.streams_model.specs.Among.{roomy_if}
use Rattle.streams_model.proofs.Laws.{Sound, sound, bytes_bounded}
use Rattle.streams_model.proofs.Left.{Left, left_fits, left_is, lent_sound, lent_fits, unordered-told, unordered-left}
use Rattle.streams_unordered.proofs.push.Goals as goal

both : {t u : Told Bool} {x y : State} → t ≡ u → x ≡ y → after t x ≡ after u y
both e f = rw (e, f)

pub among_all-among-requires : goal.among_all-among-requires
among_all-among-requires c =
    let here : c.args.stream < streams_most = search rules in
    let of = state_of c.args.streams.now c.args.table.now c.args.pool.now in
    let ok : Sound of = sound of (search rules) in
    record {
      stream_lt_streams_most = here;
      streams_bound = ok.few;
      streams_bound_2 = bytes_bounded of ok;
    }

pub push-answer-requires : goal.push-answer-requires
push-answer-requires c =
    let of = state_of c.args.streams.now c.args.table.now c.args.pool.now in
    let ok : Sound of = sound of (search rules) in
    let full : length of.rows ≡ frags_most = rows_long frags_most c.args.table.now (search rules) in
    let here : c.args.stream < streams_most = search rules in
    let roomy : roomy_if c.args.room of (length c.args.user_data.now) = search rules in
    record {
      table_len = search rules;
      pool_value = lent_sound of ok full c.args.stream here c.among_all-among.ensures.queue_value;
      fits_if = lent_fits of ok full c.args.stream here c.among_all-among.ensures.queue_value c.args.room (length c.args.user_data.now) roomy;
    }

pub put_back-requires : goal.put_back-requires
put_back-requires c =
    let here : c.args.stream < streams_most = search rules in
    let of = state_of c.args.streams.now c.args.table.now c.args.pool.now in
    let ok : Sound of = sound of (search rules) in
    let full : length of.rows ≡ frags_most = rows_long frags_most c.args.table.now (search rules) in
    let new = fragment_of c.args.chunk c.args.user_data.now in
    let left : Left of c.args.stream (push_unordered c.args.room (own of c.args.stream) new).queue c.push-answer.new.queue (rows_of frags_most c.push-answer.new.table) c.push-answer.new.pool = unordered-left of ok full c.args.stream here c.among_all-among.ensures.queue_value c.args.room new c.push-answer.ensures in
    let rest = left_fits of ok full c.args.stream here left c.among_all-among.ensures.others in
    record {
      stream_lt_streams_most = here;
      rows_le_finished = rest.0;
      rows_le_ordered = rest.1.0;
      bytes_bound = rest.1.1;
    }

pub returns : goal.returns
returns c =
    let of = state_of c.args.streams.now c.args.table.now c.args.pool.now in
    let ok : Sound of = sound of (search rules) in
    let full : length of.rows ≡ frags_most = rows_long frags_most c.args.table.now (search rules) in
    let here : c.args.stream < streams_most = search rules in
    let new = fragment_of c.args.chunk c.args.user_data.now in
    let left : Left of c.args.stream (push_unordered c.args.room (own of c.args.stream) new).queue c.push-answer.new.queue (rows_of frags_most c.push-answer.new.table) c.push-answer.new.pool = unordered-left of ok full c.args.stream here c.among_all-among.ensures.queue_value c.args.room new c.push-answer.ensures in
    let told = unordered-told of ok full c.args.stream here c.among_all-among.ensures.queue_value c.args.room new c.push-answer.ensures in
    let state = left_is of ok full c.args.stream here left c.among_all-among.ensures.others c.put_back.ensures in
    both told state
