-- `streams_ordered::push` meets its contract: what the questions find beside the others they find alone; what is not kept leaves all as it was.
use mathlib.Core.Path.{◌≡◌, ap, ◌∙◌}
use mathlib.Core.Bool.{false}
use Prim.Native.Nat.{◌*◌, ◌<◌}
use borrow.Author.Rules.{rules}
use lib.ListN.{length}
use Rattle.std.proofs.lemmas.Result.{err_from_is_err_and}
use Rattle.refusal.specs.Told.{number}
use Rattle.wire_model.specs.Refusal.{none, refuse, says}
use Rattle.table.proofs.Columns.{rows_long}
use Rattle.reassembly_state.specs.Limits.{frags_most}
use Rattle.streams_model.specs.Limits.{streams_most}
use Rattle.streams_model.specs.State.{state_of}
use Rattle.reassembly_state.specs.State as one
use Rattle.reassembly_state.specs.Rows.{Declines, Keeps}
use Rattle.streams_model.specs.State.{laid}
use Rattle.streams_model.specs.Among.{among_none, among, roomy_if}
use Rattle.streams_model.proofs.Laws.{Sound, sound, bytes_bounded}
use Rattle.reassembly_state.proofs.Laws as laws
use Rattle.streams_model.proofs.Front.{asks_front, front_sound, away, kept-is}
use Rattle.streams_ordered.proofs.push.Goals as goal

pub among_front-place-requires : goal.among_front-place-requires
among_front-place-requires c =
    let here : c.args.stream < streams_most = search rules in
    let of = state_of c.args.streams.now c.args.table.now c.args.pool.now in
    let ok : Sound of = sound of (search rules) in
    record {
      stream_lt_streams_most = here;
      streams_bound = ok.few;
      streams_bound_2 = bytes_bounded of ok;
    }

pub ask-asked-requires : goal.ask-asked-requires
ask-asked-requires c =
    let sized : length c.args.table.now ≡ 4 * frags_most = search rules in
    let of = state_of c.args.streams.now c.args.table.now c.args.pool.now in
    let ok : Sound of = sound of (search rules) in
    let full : length of.rows ≡ frags_most = rows_long frags_most c.args.table.now (search rules) in
    let here : c.args.stream < streams_most = search rules in
    let front : c.among_front-place.result.queue ≡ among_none of.queues c.args.stream = c.among_front-place.ensures.queue_value in
    let safe : laws.Sound (record { queue = c.among_front-place.result.queue; rows = of.rows; pool = of.pool }) = laws.sound _ (front_sound of ok full c.args.stream here front) in
    record {
      table_len = sized;
      queue_bound = safe.few;
      table_value = safe.sums;
    }

pub returns-in_err-asked : goal.returns-in_err-asked
returns-in_err-asked c =
    let of = state_of c.args.streams.now c.args.table.now c.args.pool.now in
    let ok : Sound of = sound of (search rules) in
    let full : length of.rows ≡ frags_most = rows_long frags_most c.args.table.now (search rules) in
    let here : c.args.stream < streams_most = search rules in
    let front : c.among_front-place.result.queue ≡ among_none of.queues c.args.stream = c.among_front-place.ensures.queue_value in
    let e = err_from_is_err_and c.from_residual.result c.from_residual.ensures.1 in
    rw (e.1, e.2) (away of ok full c.args.stream here c.args.room c.args.chunk c.args.user_data.now (asks_front of ok full c.args.stream here front (λ (t : one.State). Declines t c.args.room c.args.chunk (length c.args.user_data.now) (says (refuse (number c.in_err-asked.field-0.0)) false)) (rw c.in_err-asked.was at c.ask-asked.ensures.asks c.args.pool.now)))

pub keep-requires : goal.keep-requires
keep-requires c =
    let of = state_of c.args.streams.now c.args.table.now c.args.pool.now in
    let ok : Sound of = sound of (search rules) in
    let full : length of.rows ≡ frags_most = rows_long frags_most c.args.table.now (search rules) in
    let here : c.args.stream < streams_most = search rules in
    let front : c.among_front-place.result.queue ≡ among_none of.queues c.args.stream = c.among_front-place.ensures.queue_value in
    let keeps : Keeps (among of c.args.stream 0 0) c.args.room c.args.chunk (length c.args.user_data.now) c.ask-asked.result.set.at c.ask-asked.result.set.run = asks_front of ok full c.args.stream here front (λ (t : one.State). Keeps t c.args.room c.args.chunk (length c.args.user_data.now) c.ask-asked.result.set.at c.ask-asked.result.set.run) (rw (c.in_ok-asked.was, c.if-not-branch.false) at c.ask-asked.ensures.asks c.args.pool.now) in
    let roomy : roomy_if c.args.room of (length c.args.user_data.now) = search rules in
    let sized : length c.args.table.now ≡ 4 * frags_most = search rules in
    let room = roomy keeps.with_room in
    record {
      table_len = sized;
      pool_value = search rules;
      stream_lt_streams_most = here;
      streams_bound = room.0;
      user_data_bound = room.1;
      others = c.among_front-place.ensures.others;
      queue_value = front;
      at_value = keeps.at-is;
      run_value = keeps.run_is;
    }

pub returns : goal.returns
returns c =
    let of = state_of c.args.streams.now c.args.table.now c.args.pool.now in
    let ok : Sound of = sound of (search rules) in
    let full : length of.rows ≡ frags_most = rows_long frags_most c.args.table.now (search rules) in
    let here : c.args.stream < streams_most = search rules in
    let front : c.among_front-place.result.queue ≡ among_none of.queues c.args.stream = c.among_front-place.ensures.queue_value in
    c.keep.ensures
    ∙ ap (laid of c.args.stream) (kept-is of ok full c.args.stream here c.args.room c.args.chunk c.args.user_data.now (asks_front of ok full c.args.stream here front (λ (t : one.State). Keeps t c.args.room c.args.chunk (length c.args.user_data.now) c.ask-asked.result.set.at c.ask-asked.result.set.run) (rw (c.in_ok-asked.was, c.if-not-branch.false) at c.ask-asked.ensures.asks c.args.pool.now)))

pub returns-then-not-branch : goal.returns-then-not-branch
returns-then-not-branch c =
    let of = state_of c.args.streams.now c.args.table.now c.args.pool.now in
    let ok : Sound of = sound of (search rules) in
    let full : length of.rows ≡ frags_most = rows_long frags_most c.args.table.now (search rules) in
    let here : c.args.stream < streams_most = search rules in
    let front : c.among_front-place.result.queue ≡ among_none of.queues c.args.stream = c.among_front-place.ensures.queue_value in
    away of ok full c.args.stream here c.args.room c.args.chunk c.args.user_data.now (asks_front of ok full c.args.stream here front (λ (t : one.State). Declines t c.args.room c.args.chunk (length c.args.user_data.now) (says none false)) (rw (c.in_ok-asked.was, c.if-not-branch.true) at c.ask-asked.ensures.asks c.args.pool.now))
