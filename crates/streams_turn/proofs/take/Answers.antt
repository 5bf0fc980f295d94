-- `streams_turn::take` meets its contract: where there is a message in turn it is taken.
use mathlib.Core.Path.{◌≡◌, sym, ◌∙◌}
use mathlib.Core.Bool.{false}
use Prim.Native.Nat.{◌+◌, ◌-◌, ◌*◌, ◌<◌}
use native.Mathlib.Omega.{arith}
use borrow.Author.Rules.{rules}
use lib.ListN.{length}
use Rattle.table.proofs.Columns.{rows_long}
use Rattle.reassembly_state.specs.Limits.{frags_most}
use Rattle.streams_model.specs.Limits.{streams_most}
use Rattle.streams_model.specs.State.{state_of, unsound}
use Rattle.streams_model.proofs.Laws.{Sound, sound, bytes_bounded}
use Rattle.streams_turn.specs.Turned.{Turned}
use Rattle.streams_turn.proofs.Takes.{takes-nothing}
use Rattle.streams_turn.proofs.take.Goals as goal

pub among_front-place-requires : goal.among_front-place-requires
among_front-place-requires c =
    let here : c.args.stream < streams_most = search rules in
    let of = state_of c.args.streams.now c.args.table.now c.args.pool.now in
    let safe : unsound of ≡ false = search rules in
    let ok : Sound of = sound of safe in
    record {
      stream_lt_streams_most = here;
      streams_bound = ok.few;
      streams_bound_2 = bytes_bounded of ok;
    }

pub in_turn-turn-requires : goal.in_turn-turn-requires
in_turn-turn-requires c =
    let sized : length c.args.table.now ≡ 4 * frags_most = search rules in
    let here : c.args.stream < streams_most = search rules in
    let of = state_of c.args.streams.now c.args.table.now c.args.pool.now in
    let safe : unsound of ≡ false = search rules in
    let ok : Sound of = sound of safe in
    record {
      table_len = sized;
      stream_lt_streams_most = here;
      others = c.among_front-place.ensures.others;
      queue_value = c.among_front-place.ensures.queue_value;
      streams_bound = ok.few;
    }

pub overflow_sub-k : goal.overflow_sub-k
overflow_sub-k c =
    let of = state_of c.args.streams.now c.args.table.now c.args.pool.now in
    let safe : unsound of ≡ false = search rules in
    let turned : Turned of c.args.stream c.in_turn-turn.result.from c.in_turn-turn.result.to = c.in_turn-turn.ensures c.args.pool.now safe in
    turned.upward

pub returns-then-k-eq0 : goal.returns-then-k-eq0
returns-then-k-eq0 c =
    let of = state_of c.args.streams.now c.args.table.now c.args.pool.now in
    let safe : unsound of ≡ false = search rules in
    let ok : Sound of = sound of safe in
    let sized : length c.args.table.now ≡ 4 * frags_most = search rules in
    let full : length of.rows ≡ frags_most = rows_long frags_most c.args.table.now sized in
    let here : c.args.stream < streams_most = search rules in
    let turned : Turned of c.args.stream c.in_turn-turn.result.from c.in_turn-turn.result.to = c.in_turn-turn.ensures c.args.pool.now safe in
    takes-nothing of ok full c.args.stream here c.args.buffer.now (sym turned.run_is ∙ c.if-k-eq0.true)

pub take_run-requires : goal.take_run-requires
take_run-requires c =
    let of = state_of c.args.streams.now c.args.table.now c.args.pool.now in
    let safe : unsound of ≡ false = search rules in
    let turned : Turned of c.args.stream c.in_turn-turn.result.from c.in_turn-turn.result.to = c.in_turn-turn.ensures c.args.pool.now safe in
    let sized : length c.args.table.now ≡ 4 * frags_most = search rules in
    let here : c.args.stream < streams_most = search rules in
    let up : c.in_turn-turn.result.from + (c.in_turn-turn.result.to - c.in_turn-turn.result.from) ≡ c.in_turn-turn.result.to = omega (arith, turned.upward) in
    record {
      table_len = sized;
      pool_value = safe;
      stream_lt_streams_most = here;
      others = c.among_front-place.ensures.others;
      queue_value = c.among_front-place.ensures.queue_value;
      turned = rw up turned;
      k_nonzero = omega (arith, c.if-k-eq0.false);
    }

pub returns : goal.returns
returns c = c.take_run.ensures
