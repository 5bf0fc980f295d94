-- `streams_readable::is_readable` meets its contract: unsound streams and a number of no stream are refused, and else the message in turn is looked for.
use mathlib.Core.Path.{◌≡◌, sym, ◌∙◌}
use mathlib.Core.Bool.{false}
use native.Mathlib.Omega.{arith}
use borrow.Author.Rules.{rules}
use Rattle.streams_model.specs.State.{state_of, unsound}
use Rattle.streams_model.proofs.Laws.{Sound, sound, bytes_bounded}
use Rattle.streams_turn.proofs.Asked.{look_unsound, look_no_stream, look_is}
use Rattle.streams_readable.proofs.is_readable.Goals as goal

pub returns-then-unsound : goal.returns-then-unsound
returns-then-unsound c =
    let of = state_of c.args.streams c.args.table.now c.args.pool.now in
    look_unsound of c.args.stream (sym c.unsound.ensures ∙ c.if-unsound.true)

pub returns-then-number-ge-STREAMS : goal.returns-then-number-ge-STREAMS
returns-then-number-ge-STREAMS c =
    let of = state_of c.args.streams c.args.table.now c.args.pool.now in
    let safe : unsound of ≡ false = sym c.unsound.ensures ∙ c.if-unsound.false in
    look_no_stream of c.args.stream safe (omega (arith, c.if-number-ge-STREAMS.true))

pub among_front-place-requires : goal.among_front-place-requires
among_front-place-requires c =
    let of = state_of c.args.streams c.args.table.now c.args.pool.now in
    let safe : unsound of ≡ false = sym c.unsound.ensures ∙ c.if-unsound.false in
    let ok : Sound of = sound of safe in
    record {
      stream_lt_streams_most = omega (arith, c.if-number-ge-STREAMS.false);
      streams_bound = ok.few;
      streams_bound_2 = bytes_bounded of ok;
    }

pub in_turn-turn-requires : goal.in_turn-turn-requires
in_turn-turn-requires c =
    let of = state_of c.args.streams c.args.table.now c.args.pool.now in
    let safe : unsound of ≡ false = sym c.unsound.ensures ∙ c.if-unsound.false in
    let ok : Sound of = sound of safe in
    record {
      table_len = search rules;
      stream_lt_streams_most = omega (arith, c.if-number-ge-STREAMS.false);
      others = c.among_front-place.ensures.others;
      queue_value = c.among_front-place.ensures.queue_value;
      streams_bound = ok.few;
    }

pub returns : goal.returns
returns c =
    let of = state_of c.args.streams c.args.table.now c.args.pool.now in
    let safe : unsound of ≡ false = sym c.unsound.ensures ∙ c.if-unsound.false in
    look_is of c.args.stream safe (omega (arith, c.if-number-ge-STREAMS.false)) (c.in_turn-turn.ensures c.args.pool.now safe)
