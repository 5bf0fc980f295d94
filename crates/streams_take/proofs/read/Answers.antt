-- `streams_take::read` meets its contract: unsound streams and a number of no stream are refused first.
use mathlib.Core.Path.{◌≡◌, sym, ◌∙◌}
use mathlib.Core.Bool.{false}
use native.Mathlib.Omega.{arith}
use borrow.Author.Rules.{rules}
use Rattle.streams_model.specs.State.{state_of, unsound}
use Rattle.streams_turn.proofs.Asked.{read-unsound, read_no_stream, read_is}
use Rattle.streams_take.proofs.read.Goals as goal

pub returns-then-unsound : goal.returns-then-unsound
returns-then-unsound c =
    let of = state_of c.args.streams.now c.args.table.now c.args.pool.now in
    read-unsound of c.args.stream c.args.buffer.now (sym c.unsound.ensures ∙ c.if-unsound.true)

pub returns-then-number-ge-STREAMS : goal.returns-then-number-ge-STREAMS
returns-then-number-ge-STREAMS c =
    let of = state_of c.args.streams.now c.args.table.now c.args.pool.now in
    let safe : unsound of ≡ false = sym c.unsound.ensures ∙ c.if-unsound.false in
    read_no_stream of c.args.stream c.args.buffer.now safe (omega (arith, c.if-number-ge-STREAMS.true))

pub take-requires : goal.take-requires
take-requires c =
    let of = state_of c.args.streams.now c.args.table.now c.args.pool.now in
    let safe : unsound of ≡ false = sym c.unsound.ensures ∙ c.if-unsound.false in
    record {
      table_len = search rules;
      pool_value = safe;
      stream_lt_streams_most = omega (arith, c.if-number-ge-STREAMS.false);
    }

pub returns : goal.returns
returns c =
    let of = state_of c.args.streams.now c.args.table.now c.args.pool.now in
    let safe : unsound of ≡ false = sym c.unsound.ensures ∙ c.if-unsound.false in
    c.take.ensures ∙ read_is of c.args.stream c.args.buffer.now safe (omega (arith, c.if-number-ge-STREAMS.false))
