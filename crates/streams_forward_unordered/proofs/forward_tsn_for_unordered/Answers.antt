-- `streams_forward_unordered::forward_tsn_for_unordered` meets its contract: unsound streams and a number of no stream are refused first.
use mathlib.Core.Path.{◌≡◌, sym, ◌∙◌}
use mathlib.Core.Bool.{false}
use native.Mathlib.Omega.{arith}
use borrow.Author.Rules.{rules}
use Rattle.reassembly_state.specs.Model.{skip_unordered}
use Rattle.streams_model.specs.State.{state_of, unsound, own, forward_unordered}
use Rattle.streams_skips.proofs.Ways.{Skips, unordered_skips, skip_unsound, skip_no_stream, skip_to}
use Rattle.streams_forward_unordered.proofs.forward_tsn_for_unordered.Goals as goal

pub returns-then-unsound : goal.returns-then-unsound
returns-then-unsound c =
    let of = state_of c.args.streams.now c.args.table.now c.args.pool.now in
    let skips : Skips of c.args.stream (skip_unordered (own of c.args.stream) c.args.new_cumulative_tsn) (forward_unordered of c.args.stream c.args.new_cumulative_tsn) = unordered_skips of c.args.stream c.args.new_cumulative_tsn in
    skip_unsound skips (sym c.unsound.ensures ∙ c.if-unsound.true)

pub returns-then-number-ge-STREAMS : goal.returns-then-number-ge-STREAMS
returns-then-number-ge-STREAMS c =
    let of = state_of c.args.streams.now c.args.table.now c.args.pool.now in
    let skips : Skips of c.args.stream (skip_unordered (own of c.args.stream) c.args.new_cumulative_tsn) (forward_unordered of c.args.stream c.args.new_cumulative_tsn) = unordered_skips of c.args.stream c.args.new_cumulative_tsn in
    let safe : unsound of ≡ false = sym c.unsound.ensures ∙ c.if-unsound.false in
    skip_no_stream skips safe (omega (arith, c.if-number-ge-STREAMS.true))

pub skip_unordered-requires : goal.skip_unordered-requires
skip_unordered-requires c =
    let of = state_of c.args.streams.now c.args.table.now c.args.pool.now in
    let safe : unsound of ≡ false = sym c.unsound.ensures ∙ c.if-unsound.false in
    record {
      table_len = search rules;
      pool_value = safe;
      stream_lt_streams_most = omega (arith, c.if-number-ge-STREAMS.false);
    }

pub returns : goal.returns
returns c =
    let of = state_of c.args.streams.now c.args.table.now c.args.pool.now in
    let skips : Skips of c.args.stream (skip_unordered (own of c.args.stream) c.args.new_cumulative_tsn) (forward_unordered of c.args.stream c.args.new_cumulative_tsn) = unordered_skips of c.args.stream c.args.new_cumulative_tsn in
    let safe : unsound of ≡ false = sym c.unsound.ensures ∙ c.if-unsound.false in
    skip_to skips safe (omega (arith, c.if-number-ge-STREAMS.false)) c.skip_unordered.ensures
