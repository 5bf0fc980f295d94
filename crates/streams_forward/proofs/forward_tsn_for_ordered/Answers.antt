-- `streams_forward::forward_tsn_for_ordered` meets its contract: unsound streams and a number of no stream are refused first.
use mathlib.Core.Path.{◌≡◌, sym, ◌∙◌}
use mathlib.Core.Bool.{false}
use native.Mathlib.Omega.{arith}
use borrow.Author.Rules.{rules}
use Rattle.reassembly_state.specs.Model.{skip_ordered}
use Rattle.streams_model.specs.State.{state_of, unsound, own, forward_ordered}
use Rattle.streams_skips.proofs.Ways.{Skips, ordered_skips, skip_unsound, skip_no_stream, skip_to}
use Rattle.streams_forward.proofs.forward_tsn_for_ordered.Goals as goal

pub returns-then-unsound : goal.returns-then-unsound
returns-then-unsound c =
    let of = state_of c.args.streams.now c.args.table.now c.args.pool.now in
    let skips : Skips of c.args.stream (skip_ordered (own of c.args.stream) c.args.last_ssn) (forward_ordered of c.args.stream c.args.last_ssn) = ordered_skips of c.args.stream c.args.last_ssn in
    skip_unsound skips (sym c.unsound.ensures ∙ c.if-unsound.true)

pub returns-then-number-ge-STREAMS : goal.returns-then-number-ge-STREAMS
returns-then-number-ge-STREAMS c =
    let of = state_of c.args.streams.now c.args.table.now c.args.pool.now in
    let skips : Skips of c.args.stream (skip_ordered (own of c.args.stream) c.args.last_ssn) (forward_ordered of c.args.stream c.args.last_ssn) = ordered_skips of c.args.stream c.args.last_ssn in
    let safe : unsound of ≡ false = sym c.unsound.ensures ∙ c.if-unsound.false in
    skip_no_stream skips safe (omega (arith, c.if-number-ge-STREAMS.true))

pub skip_ordered-requires : goal.skip_ordered-requires
skip_ordered-requires c =
    let of = state_of c.args.streams.now c.args.table.now c.args.pool.now in
    let safe : unsound of ≡ false = sym c.unsound.ensures ∙ c.if-unsound.false in
    record {
      table_len = search rules;
      pool_value = safe;
      stream_lt_streams_most = omega (arith, c.if-number-ge-STREAMS.false);
    }

pub returns : goal.returns
returns c =
    let of = state_of c.args.streams.now c.args.table.now c.args.pool.now in
    let skips : Skips of c.args.stream (skip_ordered (own of c.args.stream) c.args.last_ssn) (forward_ordered of c.args.stream c.args.last_ssn) = ordered_skips of c.args.stream c.args.last_ssn in
    let safe : unsound of ≡ false = sym c.unsound.ensures ∙ c.if-unsound.false in
    skip_to skips safe (omega (arith, c.if-number-ge-STREAMS.false)) c.skip_ordered.ensures
