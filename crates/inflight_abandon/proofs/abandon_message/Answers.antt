-- `inflight_abandon::abandon_message` meets its contract: an unsound queue is refused, and else the message's records are marked, and what the sum lost is released.
use mathlib.Core.Path.{◌≡◌, sym, ◌∙◌}
use mathlib.Core.Bool.{false}
use native.Mathlib.Omega.{arith}
use lib.ListN.{length}
use Rattle.table.proofs.Columns.{rows_long}
use Rattle.payload_model.specs.Limits.{tsns_most}
use Rattle.payload_model.proofs.Laws.{Sound}
use Rattle.inflight_model.specs.Queue.{queue_of, unsound, abandoned}
use Rattle.inflight_model.proofs.Laws.{as_tsns, sound}
use Rattle.inflight_model.proofs.Calls.{abandoned_small, abandoned-all}
use Rattle.inflight_abandon.proofs.abandon_message.Goals as goal

pub returns-then-unsound : goal.returns-then-unsound
unfolding abandoned
returns-then-unsound c = rw (sym (c.unsound.ensures c.args.messages.now) ∙ c.if-unsound.true)

pub abandon-requires : goal.abandon-requires
abandon-requires c =
    let of = queue_of c.args.counts.now c.args.table.now c.args.messages.now in
    let is_sound : unsound of ≡ false = sym (c.unsound.ensures of.messages) ∙ c.if-unsound.false in
    let ok : Sound (as_tsns of) = sound of is_sound in
    record {
      table_len = omega arith;
      n_le_tsns_most = ok.few;
      n_in_bounds = omega (arith, ok.few);
    }

pub sum_short-sum-requires : goal.sum_short-sum-requires
sum_short-sum-requires c =
    let of = queue_of c.args.counts.now c.args.table.now c.args.messages.now in
    let is_sound : unsound of ≡ false = sym (c.unsound.ensures of.messages) ∙ c.if-unsound.false in
    let ok : Sound (as_tsns of) = sound of is_sound in
    record {
      size_bound = omega arith;
      table_len = omega arith;
      n_bound = omega (arith, ok.few);
    }

pub overflow_sub-released : goal.overflow_sub-released
overflow_sub-released c =
    let of = queue_of c.args.counts.now c.args.table.now c.args.messages.now in
    let is_sound : unsound of ≡ false = sym (c.unsound.ensures of.messages) ∙ c.if-unsound.false in
    let long : length of.rows ≡ tsns_most = rows_long tsns_most c.args.table.now (omega arith) in
    let wide : length of.messages ≡ tsns_most = omega arith in
    abandoned_small of is_sound long wide c.args.message c.abandon.ensures c.sum_short-sum.result c.sum_short-sum.ensures

pub returns : goal.returns
returns c =
    let of = queue_of c.args.counts.now c.args.table.now c.args.messages.now in
    let is_sound : unsound of ≡ false = sym (c.unsound.ensures of.messages) ∙ c.if-unsound.false in
    let long : length of.rows ≡ tsns_most = rows_long tsns_most c.args.table.now (omega arith) in
    let wide : length of.messages ≡ tsns_most = omega arith in
    abandoned-all of is_sound long wide c.args.message c.abandon.ensures c.sum_short-sum.result c.sum_short-sum.ensures
