-- `inflight_take::pop_up_to` meets its contract: an unsound queue is refused, and else the numbers and then the rows that stay go to the front, and are counted and summed.
use mathlib.Core.Path.{◌≡◌, sym, ◌∙◌}
use mathlib.Core.Bool.{false}
use native.Mathlib.Omega.{arith}
use lib.ListN.{length}
use Rattle.table.proofs.Columns.{rows_long}
use Rattle.payload_model.specs.Limits.{tsns_most}
use Rattle.payload_model.proofs.Laws.{Sound}
use Rattle.inflight_model.specs.Queue.{queue_of, unsound, popped_up_to}
use Rattle.inflight_model.proofs.Laws.{as_tsns, sound}
use Rattle.inflight_model.proofs.Calls.{dropped_few, dropped-all}
use Rattle.inflight_take.proofs.pop_up_to.Goals as goal

pub returns-then-unsound : goal.returns-then-unsound
unfolding popped_up_to
returns-then-unsound c = rw (sym (c.unsound.ensures c.args.messages.now) ∙ c.if-unsound.true)

pub keep_numbers-requires : goal.keep_numbers-requires
keep_numbers-requires c =
    let of = queue_of c.args.counts.now c.args.table.now c.args.messages.now in
    let is_sound : unsound of ≡ false = sym (c.unsound.ensures of.messages) ∙ c.if-unsound.false in
    let ok : Sound (as_tsns of) = sound of is_sound in
    record {
      table_len = omega arith;
      n_le_tsns_most = ok.few;
      n_in_bounds = omega (arith, ok.few);
    }

pub keep_after-left-requires : goal.keep_after-left-requires
keep_after-left-requires c =
    let of = queue_of c.args.counts.now c.args.table.now c.args.messages.now in
    let is_sound : unsound of ≡ false = sym (c.unsound.ensures of.messages) ∙ c.if-unsound.false in
    let ok : Sound (as_tsns of) = sound of is_sound in
    record {
      table_len = omega arith;
      n_le_tsns_most = ok.few;
    }

pub sum_short-counts-requires : goal.sum_short-counts-requires
sum_short-counts-requires c =
    let of = queue_of c.args.counts.now c.args.table.now c.args.messages.now in
    let is_sound : unsound of ≡ false = sym (c.unsound.ensures of.messages) ∙ c.if-unsound.false in
    let long : length of.rows ≡ tsns_most = rows_long tsns_most c.args.table.now (omega arith) in
    record {
      size_bound = omega arith;
      table_len = omega arith;
      n_bound = omega (arith, dropped_few of is_sound long c.args.tsn c.keep_after-left.result c.keep_after-left.ensures.value c.keep_after-left.ensures.table_after);
    }

pub returns : goal.returns
returns c =
    let of = queue_of c.args.counts.now c.args.table.now c.args.messages.now in
    let is_sound : unsound of ≡ false = sym (c.unsound.ensures of.messages) ∙ c.if-unsound.false in
    let long : length of.rows ≡ tsns_most = rows_long tsns_most c.args.table.now (omega arith) in
    dropped-all of is_sound long c.args.tsn c.keep_after-left.result c.keep_after-left.ensures.value c.keep_after-left.ensures.table_after c.keep_numbers.ensures c.sum_short-counts.result c.sum_short-counts.ensures
