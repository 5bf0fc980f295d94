-- `inflight_take::get` meets its contract: an unsound queue is refused, and else the first held record with the TSN is given.
use mathlib.Core.Path.{◌≡◌, refl, sym, ap, ◌∙◌}
use mathlib.Core.Bool.{false}
use Prim.Native.Nat.{◌<◌}
use native.Mathlib.Omega.{arith}
use lib.ListN.{length, get_or}
use Rattle.wire_model.specs.Refusal.{none, says}
use Rattle.table.proofs.Columns.{rows_long}
use Rattle.payload_model.specs.Limits.{tsns_most}
use Rattle.payload_model.proofs.Laws.{Sound}
use Rattle.inflight_model.specs.Queue.{queue_of, unsound, got}
use Rattle.inflight_model.proofs.Laws.{as_tsns, sound}
use Rattle.inflight_model.proofs.Calls.{got_none, got-one}
use Rattle.inflight_take.proofs.get.Goals as goal

pub returns-then-unsound : goal.returns-then-unsound
unfolding got
returns-then-unsound c = rw (sym (c.unsound.ensures c.args.messages.now) ∙ c.if-unsound.true)

pub find_tsn-at-requires : goal.find_tsn-at-requires
find_tsn-at-requires c =
    let of = queue_of c.args.counts c.args.table.now c.args.messages.now in
    let is_sound : unsound of ≡ false = sym (c.unsound.ensures of.messages) ∙ c.if-unsound.false in
    let ok : Sound (as_tsns of) = sound of is_sound in
    record {
      table_len = omega arith;
      n_bound = omega (arith, ok.few);
    }

pub returns-then-count-at : goal.returns-then-count-at
returns-then-count-at c =
    let of = queue_of c.args.counts c.args.table.now c.args.messages.now in
    let is_sound : unsound of ≡ false = sym (c.unsound.ensures of.messages) ∙ c.if-unsound.false in
    let long : length of.rows ≡ tsns_most = rows_long tsns_most c.args.table.now (omega arith) in
    got_none of is_sound long c.args.tsn c.find_tsn-at.result c.find_tsn-at.ensures c.if-count-at.true

pub offset_bounds-messages-at : goal.offset_bounds-messages-at
offset_bounds-messages-at c =
    let of = queue_of c.args.counts c.args.table.now c.args.messages.now in
    let is_sound : unsound of ≡ false = sym (c.unsound.ensures of.messages) ∙ c.if-unsound.false in
    let ok : Sound (as_tsns of) = sound of is_sound in
    let within : c.find_tsn-at.result < tsns_most = omega (arith, c.if-count-at.false, ok.few) in
    omega (arith, within)

-- the place that was found, where it is one of the held
pub bounds-messages-at : goal.bounds-messages-at
bounds-messages-at c =
    let of = queue_of c.args.counts c.args.table.now c.args.messages.now in
    let is_sound : unsound of ≡ false = sym (c.unsound.ensures of.messages) ∙ c.if-unsound.false in
    let ok : Sound (as_tsns of) = sound of is_sound in
    omega (arith, c.if-count-at.false, ok.few)

pub row_at-row-requires : goal.row_at-row-requires
row_at-row-requires c =
    let of = queue_of c.args.counts c.args.table.now c.args.messages.now in
    let is_sound : unsound of ≡ false = sym (c.unsound.ensures of.messages) ∙ c.if-unsound.false in
    let ok : Sound (as_tsns of) = sound of is_sound in
    let within : c.find_tsn-at.result < tsns_most = omega (arith, c.if-count-at.false, ok.few) in
    record {
      table_len = omega arith;
      i_lt_size = within;
    }

pub returns : goal.returns
returns c =
    let of = queue_of c.args.counts c.args.table.now c.args.messages.now in
    let is_sound : unsound of ≡ false = sym (c.unsound.ensures of.messages) ∙ c.if-unsound.false in
    let long : length of.rows ≡ tsns_most = rows_long tsns_most c.args.table.now (omega arith) in
    let at = c.find_tsn-at.result in
    ap (says none) c.sent_of.ensures
    ∙ got-one of is_sound long c.args.tsn at c.find_tsn-at.ensures (omega (arith, c.if-count-at.false)) c.row_at-row.result c.row_at-row.ensures (get_or of.messages at 0) refl
