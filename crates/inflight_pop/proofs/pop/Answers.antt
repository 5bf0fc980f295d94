-- `inflight_pop::pop` meets its contract: an unsound queue is refused, and else the first record and its number go if its TSN is the one asked for.
use mathlib.Core.Path.{◌≡◌, refl, sym, ◌∙◌}
use mathlib.Core.Bool.{false}
use Prim.Native.Nat.{◌<◌}
use native.Mathlib.Omega.{arith}
use lib.ListN.{length, get_or}
use Rattle.table.proofs.Columns.{rows_long}
use Rattle.payload_model.specs.Limits.{tsns_most}
use Rattle.payload_model.proofs.Laws.{Sound}
use Rattle.inflight_model.specs.Queue.{queue_of, unsound, popped}
use Rattle.inflight_model.proofs.Laws.{as_tsns, sound}
use Rattle.inflight_model.proofs.Calls.{popped-empty, popped_other, popped_small, popped-one}
use Rattle.inflight_pop.proofs.pop.Goals as goal

pub returns-then-unsound : goal.returns-then-unsound
unfolding popped
returns-then-unsound c = rw (sym (c.unsound.ensures c.args.messages.now) ∙ c.if-unsound.true)

pub returns-then-count-eq0 : goal.returns-then-count-eq0
returns-then-count-eq0 c =
    let of = queue_of c.args.counts.now c.args.table.now c.args.messages.now in
    let is_sound : unsound of ≡ false = sym (c.unsound.ensures of.messages) ∙ c.if-unsound.false in
    let long : length of.rows ≡ tsns_most = rows_long tsns_most c.args.table.now (omega arith) in
    popped-empty of is_sound long c.args.tsn c.if-count-eq0.true

pub returns-then-row-tsn : goal.returns-then-row-tsn
returns-then-row-tsn c =
    let of = queue_of c.args.counts.now c.args.table.now c.args.messages.now in
    let is_sound : unsound of ≡ false = sym (c.unsound.ensures of.messages) ∙ c.if-unsound.false in
    let long : length of.rows ≡ tsns_most = rows_long tsns_most c.args.table.now (omega arith) in
    let some-held : 0 < of.count = omega (arith, c.if-count-eq0.false) in
    popped_other of is_sound long some-held c.row_at-row.result c.row_at-row.ensures c.args.tsn c.if-row-tsn.true

pub close_rows-requires : goal.close_rows-requires
close_rows-requires c =
    let of = queue_of c.args.counts.now c.args.table.now c.args.messages.now in
    let is_sound : unsound of ≡ false = sym (c.unsound.ensures of.messages) ∙ c.if-unsound.false in
    let ok : Sound (as_tsns of) = sound of is_sound in
    let some-held : 0 < of.count = omega (arith, c.if-count-eq0.false) in
    record {
      table_len = omega arith;
      n_le_size = ok.few;
      k_bound = some-held;
    }

pub close-requires : goal.close-requires
close-requires c =
    let of = queue_of c.args.counts.now c.args.table.now c.args.messages.now in
    let is_sound : unsound of ≡ false = sym (c.unsound.ensures of.messages) ∙ c.if-unsound.false in
    let ok : Sound (as_tsns of) = sound of is_sound in
    let some-held : 0 < of.count = omega (arith, c.if-count-eq0.false) in
    record {
      total_in_bounds = omega (arith, ok.few);
      k_bound = omega (arith, some-held);
    }

pub overflow_sub-counts-2 : goal.overflow_sub-counts-2
overflow_sub-counts-2 c =
    let of = queue_of c.args.counts.now c.args.table.now c.args.messages.now in
    let is_sound : unsound of ≡ false = sym (c.unsound.ensures of.messages) ∙ c.if-unsound.false in
    let long : length of.rows ≡ tsns_most = rows_long tsns_most c.args.table.now (omega arith) in
    let some-held : 0 < of.count = omega (arith, c.if-count-eq0.false) in
    popped_small of is_sound long some-held c.row_at-row.result c.row_at-row.ensures c.args.tsn

pub returns : goal.returns
returns c =
    let of = queue_of c.args.counts.now c.args.table.now c.args.messages.now in
    let is_sound : unsound of ≡ false = sym (c.unsound.ensures of.messages) ∙ c.if-unsound.false in
    let long : length of.rows ≡ tsns_most = rows_long tsns_most c.args.table.now (omega arith) in
    let some-held : 0 < of.count = omega (arith, c.if-count-eq0.false) in
    rw c.sent_of-sent.ensures
    (popped-one of is_sound long some-held c.row_at-row.result c.row_at-row.ensures c.args.tsn c.if-row-tsn.false (get_or of.messages 0 0) refl c.close_rows.ensures c.close.ensures)
