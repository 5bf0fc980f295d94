-- `inflight_push::push_no_check` meets its contract: an unsound queue is refused, a TSN that is held, a full table, and else the record and its number go to one place.
use mathlib.Core.Path.{◌≡◌, sym, ap, ◌∙◌}
use mathlib.Core.Bool.{false}
use Prim.Native.Nat.{◌<◌, ◌≤◌}
use borrow.Author.Rules.{rules}
use native.Mathlib.Omega.{arith}
use borrow.Author.Tests.{le-leb, lt-leb}
use lib.ListN.{length, length-take}
use Rattle.table.specs.Rows.{tsn_before, short_length}
use Rattle.table.specs.declared.Row.{Row}
use Rattle.table.proofs.Scans.{last_within}
use Rattle.payload_model.proofs.Laws.{Sound, row-size}
use Rattle.inflight_model.specs.Queue.{queue_of, held, unsound, stored, pushed_no_check}
use Rattle.inflight_model.proofs.Laws.{as_tsns, sound}
use Rattle.inflight_push.proofs.push_no_check.Goals as goal

pub returns-then-unsound : goal.returns-then-unsound
unfolding pushed_no_check
returns-then-unsound c = rw (sym (c.unsound.ensures c.args.messages.now) ∙ c.if-unsound.true)

pub has_tsn-requires : goal.has_tsn-requires
has_tsn-requires c =
    let of = queue_of c.args.counts.now c.args.table.now c.args.messages.now in
    let is_sound : unsound of ≡ false = sym (c.unsound.ensures of.messages) ∙ c.if-unsound.false in
    let ok : Sound (as_tsns of) = sound of is_sound in
    omega (arith, ok.few)

pub returns-then-has_tsn : goal.returns-then-has_tsn
unfolding pushed_no_check
returns-then-has_tsn c =
    let of = queue_of c.args.counts.now c.args.table.now c.args.messages.now in
    let is_sound : unsound of ≡ false = sym (c.unsound.ensures of.messages) ∙ c.if-unsound.false in
    rw (is_sound, ← c.row_of-row.ensures, sym c.has_tsn.ensures ∙ c.if-has_tsn.true)

pub returns-then-count-ge-TSNS : goal.returns-then-count-ge-TSNS
unfolding pushed_no_check
returns-then-count-ge-TSNS c =
    let of = queue_of c.args.counts.now c.args.table.now c.args.messages.now in
    let is_sound : unsound of ≡ false = sym (c.unsound.ensures of.messages) ∙ c.if-unsound.false in
    rw (is_sound, ← c.row_of-row.ensures, sym c.has_tsn.ensures ∙ c.if-has_tsn.false, le-leb _ _ c.if-count-ge-TSNS.true)

pub put_row-requires : goal.put_row-requires
put_row-requires c =
    let of = queue_of c.args.counts.now c.args.table.now c.args.messages.now in
    let within : c.place_tsn-at.result ≤ of.count = let in_held = last_within (tsn_before c.row_of-row.result.tsn) (held of) in let long : length (held of) ≤ of.count = simp length-take (omega arith) in omega (arith, c.place_tsn-at.ensures) in
    record {
      table_len = omega arith;
      n_lt_size = c.if-count-ge-TSNS.false;
      at_le_n = within;
    }

pub put_one-requires : goal.put_one-requires
put_one-requires c =
    let of = queue_of c.args.counts.now c.args.table.now c.args.messages.now in
    let within : c.place_tsn-at.result ≤ of.count = let in_held = last_within (tsn_before c.row_of-row.result.tsn) (held of) in let long : length (held of) ≤ of.count = simp length-take (omega arith) in omega (arith, c.place_tsn-at.ensures) in
    record {
      at_le_total = omega (arith, within);
      total_in_bounds = omega (arith, c.if-count-ge-TSNS.false);
    }

pub overflow_add-counts-2 : goal.overflow_add-counts-2
overflow_add-counts-2 c =
    let of = queue_of c.args.counts.now c.args.table.now c.args.messages.now in
    let is_sound : unsound of ≡ false = sym (c.unsound.ensures of.messages) ∙ c.if-unsound.false in
    let ok : Sound (as_tsns of) = sound of is_sound in
    let size_fits : c.args.size < 65536 = search rules in
    omega (arith, ok.small, size_fits)

pub returns : goal.returns
unfolding pushed_no_check stored
returns c =
    let of = queue_of c.args.counts.now c.args.table.now c.args.messages.now in
    let is_sound : unsound of ≡ false = sym (c.unsound.ensures of.messages) ∙ c.if-unsound.false in
    let size_fits : c.args.size < 65536 = search rules in
    rw (
      is_sound,
      ← c.row_of-row.ensures,
      sym c.has_tsn.ensures ∙ c.if-has_tsn.false,
      lt-leb _ _ c.if-count-ge-TSNS.false,
      c.put_row.ensures,
      c.put_one.ensures,
      c.place_tsn-at.ensures,
      ap (λ (x : Row). short_length x.head) c.row_of-row.ensures,
      row-size c.args.chunk c.args.size size_fits,
    )
