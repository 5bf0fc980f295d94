-- `payload_push::push` meets its contract: an unsound queue is refused, then an opposite TSN; what is old or held is logged, a full table is refused, and else the
-- record goes to its place.
use mathlib.Core.Path.{◌≡◌, sym, ap, ◌∙◌}
use mathlib.Core.Bool.{false}
use Prim.Native.Nat.{◌^◌, ◌<◌, ◌≤◌}
use borrow.Author.Rules.{rules}
use native.Mathlib.Omega.{arith}
use lib.ListN.{length, length-take}
use Rattle.serial_model.specs.Serial.{compared}
use Rattle.serial_model.specs.declared.Order.TheVariants.{Later}
use Rattle.table.specs.Rows.{tsn_before, short_length}
use Rattle.table.specs.declared.Row.{Row}
use Rattle.payload_model.specs.Queue.{queue_of, held, unsound, stored, pushed}
use Rattle.payload_model.proofs.Laws.{Sound, sound, row-size}
use Rattle.payload_push.proofs.Pushes.{push-opposite, push_old, push-held, push-full, push-new}
use Rattle.table.proofs.Scans.{last_within}
use Rattle.payload_push.proofs.push.Goals as goal

pub returns-then-unsound : goal.returns-then-unsound
unfolding pushed
returns-then-unsound c = rw (sym c.unsound.ensures ∙ c.if-unsound.true)

pub returns-in-Opposite : goal.returns-in-Opposite
returns-in-Opposite c =
    let of = queue_of c.args.counts.now c.args.table.now in
    let new = c.row_of-row.result in
    let point = c.args.cumulative in
    let ok : unsound of ≡ false = sym c.unsound.ensures ∙ c.if-unsound.false in
    rw (← c.row_of-row.ensures, push-opposite of new point ok (sym c.tsn_compare.ensures ∙ c.in-Opposite.is))

pub returns-in-Earlier : goal.returns-in-Earlier
returns-in-Earlier c =
    let of = queue_of c.args.counts.now c.args.table.now in
    let new = c.row_of-row.result in
    let point = c.args.cumulative in
    let ok : unsound of ≡ false = sym c.unsound.ensures ∙ c.if-unsound.false in
    let new-fits : new.tsn < 2 ^ 32 = search rules in
    let point-fits : point < 2 ^ 32 = search rules in
    rw (← c.row_of-row.ensures, push_old of new point ok new-fits point-fits (rw c.tsn_compare.ensures at c.in-Earlier.is), c.log_tsn.ensures)

pub has_tsn-requires : goal.has_tsn-requires
has_tsn-requires c =
    let of = queue_of c.args.counts.now c.args.table.now in
    let ok : unsound of ≡ false = sym c.unsound.ensures ∙ c.if-unsound.false in
    let sound-there : Sound of = sound of ok in
    omega (arith, sound-there.few)

pub returns-then-has_tsn : goal.returns-then-has_tsn
returns-then-has_tsn c =
    let of = queue_of c.args.counts.now c.args.table.now in
    let new = c.row_of-row.result in
    let point = c.args.cumulative in
    let ok : unsound of ≡ false = sym c.unsound.ensures ∙ c.if-unsound.false in
    let new-fits : new.tsn < 2 ^ 32 = search rules in
    let point-fits : point < 2 ^ 32 = search rules in
    let later : compared 32 new.tsn point ≡ Later = sym c.tsn_compare.ensures ∙ c.in-Later.is in
    rw (← c.row_of-row.ensures, push-held of new point ok new-fits point-fits later (sym c.has_tsn.ensures ∙ c.if-has_tsn.true), c.log_tsn-then-has_tsn.ensures)

pub returns-then-count-ge-TSNS : goal.returns-then-count-ge-TSNS
returns-then-count-ge-TSNS c =
    let of = queue_of c.args.counts.now c.args.table.now in
    let new = c.row_of-row.result in
    let point = c.args.cumulative in
    let ok : unsound of ≡ false = sym c.unsound.ensures ∙ c.if-unsound.false in
    let new-fits : new.tsn < 2 ^ 32 = search rules in
    let point-fits : point < 2 ^ 32 = search rules in
    let later : compared 32 new.tsn point ≡ Later = sym c.tsn_compare.ensures ∙ c.in-Later.is in
    rw (← c.row_of-row.ensures, push-full of new point ok new-fits point-fits later (sym c.has_tsn.ensures ∙ c.if-has_tsn.false) c.if-count-ge-TSNS.true)

pub put_row-requires : goal.put_row-requires
put_row-requires c =
    let new = c.row_of-row.result in
    let of = queue_of c.args.counts.now c.args.table.now in
    let within = last_within (tsn_before new.tsn) (held of) in
    let long : length (held of) ≤ of.count = simp length-take (omega arith) in
    record {
      table_len = omega arith;
      n_lt_size = c.if-count-ge-TSNS.false;
      at_le_n = omega (arith, c.place_tsn-at.ensures);
    }

pub overflow_add-counts-2 : goal.overflow_add-counts-2
overflow_add-counts-2 c =
    let of = queue_of c.args.counts.now c.args.table.now in
    let ok : unsound of ≡ false = sym c.unsound.ensures ∙ c.if-unsound.false in
    let sound-there : Sound of = sound of ok in
    omega (arith, sound-there.small)

pub returns : goal.returns
unfolding stored
returns c =
    let of = queue_of c.args.counts.now c.args.table.now in
    let new = c.row_of-row.result in
    let point = c.args.cumulative in
    let ok : unsound of ≡ false = sym c.unsound.ensures ∙ c.if-unsound.false in
    let new-fits : new.tsn < 2 ^ 32 = search rules in
    let point-fits : point < 2 ^ 32 = search rules in
    let later : compared 32 new.tsn point ≡ Later = sym c.tsn_compare.ensures ∙ c.in-Later.is in
    rw (
      ← c.row_of-row.ensures,
      push-new of new point ok new-fits point-fits later
          (sym c.has_tsn.ensures ∙ c.if-has_tsn.false) c.if-count-ge-TSNS.false,
      c.put_row.ensures,
      c.place_tsn-at.ensures,
      ap (λ (x : Row). short_length x.head) c.row_of-row.ensures,
      row-size c.args.chunk c.args.size (search rules),
    )
