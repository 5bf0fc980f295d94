-- `payload_pop::pop` meets its contract: an unsound queue is refused, and else the first record goes if its TSN is the one asked for.
use mathlib.Core.Path.{◌≡◌, sym, ap, ◌∙◌}
use Prim.Native.Nat.{◌<◌}
use native.Mathlib.Omega.{arith}
use borrow.Author.Tests.{eq-eqb, ne_eqb}
use lib.ListN.{length, get_or}
use Rattle.wire_model.specs.Refusal.{none, says}
use Rattle.table.specs.Rows.{blank, has_tsn}
use Rattle.table.specs.declared.Row.{Row}
use Rattle.table.proofs.Columns.{rows_long}
use Rattle.payload_model.specs.Limits.{tsns_most}
use Rattle.payload_model.specs.Queue.{queue_of, after, chunk_of, popped}
use Rattle.payload_model.proofs.Laws.{Sound, sound, none_first, is-first, first-held, first_small, first-gone}
use Rattle.payload_pop.proofs.pop.Goals as goal

pub returns-then-unsound : goal.returns-then-unsound
unfolding popped
returns-then-unsound c = rw (sym c.unsound.ensures ∙ c.if-unsound.true)

pub returns-then-count-eq0 : goal.returns-then-count-eq0
unfolding popped
returns-then-count-eq0 c =
    let of = queue_of c.args.counts.now c.args.table.now in
    let p = has_tsn c.args.tsn in
    rw (sym c.unsound.ensures ∙ c.if-unsound.false, none_first p of.rows of.count c.if-count-eq0.true)

pub returns-then-row-tsn : goal.returns-then-row-tsn
unfolding popped
returns-then-row-tsn c =
    let of = queue_of c.args.counts.now c.args.table.now in
    let ok : Sound of = sound of (sym c.unsound.ensures ∙ c.if-unsound.false) in
    let long : length of.rows ≡ tsns_most = rows_long tsns_most c.args.table.now (omega arith) in
    let p = has_tsn c.args.tsn in
    let tsn = ap (λ (x : Row). x.tsn) c.row_at-row.ensures in
    rw (sym c.unsound.ensures ∙ c.if-unsound.false, is-first of ok long (omega (arith, c.if-count-eq0.false)) p, ne_eqb _ _ (λ z. c.if-row-tsn.true (tsn ∙ z)))

pub close_rows-requires : goal.close_rows-requires
close_rows-requires c =
    let of = queue_of c.args.counts.now c.args.table.now in
    let ok : Sound of = sound of (sym c.unsound.ensures ∙ c.if-unsound.false) in
    omega (arith, ok.few)

pub overflow_sub-counts-2 : goal.overflow_sub-counts-2
overflow_sub-counts-2 c =
    let of = queue_of c.args.counts.now c.args.table.now in
    let ok : Sound of = sound of (sym c.unsound.ensures ∙ c.if-unsound.false) in
    let long : length of.rows ≡ tsns_most = rows_long tsns_most c.args.table.now (omega arith) in
    rw c.row_at-row.ensures (first_small of ok long (omega (arith, c.if-count-eq0.false)))

pub returns : goal.returns
unfolding popped
returns c =
    let of = queue_of c.args.counts.now c.args.table.now in
    let ok : Sound of = sound of (sym c.unsound.ensures ∙ c.if-unsound.false) in
    let long : length of.rows ≡ tsns_most = rows_long tsns_most c.args.table.now (omega arith) in
    let p = has_tsn c.args.tsn in
    let tsn = ap (λ (x : Row). x.tsn) c.row_at-row.ensures in
    let some-held : 0 < of.count = omega (arith, c.if-count-eq0.false) in
    let gone = first-gone of ok long some-held c.close_rows.ensures in
    rw (
      sym c.unsound.ensures ∙ c.if-unsound.false,
      is-first of ok long some-held p,
      eq-eqb _ _ (sym tsn ∙ c.if-row-tsn.false),
      first-held of ok long some-held,
      c.chunk_of.ensures,
      c.row_at-row.ensures,
    )
    (ap (after (says none (chunk_of (get_or of.rows 0 blank)))) gone)
