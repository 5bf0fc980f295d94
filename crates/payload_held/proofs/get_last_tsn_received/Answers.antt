-- `payload_held::get_last_tsn_received` meets its contract: an unsound queue is refused, and else the held records say.
use mathlib.Core.Path.{sym, ◌∙◌}
use native.Mathlib.Omega.{arith}
use borrow.Author.Tests.{eq-eqb, ne_eqb}
use Prim.Native.Nat.{◌-◌, ◌<◌}
use lib.Seq.{get_or-take}
use Rattle.table.specs.Rows.{blank}
use Rattle.payload_model.specs.Queue.{queue_of, last_tsn}
use Rattle.payload_model.proofs.Laws.{sound}
use Rattle.payload_held.proofs.get_last_tsn_received.Goals as goal

pub returns-then-unsound : goal.returns-then-unsound
unfolding last_tsn
returns-then-unsound c = rw (sym c.unsound.ensures ∙ c.if-unsound.true)

pub returns-then-count-eq0 : goal.returns-then-count-eq0
unfolding last_tsn
returns-then-count-eq0 c = rw (sym c.unsound.ensures ∙ c.if-unsound.false, eq-eqb _ _ c.if-count-eq0.true)

pub row_at-row-requires : goal.row_at-row-requires
row_at-row-requires c = let s = sound _ (sym c.unsound.ensures ∙ c.if-unsound.false) in omega (arith, s.few)

pub returns : goal.returns
unfolding last_tsn
returns c =
    let q = queue_of c.args.counts c.args.table.now in
    let in_held : q.count - 1 < q.count = omega (arith, c.if-count-eq0.false) in
    rw (sym c.unsound.ensures ∙ c.if-unsound.false, ne_eqb _ _ c.if-count-eq0.false, c.row_at-row.ensures, get_or-take q.count q.rows (q.count - 1) blank in_held)
