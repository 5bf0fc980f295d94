-- `payload_parts::keep_after` meets its contract: after i turns the rows that stay of the first i stand at the front.
use mathlib.Core.Path.{◌≡◌, sym, ap, ◌∙◌}
use mathlib.Core.Bool.{not}
use native.Mathlib.Omega.{arith}
use Rattle.table.specs.Rows.{rows_of}
use Rattle.table.proofs.Columns.{rows_long}
use Rattle.payload_model.specs.Limits.{tsns_most}
use Rattle.payload_model.specs.Queue.{stays_after}
use Rattle.payload_model.proofs.Laws.{keep_none, keep_stays, keep_goes}
use Rattle.payload_parts.proofs.keep_after.Goals as goal
use Rattle.payload_parts.proofs.keep_after.Goals.{then-not-sna32lte, else-not-sna32lte}

pub loop-i-init : goal.loop-i-init
loop-i-init c =
    let a = c.args in
    let e = rows_long tsns_most a.table.now c.requires.table_len in
    (c.requires.table_len, keep_none (stays_after a.tsn) (rows_of tsns_most a.table.now) a.n (omega arith))

pub loop-i-preserved : goal.loop-i-preserved
loop-i-preserved c =
    elim c.if-not-sna32lte.branch [
      | then-not-sna32lte w ↦
          let kept = keep_stays c.loop-i.invariant.1 (omega arith) c.row_at-row.result c.row_at-row.ensures (ap (λ b. not b) (sym c.sna32lte.ensures ∙ w.if-not-sna32lte.true)) in
          (omega arith, rw (w.left-is, w.table-is, w.set_row.ensures) kept)
      | else-not-sna32lte w ↦
          let kept = keep_goes c.loop-i.invariant.1 (omega arith) c.row_at-row.result c.row_at-row.ensures (ap (λ b. not b) (sym c.sna32lte.ensures ∙ w.if-not-sna32lte.false)) in
          (omega arith, rw (w.left-is, w.table-is) kept)
    ]

pub returns : goal.returns
returns c =
    let k = c.loop-i.invariant.1 in
    let e : c.loop-i.i ≡ c.args.n = omega (arith, k.within) in
    record {
      value = rw e at k.count;
      table_after = rw e at k.is;
    }
