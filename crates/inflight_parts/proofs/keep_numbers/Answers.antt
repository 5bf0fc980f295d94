-- `inflight_parts::keep_numbers` meets its contract: after i turns the numbers beside the rows that stay of the first i stand at the front.
use mathlib.Core.Path.{◌≡◌, refl, sym, ap, ◌∙◌}
use mathlib.Core.Bool.{true, false, not}
use Prim.Native.Nat.{◌+◌}
use native.Mathlib.Omega.{arith}
use lib.ListN.{get_or}
use Rattle.table.specs.Rows.{blank, rows_of}
use Rattle.table.proofs.Columns.{rows_long}
use Rattle.table.proofs.Scans.{tsn-at}
use Rattle.payload_model.specs.Limits.{tsns_most}
use Rattle.payload_model.specs.Queue.{stays_after}
use Rattle.inflight_model.proofs.Passes.{beside_none, beside_stays, beside_goes}
use Rattle.inflight_parts.proofs.keep_numbers.Goals as goal
use Rattle.inflight_parts.proofs.keep_numbers.Goals.{then-not-sna32lte, else-not-sna32lte}

pub loop-i-init : goal.loop-i-init
loop-i-init c =
    let a = c.args in
    let e = rows_long tsns_most a.table.now c.requires.table_len in
    (refl, beside_none (stays_after a.tsn) (rows_of tsns_most a.table.now) a.messages.now a.n (omega arith) c.requires.n_in_bounds)

pub loop-i-preserved : goal.loop-i-preserved
loop-i-preserved c =
    let a = c.args in
    let w = tsn-at tsns_most a.table.now c.requires.table_len c.loop-i.i (omega arith) {q = tsns_most + c.loop-i.i} (omega arith) in
    elim c.if-not-sna32lte.branch [
      | then-not-sna32lte t ↦
          let b : stays_after a.tsn (get_or (rows_of tsns_most a.table.now) c.loop-i.i blank) ≡ true = rw (← w) (ap (λ b. not b) (sym c.sna32lte.ensures ∙ t.if-not-sna32lte.true)) in
          (c.if-not-sna32lte.auto.messages ∙ c.loop-i.invariant.0, rw (t.left-is, t.messages-is) (beside_stays c.loop-i.invariant.1 (omega arith) b))
      | else-not-sna32lte t ↦
          let b : stays_after a.tsn (get_or (rows_of tsns_most a.table.now) c.loop-i.i blank) ≡ false = rw (← w) (ap (λ b. not b) (sym c.sna32lte.ensures ∙ t.if-not-sna32lte.false)) in
          (c.if-not-sna32lte.auto.messages ∙ c.loop-i.invariant.0, rw (t.left-is, t.messages-is) (beside_goes c.loop-i.invariant.1 (omega arith) b))
    ]

pub returns : goal.returns
returns c =
    let k = c.loop-i.invariant.1 in
    let e : c.loop-i.i ≡ c.args.n = omega (arith, k.within) in
    rw e at k.is
