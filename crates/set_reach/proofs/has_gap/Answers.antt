-- `set_reach::has_gap` meets its contract: where no gap ahead of the row at i is up to the TSN, those behind it decide.
use mathlib.Core.Path.{refl, sym, ◌∙◌}
use Prim.Native.Nat.{◌+◌, ◌-◌}
use native.Mathlib.Omega.{arith}
use Rattle.set_reach.proofs.Reach.{gap_none, gap-filled, gap-later, gap_found, gap-ended, gap_unended}
use Rattle.set_reach.proofs.has_gap.Goals as goal
use Rattle.set_reach.proofs.has_gap.Goals.{then-table-tsns+else-sna32lte, else-table-tsns}

pub loop-i-init : goal.loop-i-init
loop-i-init c = (refl, refl, gap_none c.args.tsn c.args.size c.args.table.now c.args.from c.args.n c.requires.table_len c.requires.n_bound c.requires.n_nonzero)

pub returns-then-sna32lte : goal.returns-then-sna32lte
returns-then-sna32lte c = gap_found c.loop-i.invariant.2 (omega arith) (λ e. c.if-table-tsns.true (e ∙ sym c.tsn_next-next.ensures)) (rw c.tsn_next-next.ensures at (sym c.sna32lte.ensures ∙ c.if-sna32lte.true))

pub loop-i-preserved : goal.loop-i-preserved
loop-i-preserved c = (
  refl,
  refl,
  elim c.if-table-tsns.branch [
    | then-table-tsns+else-sna32lte w ↦
        gap-later c.loop-i.invariant.2 (omega arith) (λ e. w.if-table-tsns.true (e ∙ sym c.tsn_next-next.ensures))
        (rw c.tsn_next-next.ensures at (sym w.sna32lte.ensures ∙ w.if-sna32lte.false))
    | else-table-tsns w ↦ gap-filled c.loop-i.invariant.2 (omega arith) (w.if-table-tsns.false ∙ c.tsn_next-next.ensures)
  ],
)

pub returns-then-table-from-eq1 : goal.returns-then-table-from-eq1
returns-then-table-from-eq1 c = gap-ended c.loop-i.invariant.2 (omega arith) (omega (arith, c.loop-i.invariant.2.within)) c.if-table-from-eq1.true

pub returns : goal.returns
returns c = gap_unended c.loop-i.invariant.2 (omega arith) (omega (arith, c.loop-i.invariant.2.within)) c.if-table-from-eq1.false {p = c.args.size + c.args.from + (c.args.n - 1)} (omega (arith, c.loop-i.invariant.2.within)) (rw c.tsn_next.ensures at c.sna32lte-2.ensures)
