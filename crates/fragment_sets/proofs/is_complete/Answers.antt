-- `fragment_sets::is_complete` meets its contract: without B first or E last the rows are not whole; with both, where all is well up to the row at i, those behind it decide.
use mathlib.Core.Path.{refl, sym, ◌∙◌}
use Prim.Native.Nat.{◌-◌}
use native.Mathlib.Omega.{arith}
use Rattle.fragment_sets.proofs.Complete.{Whole, whole_none, whole_not, whole-first, whole-turn, whole_break, whole-ended, whole_unended}
use Rattle.fragment_sets.proofs.is_complete.Goals as goal

pub returns-then-n-eq0 : goal.returns-then-n-eq0
returns-then-n-eq0 c = let a = c.args in whole_none a.size a.table.now a.from a.n c.if-n-eq0.true

pub returns-then-table-from-ne1 : goal.returns-then-table-from-ne1
returns-then-table-from-ne1 c =
    let a = c.args in
    whole_not a.size a.table.now a.from a.n c.requires.table_len (omega arith) (omega arith) c.if-table-from-ne1.true

pub returns-then-table-from-ne1-2 : goal.returns-then-table-from-ne1-2
returns-then-table-from-ne1-2 c =
    let begun : (let a = c.args in Whole a.size a.table.now a.from a.n 0) = let a = c.args in whole-first a.size a.table.now a.from a.n c.requires.table_len (omega arith) (omega arith) c.if-table-from-ne1.false in
    whole_unended refl (c.args.n - 1) begun (omega arith) c.if-table-from-ne1-2.true

pub loop-i-init : goal.loop-i-init
loop-i-init c =
    let begun : (let a = c.args in Whole a.size a.table.now a.from a.n 0) = let a = c.args in whole-first a.size a.table.now a.from a.n c.requires.table_len (omega arith) (omega arith) c.if-table-from-ne1.false in
    (refl, refl, begun)

pub returns-then-table-tsns : goal.returns-then-table-tsns
returns-then-table-tsns c = whole_break c.loop-i.invariant.2 (omega arith) (λ e. c.if-table-tsns.true (e ∙ sym c.tsn_next-next.ensures))

pub loop-i-preserved : goal.loop-i-preserved
loop-i-preserved c = (refl, refl, whole-turn c.loop-i.invariant.2 (omega arith) (c.if-table-tsns.false ∙ c.tsn_next-next.ensures))

pub returns : goal.returns
returns c = whole-ended refl c.loop-i.invariant.2 (omega arith) c.if-table-from-ne1-2.false
