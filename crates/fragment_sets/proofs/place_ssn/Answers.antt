-- `fragment_sets::place_ssn` meets its contract: what is passed from the end on is not before the SSN, so the place is among the rest.
use mathlib.Core.Path.{◌≡◌, refl, sym, ◌∙◌}
use mathlib.Core.Bool.{true, false}
use Prim.Native.Nat.{◌+◌, ◌*◌, ◌-◌}
use native.Mathlib.Omega.{arith}
use lib.ListN.{get_or}
use Rattle.table.specs.Rows.{blank, rows_of}
use Rattle.table.proofs.Columns.{rows_long}
use Rattle.table.proofs.Scans.{last_end, last-passed, last_none, id_at}
use Rattle.fragments.specs.Frag.{of_row, ssn_before}
use Rattle.fragment_sets.proofs.place_ssn.Goals as goal

pub loop-at-init : goal.loop-at-init
loop-at-init c = (refl, refl)

pub returns-then-sna16lt : goal.returns-then-sna16lt
returns-then-sna16lt c =
    let a = c.args in
    let rs = rows_of a.size a.table.now in
    let k = c.loop-at.at - 1 in
    let e = rows_long a.size a.table.now c.requires.table_len in
    let w = id_at a.size a.table.now c.requires.table_len (a.from + k) (omega arith) {q = 2 * a.size + a.from + k} (omega arith) in
    let b : of_row (ssn_before a.ssn) (get_or rs (a.from + k) blank) ≡ true = rw (← w) (sym c.sna16lt.ensures ∙ c.if-sna16lt.true) in
    let up : k + 1 ≡ c.loop-at.at = omega arith in
    up ∙ sym (c.loop-at.invariant.1 ∙ last_end (of_row (ssn_before a.ssn)) rs a.from k c.loop-at.at (omega arith) (omega arith) b)

pub loop-at-preserved : goal.loop-at-preserved
loop-at-preserved c =
    let a = c.args in
    let rs = rows_of a.size a.table.now in
    let k = c.loop-at.at - 1 in
    let e = rows_long a.size a.table.now c.requires.table_len in
    let w = id_at a.size a.table.now c.requires.table_len (a.from + k) (omega arith) {q = 2 * a.size + a.from + k} (omega arith) in
    let b : of_row (ssn_before a.ssn) (get_or rs (a.from + k) blank) ≡ false = rw (← w) (sym c.sna16lt.ensures ∙ c.if-sna16lt.false) in
    (refl, c.loop-at.invariant.1 ∙ last-passed (of_row (ssn_before a.ssn)) rs a.from k c.loop-at.at (omega arith) (omega arith) b)

pub returns : goal.returns
returns c =
    let a = c.args in
    let e : c.loop-at.at ≡ 0 = omega arith in
    let i = rw e at c.loop-at.invariant.1 in
    sym (i ∙ last_none (of_row (ssn_before a.ssn)))
