-- `table_places::walk_back` meets its contract: what is passed from the end on is not before the TSN, so the place is among the rest.
use mathlib.Core.Path.{◌≡◌, sym, ◌∙◌}
use mathlib.Core.Bool.{true, false}
use Prim.Native.Nat.{◌+◌, ◌-◌}
use native.Mathlib.Omega.{arith}
use lib.ListN.{get_or}
use Rattle.table.specs.Rows.{blank, rows_of, tsn_before}
use Rattle.table.proofs.Columns.{rows_long}
use Rattle.table.proofs.Scans.{last_end, last-passed, last_none, tsn-at}
use Rattle.table_places.proofs.walk_back.Goals as goal

pub returns-then-sna32lt : goal.returns-then-sna32lt
returns-then-sna32lt c =
    let a = c.args in
    let rs = rows_of a.size a.table.now in
    let k = c.loop-at.at - 1 in
    let e = rows_long a.size a.table.now c.requires.table_len in
    let w = tsn-at a.size a.table.now c.requires.table_len (a.from + k) (omega arith) {q = a.size + a.from + k} (omega arith) in
    let b : tsn_before a.tsn (get_or rs (a.from + k) blank) ≡ true = rw (← w) (sym c.sna32lt.ensures ∙ c.if-sna32lt.true) in
    let s : k + 1 ≡ c.loop-at.at = omega arith in
    s ∙ sym (c.loop-at.invariant ∙ last_end (tsn_before a.tsn) rs a.from k c.loop-at.at (omega arith) (omega arith) b)

pub loop-at-preserved : goal.loop-at-preserved
loop-at-preserved c =
    let a = c.args in
    let rs = rows_of a.size a.table.now in
    let k = c.loop-at.at - 1 in
    let e = rows_long a.size a.table.now c.requires.table_len in
    let w = tsn-at a.size a.table.now c.requires.table_len (a.from + k) (omega arith) {q = a.size + a.from + k} (omega arith) in
    let b : tsn_before a.tsn (get_or rs (a.from + k) blank) ≡ false = rw (← w) (sym c.sna32lt.ensures ∙ c.if-sna32lt.false) in
    c.loop-at.invariant ∙ last-passed (tsn_before a.tsn) rs a.from k c.loop-at.at (omega arith) (omega arith) b

pub returns : goal.returns
returns c =
    let a = c.args in
    let e : c.loop-at.at ≡ 0 = omega arith in
    let i = rw e at c.loop-at.invariant in
    sym (i ∙ last_none (tsn_before a.tsn))
