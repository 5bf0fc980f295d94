-- `table_places::place_tsn` meets its contract: the last row is before the TSN, or what is passed from the end on is not, so that the place is among the rest.
use mathlib.Core.Path.{◌≡◌, refl, sym, ◌∙◌}
use mathlib.Core.Bool.{true}
use Prim.Native.Nat.{◌+◌, ◌-◌}
use native.Mathlib.Omega.{arith}
use lib.ListN.{get_or}
use Rattle.table.specs.Rows.{blank, rows_of, tsn_before}
use Rattle.table.proofs.Columns.{rows_long}
use Rattle.table.proofs.Scans.{last_end, last-passed-all, tsn-at}
use Rattle.table_places.proofs.place_tsn.Goals as goal

pub returns-then-sna32lt : goal.returns-then-sna32lt
returns-then-sna32lt c =
    let a = c.args in
    let k = a.n - 1 in
    let e = rows_long a.size a.table.now c.requires.table_len in
    let w = tsn-at a.size a.table.now c.requires.table_len (a.from + k) (omega arith) {q = a.size + a.from + k} (omega arith) in
    let b : tsn_before a.tsn (get_or (rows_of a.size a.table.now) (a.from + k) blank) ≡ true = rw (← w) (sym c.sna32lt.ensures ∙ c.if-sna32lt.true) in
    sym (last_end (tsn_before a.tsn) (rows_of a.size a.table.now) a.from k a.n (omega arith) (omega arith) b)

pub loop-left-init : goal.loop-left-init
loop-left-init c = (omega arith, refl)

pub returns-then-has_before : goal.returns-then-has_before
returns-then-has_before c = c.walk_back.ensures ∙ sym c.loop-left.invariant.1

pub loop-left-preserved : goal.loop-left-preserved
loop-left-preserved c =
    let a = c.args in
    let b = c.loop-left.left - 16 in
    (omega arith, c.loop-left.invariant.1 ∙ last-passed-all (tsn_before a.tsn) (rows_of a.size a.table.now) a.from b 16 c.loop-left.left (omega arith) (sym c.has_before.ensures ∙ c.if-has_before.false))

pub returns : goal.returns
returns c = c.walk_back-2.ensures ∙ sym c.loop-left.invariant.1
