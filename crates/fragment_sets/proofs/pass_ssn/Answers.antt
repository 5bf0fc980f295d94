-- `fragment_sets::pass_ssn` meets its contract: what is passed has this SSN, so the rows ahead are those passed and those ahead in the rest.
use mathlib.Core.Path.{◌≡◌, refl, sym, ◌∙◌}
use Prim.Native.Nat.{◌+◌, ◌*◌, ◌/◌, ◌-◌, ◌≤◌}
use native.Mathlib.Omega.{arith}
use lib.ListN.{length}
use Rattle.table.specs.Rows.{rows_of}
use Rattle.table.proofs.Columns.{rows_long}
use Rattle.fragments.specs.Frag.{of_row}
use Rattle.fragment_sets.specs.Sets.{other_ssn}
use Rattle.fragment_sets.proofs.Together.{pass_rows, passed-all}
use Rattle.fragment_sets.proofs.pass_ssn.Goals as goal

pub loop-block-init : goal.loop-block-init
loop-block-init c =
    let a = c.args in
    let e : a.n - 0 * 16 ≡ a.n = omega arith in
    let f : a.from + 0 * 16 ≡ a.from = omega arith in
    (refl, rw (e, f) (omega arith))

pub overflow_add-result : goal.overflow_add-result
overflow_add-result c =
    let a = c.args in
    let rs = rows_of a.size a.table.now in
    let fits : a.from + a.n ≤ length rs = omega (arith, rows_long a.size a.table.now c.requires.table_len) in
    omega (arith, passed-all (of_row (other_ssn a.ssn)) rs a.from a.n (c.loop-block.block * 16) c.run_ssn.result fits c.loop-block.invariant.1 c.run_ssn.ensures)

pub returns-then-has_other : goal.returns-then-has_other
returns-then-has_other c =
    let a = c.args in
    let rs = rows_of a.size a.table.now in
    let fits : a.from + a.n ≤ length rs = omega (arith, rows_long a.size a.table.now c.requires.table_len) in
    (passed-all (of_row (other_ssn a.ssn)) rs a.from a.n (c.loop-block.block * 16) c.run_ssn.result fits c.loop-block.invariant.1 c.run_ssn.ensures).0

pub loop-block-preserved : goal.loop-block-preserved
loop-block-preserved c =
    let a = c.args in
    let rs = rows_of a.size a.table.now in
    let i = c.loop-block.block * 16 in
    let fits : a.from + a.n ≤ length rs = omega (arith, rows_long a.size a.table.now c.requires.table_len) in
    let e : (c.loop-block.block + 1) * 16 ≡ i + 16 = omega arith in
    (refl, rw e (pass_rows (of_row (other_ssn a.ssn)) rs a.from a.n i 16 fits (omega arith) (sym c.has_other.ensures ∙ c.if-has_other.false) ∙ c.loop-block.invariant.1))

pub overflow_add-result-2 : goal.overflow_add-result-2
overflow_add-result-2 c =
    let a = c.args in
    let rs = rows_of a.size a.table.now in
    let fits : a.from + a.n ≤ length rs = omega (arith, rows_long a.size a.table.now c.requires.table_len) in
    let e : c.loop-block.block ≡ a.n / 16 = omega arith in
    omega (arith, passed-all (of_row (other_ssn a.ssn)) rs a.from a.n (a.n / 16 * 16) c.run_ssn-2.result fits (rw e at c.loop-block.invariant.1) c.run_ssn-2.ensures)

pub returns : goal.returns
returns c =
    let a = c.args in
    let rs = rows_of a.size a.table.now in
    let fits : a.from + a.n ≤ length rs = omega (arith, rows_long a.size a.table.now c.requires.table_len) in
    let e : c.loop-block.block ≡ a.n / 16 = omega arith in
    (passed-all (of_row (other_ssn a.ssn)) rs a.from a.n (a.n / 16 * 16) c.run_ssn-2.result fits (rw e at c.loop-block.invariant.1) c.run_ssn-2.ensures).0
