-- `bounded_sets::settles` meets its contract: its tests are those of the promise, in their order.
use Prim.Native.Nat.{◌+◌, ◌≤◌}
use native.Mathlib.Omega.{arith}
use lib.ListN.{length}
use Rattle.table.specs.Rows.{rows_of}
use Rattle.table.proofs.Columns.{rows_long}
use Rattle.reassembly_state.specs.Limits.{frags_most}
use Rattle.bounded_sets.proofs.Sets.{settles_other, settles-expected, settles-reached}
use Rattle.bounded_sets.proofs.settles.Goals as goal

pub returns-then-ssn-last_ssn : goal.returns-then-ssn-last_ssn
returns-then-ssn-last_ssn c =
    let fits : c.args.at + c.args.k ≤ length (rows_of frags_most c.args.table.now) = omega (arith, rows_long frags_most c.args.table.now c.requires.table_len) in
    settles_other (rows_of frags_most c.args.table.now) c.args.at c.args.k fits c.requires.k_nonzero c.row_at-first.ensures c.args.expected c.args.last_ssn c.args.tsn c.if-ssn-last_ssn.true

pub returns-then-ssn-expected : goal.returns-then-ssn-expected
returns-then-ssn-expected c =
    let fits : c.args.at + c.args.k ≤ length (rows_of frags_most c.args.table.now) = omega (arith, rows_long frags_most c.args.table.now c.requires.table_len) in
    settles-expected (rows_of frags_most c.args.table.now) c.args.at c.args.k fits c.requires.k_nonzero c.row_at-first.ensures c.args.expected c.args.last_ssn c.args.tsn c.if-ssn-last_ssn.false c.if-ssn-expected.true

pub returns : goal.returns
returns c =
    let fits : c.args.at + c.args.k ≤ length (rows_of frags_most c.args.table.now) = omega (arith, rows_long frags_most c.args.table.now c.requires.table_len) in
    settles-reached (rows_of frags_most c.args.table.now) c.args.at c.args.k fits c.requires.k_nonzero c.row_at-first.ensures c.args.expected c.args.last_ssn c.args.tsn c.if-ssn-last_ssn.false c.if-ssn-expected.false c.is_reached.ensures
