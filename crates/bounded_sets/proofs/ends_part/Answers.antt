-- `bounded_sets::ends_part` meets its contract: its tests are those of the promise, in their order.
use mathlib.Core.Path.{sym, ◌∙◌}
use Prim.Native.Nat.{◌+◌, ◌≤◌}
use native.Mathlib.Omega.{arith}
use lib.ListN.{length}
use Rattle.table.specs.Rows.{rows_of}
use Rattle.table.proofs.Columns.{rows_long}
use Rattle.reassembly_state.specs.Limits.{frags_most}
use Rattle.bounded_sets.proofs.Sets.{ends-before, ends-late, ends-reached, ends_begun}
use Rattle.bounded_sets.proofs.ends_part.Goals as goal

pub returns-then-not-sna16lte : goal.returns-then-not-sna16lte
returns-then-not-sna16lte c =
    let fits : c.args.at + c.args.k ≤ length (rows_of frags_most c.args.table.now) = omega (arith, rows_long frags_most c.args.table.now c.requires.table_len) in
    ends-before (rows_of frags_most c.args.table.now) c.args.at c.args.k fits c.requires.k_nonzero c.row_at-first.ensures c.args.expected c.args.last_ssn c.args.tsn c.args.peer_last_tsn
    (sym c.sna16lte.ensures ∙ c.if-not-sna16lte.true)

pub returns-then-not-sna16lt : goal.returns-then-not-sna16lt
returns-then-not-sna16lt c =
    let fits : c.args.at + c.args.k ≤ length (rows_of frags_most c.args.table.now) = omega (arith, rows_long frags_most c.args.table.now c.requires.table_len) in
    ends-late (rows_of frags_most c.args.table.now) c.args.at c.args.k fits c.requires.k_nonzero c.row_at-first.ensures c.args.expected c.args.last_ssn c.args.tsn c.args.peer_last_tsn
    (sym c.sna16lte.ensures ∙ c.if-not-sna16lte.false) (sym c.sna16lt.ensures ∙ c.if-not-sna16lt.true)

pub returns-then-is_reached : goal.returns-then-is_reached
returns-then-is_reached c =
    let fits : c.args.at + c.args.k ≤ length (rows_of frags_most c.args.table.now) = omega (arith, rows_long frags_most c.args.table.now c.requires.table_len) in
    ends-reached (rows_of frags_most c.args.table.now) c.args.at c.args.k fits c.requires.k_nonzero c.row_at-first.ensures c.args.expected c.args.last_ssn c.args.tsn c.args.peer_last_tsn
    (sym c.sna16lte.ensures ∙ c.if-not-sna16lte.false) (sym c.sna16lt.ensures ∙ c.if-not-sna16lt.false) (sym c.is_reached.ensures ∙ c.if-is_reached.true)

pub returns : goal.returns
returns c =
    let fits : c.args.at + c.args.k ≤ length (rows_of frags_most c.args.table.now) = omega (arith, rows_long frags_most c.args.table.now c.requires.table_len) in
    ends_begun (rows_of frags_most c.args.table.now) c.args.at c.args.k fits c.requires.k_nonzero c.row_at-first.ensures c.args.expected c.args.last_ssn c.args.tsn c.args.peer_last_tsn
    (sym c.sna16lte.ensures ∙ c.if-not-sna16lte.false) (sym c.sna16lt.ensures ∙ c.if-not-sna16lt.false) (sym c.is_reached.ensures ∙ c.if-is_reached.false) c.sna32lte.ensures
