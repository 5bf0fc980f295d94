-- `reassembly_drop::passed_over` meets its contract: its tests are those of the promise, in their order.
use mathlib.Core.Path.{◌≡◌, sym, ◌∙◌}
use native.Mathlib.Omega.{arith}
use lib.ListN.{take, drop}
use mathlib.Core.List.{map}
use Rattle.table.specs.Rows.{rows_of}
use Rattle.table.proofs.Columns.{rows_long}
use Rattle.fragments.specs.Frag.{bare}
use Rattle.fragment_sets.specs.Sets.{set_up_to}
use Rattle.reassembly_state.specs.Limits.{frags_most}
use Rattle.set_reach.proofs.Passing.{first_up_to_lem}
use Rattle.set_reach.proofs.Skip.{dropped-missing, dropped_free}
use Rattle.reassembly_drop.proofs.passed_over.Goals as goal

pub returns-then-not-sna16lte : goal.returns-then-not-sna16lte
returns-then-not-sna16lte c =
    let up_to_lem : set_up_to c.args.last_ssn (map bare (take c.args.k (drop c.args.at (rows_of frags_most c.args.table.now)))) ≡ c.sna16lte.result = let rows = rows_of frags_most c.args.table.now in let fit = rows_long frags_most c.args.table.now c.requires.table_len in first_up_to_lem rows c.args.at c.args.k (omega arith) c.requires.k_nonzero c.args.last_ssn ∙ rw (← c.row_at-first.ensures) (sym c.sna16lte.ensures) in
    rw (up_to_lem ∙ c.if-not-sna16lte.true)

pub returns-then-is_complete : goal.returns-then-is_complete
returns-then-is_complete c =
    let up_to_lem : set_up_to c.args.last_ssn (map bare (take c.args.k (drop c.args.at (rows_of frags_most c.args.table.now)))) ≡ c.sna16lte.result = let rows = rows_of frags_most c.args.table.now in let fit = rows_long frags_most c.args.table.now c.requires.table_len in first_up_to_lem rows c.args.at c.args.k (omega arith) c.requires.k_nonzero c.args.last_ssn ∙ rw (← c.row_at-first.ensures) (sym c.sna16lte.ensures) in
    rw (up_to_lem ∙ c.if-not-sna16lte.false, sym c.is_complete.ensures ∙ c.if-is_complete.true)

pub returns-then-not-bounded : goal.returns-then-not-bounded
returns-then-not-bounded c =
    let up_to_lem : set_up_to c.args.last_ssn (map bare (take c.args.k (drop c.args.at (rows_of frags_most c.args.table.now)))) ≡ c.sna16lte.result = let rows = rows_of frags_most c.args.table.now in let fit = rows_long frags_most c.args.table.now c.requires.table_len in first_up_to_lem rows c.args.at c.args.k (omega arith) c.requires.k_nonzero c.args.last_ssn ∙ rw (← c.row_at-first.ensures) (sym c.sna16lte.ensures) in
    let a = c.args in
    dropped_free a.last_ssn a.bounded a.tsn _ (up_to_lem ∙ c.if-not-sna16lte.false) (sym c.is_complete.ensures ∙ c.if-is_complete.false) c.if-not-bounded.true

pub returns : goal.returns
returns c =
    let up_to_lem : set_up_to c.args.last_ssn (map bare (take c.args.k (drop c.args.at (rows_of frags_most c.args.table.now)))) ≡ c.sna16lte.result = let rows = rows_of frags_most c.args.table.now in let fit = rows_long frags_most c.args.table.now c.requires.table_len in first_up_to_lem rows c.args.at c.args.k (omega arith) c.requires.k_nonzero c.args.last_ssn ∙ rw (← c.row_at-first.ensures) (sym c.sna16lte.ensures) in
    let a = c.args in
    dropped-missing a.last_ssn a.bounded a.tsn _ (up_to_lem ∙ c.if-not-sna16lte.false) (sym c.is_complete.ensures ∙ c.if-is_complete.false) c.if-not-bounded.false c.is_missing_tsn_at_or_before.ensures
