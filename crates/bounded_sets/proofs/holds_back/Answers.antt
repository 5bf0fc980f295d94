-- `bounded_sets::holds_back` meets its contract: its tests are the two of the promise, in their order.
use mathlib.Core.Path.{◌≡◌, sym, ap, ◌∙◌}
use mathlib.Core.Bool.{not}
use mathlib.Core.List.{map}
use native.Mathlib.Omega.{arith}
use lib.ListN.{take, drop}
use Rattle.table.specs.Rows.{rows_of}
use Rattle.table.proofs.Columns.{rows_long}
use Rattle.fragments.specs.Frag.{bare}
use Rattle.fragment_sets.specs.Sets.{set_up_to}
use Rattle.set_reach.proofs.Passing.{first_up_to_lem}
use Rattle.reassembly_state.specs.Limits.{frags_most}
use Rattle.bounded_sets.proofs.holds_back.Goals as goal

pub returns-then-not-sna16lte : goal.returns-then-not-sna16lte
returns-then-not-sna16lte c =
    let up_to_lem : set_up_to c.args.last_ssn (map bare (take c.args.k (drop c.args.at (rows_of frags_most c.args.table.now)))) ≡ c.sna16lte.result = let fit = rows_long frags_most c.args.table.now c.requires.table_len in first_up_to_lem (rows_of frags_most c.args.table.now) c.args.at c.args.k (omega arith) c.requires.k_nonzero c.args.last_ssn ∙ rw (← c.row_at-first.ensures) (sym c.sna16lte.ensures) in
    rw (up_to_lem ∙ c.if-not-sna16lte.true)

pub returns : goal.returns
returns c =
    let up_to_lem : set_up_to c.args.last_ssn (map bare (take c.args.k (drop c.args.at (rows_of frags_most c.args.table.now)))) ≡ c.sna16lte.result = let fit = rows_long frags_most c.args.table.now c.requires.table_len in first_up_to_lem (rows_of frags_most c.args.table.now) c.args.at c.args.k (omega arith) c.requires.k_nonzero c.args.last_ssn ∙ rw (← c.row_at-first.ensures) (sym c.sna16lte.ensures) in
    rw (up_to_lem ∙ c.if-not-sna16lte.false) (ap not c.is_reached.ensures)
