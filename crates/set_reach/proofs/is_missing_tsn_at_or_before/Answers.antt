-- `set_reach::is_missing_tsn_at_or_before` meets its contract: the TSN before a first row that is not B is tested, then the gaps.
use mathlib.Core.Path.{sym, ◌∙◌}
use Rattle.set_reach.proofs.Reach.{missing-first, missing-behind, missing_begun}
use Rattle.set_reach.proofs.is_missing_tsn_at_or_before.Goals as goal

pub returns-then-first-eq1 : goal.returns-then-first-eq1
returns-then-first-eq1 c = missing_begun c.args.tsn c.args.size c.args.table.now c.args.from c.args.n c.requires.table_len c.requires.n_bound c.requires.n_nonzero c.row_at-first.ensures c.if-first-eq1.true c.has_gap.ensures

pub returns-then-sna32lte : goal.returns-then-sna32lte
returns-then-sna32lte c =
    missing-first c.args.tsn c.args.size c.args.table.now c.args.from c.args.n c.requires.table_len c.requires.n_bound c.requires.n_nonzero c.row_at-first.ensures c.if-first-eq1.false
    (rw c.tsn_offset.ensures at (sym c.sna32lte.ensures ∙ c.if-sna32lte.true))

pub returns : goal.returns
returns c =
    missing-behind c.args.tsn c.args.size c.args.table.now c.args.from c.args.n c.requires.table_len c.requires.n_bound c.requires.n_nonzero c.row_at-first.ensures c.if-first-eq1.false
    (rw c.tsn_offset.ensures at (sym c.sna32lte.ensures ∙ c.if-sna32lte.false)) c.has_gap-2.ensures
