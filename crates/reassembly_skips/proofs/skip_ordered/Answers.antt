-- `reassembly_skips::skip_ordered` meets its contract: incomplete sets go, and then the expected SSN moves on where it is at or before the last.
use mathlib.Core.Path.{sym, ◌∙◌}
use Rattle.reassembly_drop.proofs.Expected.{unbounded, moved_on_lem, stayed}
use Rattle.reassembly_skips.proofs.skip_ordered.Goals as goal

pub drop_sets-requires : goal.drop_sets-requires
drop_sets-requires c = c.requires

pub returns-then-sna16lte : goal.returns-then-sna16lte
returns-then-sna16lte c = rw c.ssn_next-queue.ensures (moved_on_lem _ _ _ (c.drop_sets.ensures ∙ unbounded _ _) (sym c.sna16lte.ensures ∙ c.if-sna16lte.true))

pub returns-else-sna16lte : goal.returns-else-sna16lte
returns-else-sna16lte c = stayed _ _ _ (c.drop_sets.ensures ∙ unbounded _ _) (sym c.sna16lte.ensures ∙ c.if-sna16lte.false)
