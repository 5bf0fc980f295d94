-- `set_reach::is_reached` meets its contract: whether the set is complete picks the test.
use mathlib.Core.Path.{sym, ◌∙◌}
use Rattle.set_reach.specs.Reach.{reached}
use Rattle.set_reach.proofs.is_reached.Goals as goal

pub returns-then-is_complete : goal.returns-then-is_complete
unfolding reached
returns-then-is_complete c = rw (sym c.is_complete.ensures ∙ c.if-is_complete.true) c.all_up_to.ensures

pub returns : goal.returns
unfolding reached
returns c = rw (sym c.is_complete.ensures ∙ c.if-is_complete.false) c.is_missing_tsn_at_or_before.ensures
