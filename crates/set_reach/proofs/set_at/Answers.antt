-- `set_reach::set_at` meets its contract: the set at an index has the SSN of the row there, and the run of that SSN is counted.
use Rattle.set_reach.proofs.set_at.Goals as goal

pub returns : goal.returns
returns c = rw (← c.row_at-first.ensures) c.run_ssn.ensures
