-- `data_fields::flags_of` meets its contract: it is the sum of the flags' weights.
use Rattle.data_fields.specs.Fields.{data_flags}
use Rattle.data_fields.proofs.flags_of.Goals as goal

pub returns : goal.returns
unfolding data_flags
returns c = rw (← c.weight-ending.ensures.0, ← c.weight-beginning.ensures.0, ← c.weight-unordered.ensures.0, ← c.weight-immediate.ensures.0)
