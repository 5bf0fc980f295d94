-- `streams_parts::put_back` meets its contract: the counts are made its own, and stand in its place.
use Rattle.streams_parts.proofs.put_back.Goals as goal

pub returns : goal.returns
returns c = rw c.counts_alone-own.ensures at c.put_at.ensures
