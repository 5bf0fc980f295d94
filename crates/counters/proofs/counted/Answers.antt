-- `counters::counted` meets its contract: of the kind's number there is one more, and the others are as they were.
use Rattle.counters.proofs.counted.Goals as goal

pub returns-in-Stored : goal.returns-in-Stored
returns-in-Stored c = rw (c.one_more.ensures, c.in-Stored.is)

pub returns-in-TurnedAway : goal.returns-in-TurnedAway
returns-in-TurnedAway c = rw (c.one_more-in-TurnedAway.ensures, c.in-TurnedAway.is)

pub returns-in-Refused : goal.returns-in-Refused
returns-in-Refused c = rw (c.one_more-in-Refused.ensures, c.in-Refused.is)

pub returns-in-Cut : goal.returns-in-Cut
returns-in-Cut c = rw (c.one_more-in-Cut.ensures, c.in-Cut.is)
