-- `sctp_receive_order::number` meets its contract: each answer has its own number.
use Rattle.sctp_receive_order.proofs.number.Goals as goal

pub returns-in-Earlier : goal.returns-in-Earlier
returns-in-Earlier c = rw c.in-Earlier.is

pub returns-in-Same : goal.returns-in-Same
returns-in-Same c = rw c.in-Same.is

pub returns-in-Later : goal.returns-in-Later
returns-in-Later c = rw c.in-Later.is

pub returns-in-Opposite : goal.returns-in-Opposite
returns-in-Opposite c = rw c.in-Opposite.is
