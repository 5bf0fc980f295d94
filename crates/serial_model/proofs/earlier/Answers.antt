-- `serial_model::earlier` meets its contract: one of the four answers says it.
use Rattle.serial_model.proofs.earlier.Goals as goal

pub returns-in-Earlier : goal.returns-in-Earlier
returns-in-Earlier c = rw c.in-Earlier.is

pub returns-in-Same : goal.returns-in-Same
returns-in-Same c = rw c.in-Same.is

pub returns-in-Later : goal.returns-in-Later
returns-in-Later c = rw c.in-Later.is

pub returns-in-Opposite : goal.returns-in-Opposite
returns-in-Opposite c = rw c.in-Opposite.is
