-- `serial_tsns::sna32lte` meets its contract: it is the test for equality, or else that for "before".
use borrow.Author.Tests.{eq-eqb, ne_eqb}
use Rattle.serial_tsns.proofs.sna32lte.Goals as goal

pub returns-then-i1-i2 : goal.returns-then-i1-i2
returns-then-i1-i2 c = rw (eq-eqb _ _ c.if-i1-i2.true)

pub returns-else-i1-i2 : goal.returns-else-i1-i2
returns-else-i1-i2 c = rw (ne_eqb _ _ c.if-i1-i2.false) c.sna32lt.ensures
