-- `hand_place::finished` meets its contract: each test is a case of the definition.
use borrow.Author.Tests.{eq-eqb, ne_eqb}
use Rattle.hand_place.proofs.finished.Goals as goal

pub returns-then-position-size : goal.returns-then-position-size
returns-then-position-size c = rw (ne_eqb _ _ c.if-position-size.true)

pub returns-then-size-ne0 : goal.returns-then-size-ne0
returns-then-size-ne0 c = rw (eq-eqb _ _ c.if-position-size.false, ne_eqb _ _ c.if-size-ne0.true)

pub returns : goal.returns
returns c = rw (eq-eqb _ _ c.if-position-size.false, eq-eqb _ _ c.if-size-ne0.false)
