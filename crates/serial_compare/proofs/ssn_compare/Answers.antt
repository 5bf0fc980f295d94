-- `serial_compare::ssn_compare` meets its contract: each return stands behind the tests of the steps that its answer comes to.
use borrow.Author.Tests.{lt-ltb, le-ltb, eq-eqb, ne_eqb}
use Rattle.serial_model.specs.Compared.{compared_is}
use Rattle.serial_compare.proofs.ssn_compare.Goals as goal

pub returns-then-steps-gt0 : goal.returns-then-steps-gt0
returns-then-steps-gt0 c = rw (compared_is 15, ← c.ssn_offset-steps.ensures, lt-ltb _ _ c.if-steps-lt32768.true, lt-ltb 0 _ c.if-steps-gt0.true)

pub returns-then-steps-lt32768 : goal.returns-then-steps-lt32768
returns-then-steps-lt32768 c = rw (compared_is 15, ← c.ssn_offset-steps.ensures, lt-ltb _ _ c.if-steps-lt32768.true, le-ltb 0 _ c.if-steps-gt0.false)

pub returns-then-steps : goal.returns-then-steps
returns-then-steps c = rw (compared_is 15, ← c.ssn_offset-steps.ensures, le-ltb _ _ c.if-steps-lt32768.false, eq-eqb _ _ c.if-steps.true)

pub returns : goal.returns
returns c = rw (compared_is 15, ← c.ssn_offset-steps.ensures, le-ltb _ _ c.if-steps-lt32768.false, ne_eqb _ _ c.if-steps.false)
