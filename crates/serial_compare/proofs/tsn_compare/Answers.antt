-- `serial_compare::tsn_compare` meets its contract: each return stands behind the tests of the steps that its answer comes to.
use borrow.Author.Tests.{lt-ltb, le-ltb, eq-eqb, ne_eqb}
use Rattle.serial_model.specs.Compared.{compared_is}
use Rattle.serial_compare.proofs.tsn_compare.Goals as goal

pub returns-then-steps-gt0 : goal.returns-then-steps-gt0
returns-then-steps-gt0 c = rw (compared_is 31, ← c.tsn_offset-steps.ensures, lt-ltb _ _ c.if-steps-lt2147483648.true, lt-ltb 0 _ c.if-steps-gt0.true)

pub returns-then-steps-lt2147483648 : goal.returns-then-steps-lt2147483648
returns-then-steps-lt2147483648 c = rw (compared_is 31, ← c.tsn_offset-steps.ensures, lt-ltb _ _ c.if-steps-lt2147483648.true, le-ltb 0 _ c.if-steps-gt0.false)

pub returns-then-steps : goal.returns-then-steps
returns-then-steps c = rw (compared_is 31, ← c.tsn_offset-steps.ensures, le-ltb _ _ c.if-steps-lt2147483648.false, eq-eqb _ _ c.if-steps.true)

pub returns : goal.returns
returns c = rw (compared_is 31, ← c.tsn_offset-steps.ensures, le-ltb _ _ c.if-steps-lt2147483648.false, ne_eqb _ _ c.if-steps.false)
