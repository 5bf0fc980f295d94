-- `loose_fragments::starts` meets its contract: each return is the case of `starts_by` that its tests pick.
use native.Mathlib.Numerals.{add-one}
use borrow.Author.Tests.{lt-ltb, le-ltb, eq-eqb, ne_eqb}
use Rattle.loose_fragments.specs.Loose.{starts_by}
use Rattle.loose_fragments.proofs.starts.Goals as goal

pub returns-then-flags-eq1 : goal.returns-then-flags-eq1
unfolding starts_by
returns-then-flags-eq1 c = rw (eq-eqb _ _ c.if-flags-eq1.true)

pub returns-then-i-start : goal.returns-then-i-start
unfolding starts_by
returns-then-i-start c = rw (ne_eqb _ _ c.if-flags-eq1.false, le-ltb _ _ c.if-i-start.true) (add-one _)

pub returns-then-tsn-want : goal.returns-then-tsn-want
unfolding starts_by
returns-then-tsn-want c = rw (ne_eqb _ _ c.if-flags-eq1.false, lt-ltb _ _ c.if-i-start.false, eq-eqb _ _ c.if-tsn-want.true)

pub returns : goal.returns
unfolding starts_by
returns c = rw (ne_eqb _ _ c.if-flags-eq1.false, lt-ltb _ _ c.if-i-start.false, ne_eqb _ _ c.if-tsn-want.false) (add-one _)
