-- `counters::one_more` meets its contract: below the highest value it is the sum, and there it stays.
use native.Mathlib.Omega.{arith}
use Rattle.counters.specs.Counted.{one_more}
use Rattle.counters.proofs.one_more.Goals as goal

pub returns-then-n-lt4294967295 : goal.returns-then-n-lt4294967295
unfolding one_more
returns-then-n-lt4294967295 c = omega arith

pub returns-else-n-lt4294967295 : goal.returns-else-n-lt4294967295
unfolding one_more
returns-else-n-lt4294967295 c = omega arith
