-- `streams_counts::before` meets its contract: the streams from 0 up to this one are the first ones.
use mathlib.Core.Path.{◌≡◌}
use Prim.Native.Nat.{◌-◌}
use native.Mathlib.Omega.{arith}
use borrow.Author.Rules.{rules}
use Rattle.streams_counts.proofs.before.Goals as goal

pub held-requires : goal.held-requires
held-requires c =
    record {
      from_le_to = omega arith;
      to_le_streams_most = omega arith;
      streams_bound = search rules;
      streams_bound_2 = search rules;
    }

pub returns : goal.returns
returns c = let e : c.args.stream - 0 ≡ c.args.stream = omega arith in (rw e at c.held.ensures.rows_value, rw e at c.held.ensures.bytes_value)
