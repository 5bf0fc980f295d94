-- `streams_counts::unsound` meets its contract: after i turns the first i streams are within the table and their byte counts are their sums.
use Rattle.streams_model.specs.State.{state_of}
use Rattle.streams_counts.proofs.Counting.{Asked}
use Rattle.streams_counts.proofs.unsound.Given as goal

abbrev pub invariant-loop-i : goal.invariant-loop-i
invariant-loop-i l = Asked (state_of l.streams l.table l.pool) l.first l.bytes l.i
