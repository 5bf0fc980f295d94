-- `streams_counts::held` meets its contract: after i turns the sums are those of the streams up to i.
use Rattle.streams_model.specs.Shape.{queues_of}
use Rattle.streams_counts.proofs.Counting.{Added}
use Rattle.streams_counts.proofs.held.Given as goal

abbrev pub invariant-loop-i : goal.invariant-loop-i
invariant-loop-i l = Added (queues_of l.streams) l.from l.to l.rows l.bytes l.i
