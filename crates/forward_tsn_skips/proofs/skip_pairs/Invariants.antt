-- `forward_tsn_skips::skip_pairs` meets its contract: after i turns what is left to skip are the pairs from i on.
use mathlib.Core.Path.{◌≡◌}
use lib.ListN.{length, drop}
use Rattle.reassembly_queue.specs.Queue.{state_of}
use Rattle.forward_tsn_skips.specs.Skips.{Pairs, pairs_skipped}
use Rattle.forward_tsn_skips.proofs.skip_pairs.Given as goal

abbrev pub invariant-loop-i : goal.invariant-loop-i
invariant-loop-i l = (length l.pool ≡ length l.initial.pool)
    × ((f : Pairs l.part) → pairs_skipped (state_of l.queue l.table l.pool) (drop l.i f.streams) (drop l.i f.ssns) ≡ pairs_skipped (state_of l.initial.queue l.initial.table l.initial.pool) f.streams f.ssns)
