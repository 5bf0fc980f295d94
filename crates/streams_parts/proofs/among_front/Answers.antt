-- `streams_parts::among_front` meets its contract: what stands before and its own are no more than all that is held.
use mathlib.Core.Path.{ap}
use Prim.Native.Nat.{◌<◌}
use native.Mathlib.Omega.{arith}
use borrow.Author.Rules.{rules}
use lib.ListN.{length}
use Rattle.reassembly_state.specs.State.{count}
use Rattle.streams_model.specs.Shape.{queues_of}
use Rattle.streams_model.specs.State.{bytes_of}
use Rattle.streams_model.specs.Among.{Others}
use Rattle.streams_model.proofs.Laws.{summed-split}
use Rattle.streams_model.proofs.Left.{none_of}
use Rattle.streams_parts.proofs.among_front.Goals as goal

pub counts_among-queue-requires : goal.counts_among-queue-requires
counts_among-queue-requires c =
    let here : c.args.stream < length (queues_of c.args.streams) = search rules in
    let rows = summed-split count c.args.stream (queues_of c.args.streams) here in
    let bytes = summed-split bytes_of c.args.stream (queues_of c.args.streams) here in
    let own = c.at.ensures in
    record {
      rows_bound = omega (arith, rows, c.before-before.ensures.0, ap count own, c.requires);
      bytes_bound = omega (arith, bytes, c.before-before.ensures.1, ap bytes_of own, c.requires);
    }

pub returns : goal.returns
returns c =
    let others : Others (queues_of c.args.streams) c.args.stream c.before-before.result.rows c.before-before.result.bytes c.behind-behind.result.rows c.behind-behind.result.bytes =
    record { rows_before_is = c.before-before.ensures.0; bytes-before = c.before-before.ensures.1; rows_behind_is = c.behind-behind.ensures.0; bytes-behind = c.behind-behind.ensures.1 } in
    record {
      others = others;
      queue_value = none_of others (rw c.at.ensures at c.counts_among-queue.ensures);
    }
