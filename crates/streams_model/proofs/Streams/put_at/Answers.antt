-- `streams_model::Streams::put_at` meets its contract: each arm changes the counts of its number, and the last one those of 7.
use mathlib.Core.List.{List}
use mathlib.Core.Path.{◌≡◌, sym, ap}
use Prim.Native.Nat.{ℕ}
use native.Mathlib.Omega.{arith}
use lib.ListN.{set}
use Rattle.reassembly_state.specs.declared.Counts.{Counts}
use Rattle.streams_model.specs.Shape.{queues_of}
use Rattle.streams_model.proofs.Streams.put_at.Goals as goal

-- an arm's number is the stream
by : (qs : List Counts) (x : Counts) {n k : ℕ} → k ≡ n → set qs n x ≡ set qs k x
by qs x e = ap (λ (j : ℕ). set qs j x) (sym e)

pub returns-in-0 : goal.returns-in-0
returns-in-0 c = by (queues_of c.args.self.now) c.args.counts c.in-0.is

pub returns-in-1 : goal.returns-in-1
returns-in-1 c = by (queues_of c.args.self.now) c.args.counts c.in-1.is

pub returns-in-2 : goal.returns-in-2
returns-in-2 c = by (queues_of c.args.self.now) c.args.counts c.in-2.is

pub returns-in-3 : goal.returns-in-3
returns-in-3 c = by (queues_of c.args.self.now) c.args.counts c.in-3.is

pub returns-in-4 : goal.returns-in-4
returns-in-4 c = by (queues_of c.args.self.now) c.args.counts c.in-4.is

pub returns-in-5 : goal.returns-in-5
returns-in-5 c = by (queues_of c.args.self.now) c.args.counts c.in-5.is

pub returns-in-6 : goal.returns-in-6
returns-in-6 c = by (queues_of c.args.self.now) c.args.counts c.in-6.is

pub returns-in_default : goal.returns-in_default
returns-in_default c =
    let e : c.args.stream ≡ 7 = omega arith in
    by (queues_of c.args.self.now) c.args.counts e
