-- `streams_model::Streams::at` meets its contract: each arm has the counts of its number, and the last one those of 7.
use mathlib.Core.Path.{◌≡◌, sym, ap}
use Prim.Native.Nat.{ℕ}
use borrow.Author.Rules.{rules}
use lib.ListN.{get_or}
use Rattle.streams_model.specs.Shape.{queues_of, no_counts}
use Rattle.streams_model.proofs.Seven.{seven}
use Rattle.streams_model.proofs.Streams.at.Goals as goal

pub returns-in_default : goal.returns-in_default
returns-in_default c =
    let r = c.in_default.in_default-own.rest in let e : c.args.stream ≡ 7 = seven _ (search rules) r.0.0.0.0.0.0.1 r.0.0.0.0.0.1 r.0.0.0.0.1 r.0.0.0.1 r.0.0.1 r.0.1 r.1 in
    ap (λ (k : ℕ). get_or (queues_of c.args.self) k no_counts) (sym e)
