-- `streams_counts::behind` meets its contract: the streams from the next one up to 8 are those behind it.
use mathlib.Core.Path.{◌≡◌, refl, ap, ◌∙◌}
use mathlib.Core.List.{List}
use Prim.Native.Nat.{ℕ, suc, ◌+◌, ◌-◌}
use native.Mathlib.Omega.{arith}
use borrow.Author.Rules.{rules}
use lib.ListN.{length, take, drop, length-drop}
use lib.Seq.{take_all}
use Rattle.reassembly_state.specs.State.{count}
use Rattle.reassembly_state.specs.declared.Counts.{Counts}
use Rattle.streams_model.specs.Shape.{queues_of}
use Rattle.streams_model.specs.State.{summed, bytes_of}
use Rattle.streams_counts.proofs.behind.Goals as goal

rest : (qs : List Counts) (k : ℕ) → length qs ≡ 8 → take (8 - (k + 1)) (drop (k + 1) qs) ≡ drop (suc k) qs
rest qs k e = let n : k + 1 ≡ suc k = omega arith in rw n (take_all (8 - suc k) (drop (suc k) qs) (rw length-drop (omega arith)))

pub held-requires : goal.held-requires
held-requires c =
    record {
      from_le_to = omega arith;
      to_le_streams_most = omega arith;
      streams_bound = search rules;
      streams_bound_2 = search rules;
    }

pub returns : goal.returns
returns c =
    let a = c.args in
    let e = rest (queues_of a.streams) a.stream refl in
    (c.held.ensures.rows_value ∙ ap (summed count) e, c.held.ensures.bytes_value ∙ ap (summed bytes_of) e)
