-- `streams_turn::in_turn` meets its contract: the oldest finished message stands right behind those before the stream, the first set behind the loose ones.
use mathlib.Core.Path.{◌≡◌, sym, ap, ◌∙◌}
use mathlib.Core.List.{List}
use Prim.Native.Nat.{ℕ, ◌+◌, ◌*◌, ◌<◌, ◌≤◌}
use native.Mathlib.Omega.{arith}
use borrow.Author.Rules.{rules}
use lib.ListN.{length}
use Rattle.table.proofs.Columns.{rows_long}
use Rattle.reassembly_state.specs.Limits.{frags_most}
use Rattle.reassembly_state.specs.State.{count}
use Rattle.reassembly_state.specs.declared.Counts.{Counts}
use Rattle.streams_model.specs.Limits.{streams_most}
use Rattle.streams_model.specs.Shape.{queues_of}
use Rattle.streams_model.specs.State.{State, state_of, rows_held}
use Rattle.streams_model.specs.Among.{Others, among_none}
use Rattle.streams_model.proofs.Laws.{sound, summed-split}
use Rattle.streams_turn.proofs.Takes.{finished_found, ordered-turned}
use Rattle.streams_turn.proofs.in_turn.Goals as goal

pub oldest_finished-k-requires : goal.oldest_finished-k-requires
oldest_finished-k-requires c =
    let sized : length c.args.table.now ≡ 4 * frags_most = search rules in
    let here : c.args.stream < streams_most = search rules in
    let others : let p = c.args.place in Others (queues_of c.args.streams) c.args.stream p.before.rows p.before.bytes p.behind.rows p.behind.bytes = search rules in
    let few : rows_held (queues_of c.args.streams) ≤ frags_most = search rules in
    let fits : c.args.place.before.rows + count c.at-own.result ≤ frags_most = let all = summed-split count c.args.stream (queues_of c.args.streams) here in omega (arith, all, ap count c.at-own.ensures, others.rows_before_is, few) in
    record {
      table_len = sized;
      n_bound = omega (arith, fits);
    }

pub overflow_add-result : goal.overflow_add-result
overflow_add-result c =
    let here : c.args.stream < streams_most = search rules in
    let others : let p = c.args.place in Others (queues_of c.args.streams) c.args.stream p.before.rows p.before.bytes p.behind.rows p.behind.bytes = search rules in
    let few : rows_held (queues_of c.args.streams) ≤ frags_most = search rules in
    let fits : c.args.place.before.rows + count c.at-own.result ≤ frags_most = let all = summed-split count c.args.stream (queues_of c.args.streams) here in omega (arith, all, ap count c.at-own.ensures, others.rows_before_is, few) in
    omega (arith, fits, c.oldest_finished-k.ensures)

pub returns-then-own-gt0 : goal.returns-then-own-gt0
returns-then-own-gt0 c pool e =
    let of : List ℕ → State = λ pool. state_of c.args.streams c.args.table.now pool in
    let sized : length c.args.table.now ≡ 4 * frags_most = search rules in
    let full : (pool : List ℕ) → length (of pool).rows ≡ frags_most = λ pool. rows_long frags_most c.args.table.now sized in
    let here : c.args.stream < streams_most = search rules in
    let others : let p = c.args.place in Others (queues_of c.args.streams) c.args.stream p.before.rows p.before.bytes p.behind.rows p.behind.bytes = search rules in
    finished_found (of pool) (sound (of pool) e) (full pool) c.args.stream here c.at-own.ensures c.if-own-gt0.true others.rows_before_is c.oldest_finished-k.ensures

pub overflow_add-first : goal.overflow_add-first
overflow_add-first c =
    let here : c.args.stream < streams_most = search rules in
    let others : let p = c.args.place in Others (queues_of c.args.streams) c.args.stream p.before.rows p.before.bytes p.behind.rows p.behind.bytes = search rules in
    let few : rows_held (queues_of c.args.streams) ≤ frags_most = search rules in
    let fits : c.args.place.before.rows + count c.at-own.result ≤ frags_most = let all = summed-split count c.args.stream (queues_of c.args.streams) here in omega (arith, all, ap count c.at-own.ensures, others.rows_before_is, few) in
    omega (arith, fits)

pub ready-run-requires : goal.ready-run-requires
ready-run-requires c =
    let sized : length c.args.table.now ≡ 4 * frags_most = search rules in
    let here : c.args.stream < streams_most = search rules in
    let front : c.args.place.queue ≡ among_none (queues_of c.args.streams) c.args.stream = search rules in
    let few : rows_held (queues_of c.args.streams) ≤ frags_most = search rules in
    let front_few : count c.args.place.queue ≤ frags_most = let all = summed-split count c.args.stream (queues_of c.args.streams) here in omega (arith, all, ap count front, few) in
    record {
      table_len = sized;
      queue_bound = front_few;
    }

pub overflow_add-result-2 : goal.overflow_add-result-2
overflow_add-result-2 c =
    let here : c.args.stream < streams_most = search rules in
    let others : let p = c.args.place in Others (queues_of c.args.streams) c.args.stream p.before.rows p.before.bytes p.behind.rows p.behind.bytes = search rules in
    let few : rows_held (queues_of c.args.streams) ≤ frags_most = search rules in
    let fits : c.args.place.before.rows + count c.at-own.result ≤ frags_most = let all = summed-split count c.args.stream (queues_of c.args.streams) here in omega (arith, all, ap count c.at-own.ensures, others.rows_before_is, few) in
    let front : c.args.place.queue ≡ among_none (queues_of c.args.streams) c.args.stream = search rules in
    let front_few : count c.args.place.queue ≤ frags_most = let all = summed-split count c.args.stream (queues_of c.args.streams) here in omega (arith, all, ap count front, few) in
    omega (arith, fits, front_few, c.ready-run.ensures.0)

pub returns : goal.returns
returns c pool e =
    let of : List ℕ → State = λ pool. state_of c.args.streams c.args.table.now pool in
    let sized : length c.args.table.now ≡ 4 * frags_most = search rules in
    let full : (pool : List ℕ) → length (of pool).rows ≡ frags_most = λ pool. rows_long frags_most c.args.table.now sized in
    let here : c.args.stream < streams_most = search rules in
    let front : c.args.place.queue ≡ among_none (queues_of c.args.streams) c.args.stream = search rules in
    let others : let p = c.args.place in Others (queues_of c.args.streams) c.args.stream p.before.rows p.before.bytes p.behind.rows p.behind.bytes = search rules in
    let none : c.at-own.result.finished ≡ 0 = omega (arith, c.if-own-gt0.false) in
    let loose = ap (λ (q : Counts). q.unordered) c.at-own.ensures in
    ordered-turned (of pool) (sound (of pool) e) (full pool) c.args.stream here front (sym (ap (λ (q : Counts). q.finished) c.at-own.ensures) ∙ none) c.ready-run.ensures.0 (c.ready-run.ensures.1 pool)
    (omega (arith, others.rows_before_is, loose))
