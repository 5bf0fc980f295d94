-- `reassembly_ask::ask` meets its contract: the passes find the set, and the four questions are asked in their order.
use mathlib.Core.Path.{◌≡◌, sym, ◌∙◌}
use mathlib.Core.List.{List, []}
use Prim.Native.Nat.{ℕ, ◌+◌, ◌*◌, ◌<◌, ◌≤◌}
use borrow.Author.Rules.{rules}
use native.Mathlib.Omega.{arith}
use lib.ListN.{length}
use Rattle.table.proofs.Columns.{rows_long}
use Rattle.reassembly_state.specs.Limits.{frags_most}
use Rattle.reassembly_state.specs.State.{State, state_of, count}
use Rattle.reassembly_state.specs.Rows.{first_ordered, set_at, set_run}
use Rattle.reassembly_state.proofs.Laws.{sound}
use Rattle.reassembly_ask.proofs.Sets.{ahead_fits, run_fits, set_found, asks_large, asks_old, asks_again, asks_crowded, asks_kept}
use Rattle.reassembly_ask.proofs.ask.Goals as goal

pub overflow_add-from : goal.overflow_add-from
overflow_add-from c =
    let few : count c.args.queue ≤ frags_most = c.requires.queue_bound in
    omega (arith, few)

pub find_ssn-ahead-requires : goal.find_ssn-ahead-requires
find_ssn-ahead-requires c =
    let few : count c.args.queue ≤ frags_most = c.requires.queue_bound in
    record {
      table_len = omega arith;
      n_bound = omega (arith, few);
    }

pub overflow_add-at : goal.overflow_add-at
overflow_add-at c =
    let few : count c.args.queue ≤ frags_most = c.requires.queue_bound in
    let of : List ℕ → State = λ pool. state_of c.args.queue c.args.table.now pool in
    let sized : length c.args.table.now ≡ 4 * frags_most = c.requires.table_len in
    let full : (pool : List ℕ) → length (of pool).rows ≡ frags_most = λ pool. rows_long frags_most c.args.table.now sized in
    let ahead-few : c.find_ssn-ahead.result ≤ c.args.queue.ordered = omega (arith, ahead_fits (of []) few (full []) c.args.chunk.stream_sequence_number, c.find_ssn-ahead.ensures) in
    omega (arith, few, ahead-few)

pub overflow_sub-queue : goal.overflow_sub-queue
overflow_sub-queue c =
    let of : List ℕ → State = λ pool. state_of c.args.queue c.args.table.now pool in
    let few : count c.args.queue ≤ frags_most = c.requires.queue_bound in
    let sized : length c.args.table.now ≡ 4 * frags_most = c.requires.table_len in
    let full : (pool : List ℕ) → length (of pool).rows ≡ frags_most = λ pool. rows_long frags_most c.args.table.now sized in
    let ahead-few : c.find_ssn-ahead.result ≤ c.args.queue.ordered = omega (arith, ahead_fits (of []) few (full []) c.args.chunk.stream_sequence_number, c.find_ssn-ahead.ensures) in
    ahead-few

pub pass_ssn-run-requires : goal.pass_ssn-run-requires
pass_ssn-run-requires c =
    let few : count c.args.queue ≤ frags_most = c.requires.queue_bound in
    let of : List ℕ → State = λ pool. state_of c.args.queue c.args.table.now pool in
    let sized : length c.args.table.now ≡ 4 * frags_most = c.requires.table_len in
    let full : (pool : List ℕ) → length (of pool).rows ≡ frags_most = λ pool. rows_long frags_most c.args.table.now sized in
    let ahead-few : c.find_ssn-ahead.result ≤ c.args.queue.ordered = omega (arith, ahead_fits (of []) few (full []) c.args.chunk.stream_sequence_number, c.find_ssn-ahead.ensures) in
    record {
      table_len = omega arith;
      n_bound = omega (arith, few, ahead-few);
    }

pub too_large-requires : goal.too_large-requires
too_large-requires c =
    let sized : length c.args.table.now ≡ 4 * frags_most = c.requires.table_len in
    let few : count c.args.queue ≤ frags_most = c.requires.queue_bound in
    let of : List ℕ → State = λ pool. state_of c.args.queue c.args.table.now pool in
    let at = first_ordered (of []) + c.find_ssn-ahead.result in
    let full : (pool : List ℕ) → length (of pool).rows ≡ frags_most = λ pool. rows_long frags_most c.args.table.now sized in
    let set : (pool : List ℕ) → (at ≡ set_at (of pool) c.args.chunk.stream_sequence_number) × (c.pass_ssn-run.result ≡ set_run (of pool) c.args.chunk.stream_sequence_number) = λ pool. set_found (of pool) few (full pool) c.args.chunk.stream_sequence_number c.find_ssn-ahead.ensures c.pass_ssn-run.ensures in
    let stands : at + c.pass_ssn-run.result ≤ count c.args.queue = omega (arith, run_fits (of []) few (full []) c.args.chunk.stream_sequence_number, set []) in
    record {
      table_len = sized;
      queue_bound = few;
      run_bound = stands;
      table_value = c.requires.table_value;
    }

-- ── the questions ──
pub returns-then-too_large : goal.returns-then-too_large
returns-then-too_large c =
    let of : List ℕ → State = λ pool. state_of c.args.queue c.args.table.now pool in
    let sized : length c.args.table.now ≡ 4 * frags_most = c.requires.table_len in
    let full : (pool : List ℕ) → length (of pool).rows ≡ frags_most = λ pool. rows_long frags_most c.args.table.now sized in
    let small : c.args.chunk.stream_sequence_number < 65536 = search rules in
    let at = first_ordered (of []) + c.find_ssn-ahead.result in
    let few : count c.args.queue ≤ frags_most = c.requires.queue_bound in
    let set : (pool : List ℕ) → (at ≡ set_at (of pool) c.args.chunk.stream_sequence_number) × (c.pass_ssn-run.result ≡ set_run (of pool) c.args.chunk.stream_sequence_number) = λ pool. set_found (of pool) few (full pool) c.args.chunk.stream_sequence_number c.find_ssn-ahead.ensures c.pass_ssn-run.ensures in
    record {
      at_value = λ pool. (set pool).0;
      run_value = λ pool. (set pool).1;
      asks = λ pool u. asks_large (of pool) (sound (of pool) u) (full pool) c.args.chunk small c.args.more c.args.room (set pool).0 (set pool).1 (sym c.too_large.ensures ∙ c.if-too_large.true);
    }

pub returns-then-sna16lt : goal.returns-then-sna16lt
returns-then-sna16lt c =
    let of : List ℕ → State = λ pool. state_of c.args.queue c.args.table.now pool in
    let sized : length c.args.table.now ≡ 4 * frags_most = c.requires.table_len in
    let full : (pool : List ℕ) → length (of pool).rows ≡ frags_most = λ pool. rows_long frags_most c.args.table.now sized in
    let small : c.args.chunk.stream_sequence_number < 65536 = search rules in
    let at = first_ordered (of []) + c.find_ssn-ahead.result in
    let few : count c.args.queue ≤ frags_most = c.requires.queue_bound in
    let set : (pool : List ℕ) → (at ≡ set_at (of pool) c.args.chunk.stream_sequence_number) × (c.pass_ssn-run.result ≡ set_run (of pool) c.args.chunk.stream_sequence_number) = λ pool. set_found (of pool) few (full pool) c.args.chunk.stream_sequence_number c.find_ssn-ahead.ensures c.pass_ssn-run.ensures in
    record {
      at_value = λ pool. (set pool).0;
      run_value = λ pool. (set pool).1;
      asks = λ pool u. asks_old (of pool) (sound (of pool) u) (full pool) c.args.chunk small c.args.more c.args.room (set pool).0 (set pool).1 (sym c.too_large.ensures ∙ c.if-too_large.false)
          (sym c.sna16lt.ensures ∙ c.if-sna16lt.true);
    }

pub has_tsn-requires : goal.has_tsn-requires
has_tsn-requires c =
    let few : count c.args.queue ≤ frags_most = c.requires.queue_bound in
    let of : List ℕ → State = λ pool. state_of c.args.queue c.args.table.now pool in
    let at = first_ordered (of []) + c.find_ssn-ahead.result in
    let sized : length c.args.table.now ≡ 4 * frags_most = c.requires.table_len in
    let full : (pool : List ℕ) → length (of pool).rows ≡ frags_most = λ pool. rows_long frags_most c.args.table.now sized in
    let set : (pool : List ℕ) → (at ≡ set_at (of pool) c.args.chunk.stream_sequence_number) × (c.pass_ssn-run.result ≡ set_run (of pool) c.args.chunk.stream_sequence_number) = λ pool. set_found (of pool) few (full pool) c.args.chunk.stream_sequence_number c.find_ssn-ahead.ensures c.pass_ssn-run.ensures in
    let stands : at + c.pass_ssn-run.result ≤ count c.args.queue = omega (arith, run_fits (of []) few (full []) c.args.chunk.stream_sequence_number, set []) in
    record {
      table_len = omega arith;
      n_bound = omega (arith, few, stands);
    }

pub returns-then-has_tsn : goal.returns-then-has_tsn
returns-then-has_tsn c =
    let of : List ℕ → State = λ pool. state_of c.args.queue c.args.table.now pool in
    let sized : length c.args.table.now ≡ 4 * frags_most = c.requires.table_len in
    let full : (pool : List ℕ) → length (of pool).rows ≡ frags_most = λ pool. rows_long frags_most c.args.table.now sized in
    let small : c.args.chunk.stream_sequence_number < 65536 = search rules in
    let at = first_ordered (of []) + c.find_ssn-ahead.result in
    let few : count c.args.queue ≤ frags_most = c.requires.queue_bound in
    let set : (pool : List ℕ) → (at ≡ set_at (of pool) c.args.chunk.stream_sequence_number) × (c.pass_ssn-run.result ≡ set_run (of pool) c.args.chunk.stream_sequence_number) = λ pool. set_found (of pool) few (full pool) c.args.chunk.stream_sequence_number c.find_ssn-ahead.ensures c.pass_ssn-run.ensures in
    record {
      at_value = λ pool. (set pool).0;
      run_value = λ pool. (set pool).1;
      asks = λ pool u. asks_again (of pool) (sound (of pool) u) (full pool) c.args.chunk small c.args.more c.args.room (set pool).0 (set pool).1 (sym c.too_large.ensures ∙ c.if-too_large.false)
          (sym c.sna16lt.ensures ∙ c.if-sna16lt.false) (sym c.has_tsn.ensures ∙ c.if-has_tsn.true);
    }

pub returns-then-not-room : goal.returns-then-not-room
returns-then-not-room c =
    let of : List ℕ → State = λ pool. state_of c.args.queue c.args.table.now pool in
    let sized : length c.args.table.now ≡ 4 * frags_most = c.requires.table_len in
    let full : (pool : List ℕ) → length (of pool).rows ≡ frags_most = λ pool. rows_long frags_most c.args.table.now sized in
    let small : c.args.chunk.stream_sequence_number < 65536 = search rules in
    let at = first_ordered (of []) + c.find_ssn-ahead.result in
    let few : count c.args.queue ≤ frags_most = c.requires.queue_bound in
    let set : (pool : List ℕ) → (at ≡ set_at (of pool) c.args.chunk.stream_sequence_number) × (c.pass_ssn-run.result ≡ set_run (of pool) c.args.chunk.stream_sequence_number) = λ pool. set_found (of pool) few (full pool) c.args.chunk.stream_sequence_number c.find_ssn-ahead.ensures c.pass_ssn-run.ensures in
    record {
      at_value = λ pool. (set pool).0;
      run_value = λ pool. (set pool).1;
      asks = λ pool u. asks_crowded (of pool) (sound (of pool) u) (full pool) c.args.chunk small c.args.more c.args.room (set pool).0 (set pool).1 (sym c.too_large.ensures ∙ c.if-too_large.false)
          (sym c.sna16lt.ensures ∙ c.if-sna16lt.false) (sym c.has_tsn.ensures ∙ c.if-has_tsn.false) c.if-not-room.true;
    }

pub returns : goal.returns
returns c =
    let of : List ℕ → State = λ pool. state_of c.args.queue c.args.table.now pool in
    let sized : length c.args.table.now ≡ 4 * frags_most = c.requires.table_len in
    let full : (pool : List ℕ) → length (of pool).rows ≡ frags_most = λ pool. rows_long frags_most c.args.table.now sized in
    let small : c.args.chunk.stream_sequence_number < 65536 = search rules in
    let at = first_ordered (of []) + c.find_ssn-ahead.result in
    let few : count c.args.queue ≤ frags_most = c.requires.queue_bound in
    let set : (pool : List ℕ) → (at ≡ set_at (of pool) c.args.chunk.stream_sequence_number) × (c.pass_ssn-run.result ≡ set_run (of pool) c.args.chunk.stream_sequence_number) = λ pool. set_found (of pool) few (full pool) c.args.chunk.stream_sequence_number c.find_ssn-ahead.ensures c.pass_ssn-run.ensures in
    record {
      at_value = λ pool. (set pool).0;
      run_value = λ pool. (set pool).1;
      asks = λ pool u. asks_kept (of pool) (sound (of pool) u) (full pool) c.args.chunk small c.args.more c.args.room (set pool).0 (set pool).1 (sym c.too_large.ensures ∙ c.if-too_large.false)
          (sym c.sna16lt.ensures ∙ c.if-sna16lt.false) (sym c.has_tsn.ensures ∙ c.if-has_tsn.false) c.if-not-room.false;
    }
