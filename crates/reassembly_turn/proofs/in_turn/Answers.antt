-- `reassembly_turn::in_turn` meets its contract: the oldest finished message comes first, and else the first ordered set.
use mathlib.Core.Path.{◌≡◌}
use mathlib.Core.List.{List}
use Prim.Native.Nat.{ℕ}
use native.Mathlib.Omega.{arith}
use lib.ListN.{length}
use Rattle.table.proofs.Columns.{rows_long}
use Rattle.reassembly_state.specs.Limits.{frags_most}
use Rattle.reassembly_state.specs.State.{State, state_of}
use Rattle.reassembly_turn.proofs.Turn.{finished-turn, ordered-turn}
use Rattle.reassembly_turn.proofs.in_turn.Goals as goal

pub returns-then-queue-gt0 : goal.returns-then-queue-gt0
returns-then-queue-gt0 c =
    let of : List ℕ → State = λ pool. state_of c.args.queue c.args.table.now pool in
    let full : (pool : List ℕ) → length (of pool).rows ≡ frags_most = λ pool. rows_long frags_most c.args.table.now c.requires.table_len in
    λ pool. finished-turn (of pool) c.requires.queue_bound (full pool) c.oldest_finished-to.result c.if-queue-gt0.true c.oldest_finished-to.ensures

pub returns : goal.returns
returns c =
    let of : List ℕ → State = λ pool. state_of c.args.queue c.args.table.now pool in
    let full : (pool : List ℕ) → length (of pool).rows ≡ frags_most = λ pool. rows_long frags_most c.args.table.now c.requires.table_len in
    λ pool. ordered-turn (of pool) c.requires.queue_bound (full pool) c.ready-run.result (omega (arith, c.if-queue-gt0.false)) c.ready-run.ensures.0 (c.ready-run.ensures.1 pool)
