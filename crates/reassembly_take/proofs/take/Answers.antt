-- `reassembly_take::take` meets its contract: the message in turn goes, its bytes come first in the buffer, and where there is none or no room nothing changes.
use mathlib.Core.Path.{◌≡◌, sym}
use Prim.Native.Nat.{◌-◌, ◌<◌, ◌≤◌}
use borrow.Author.Rules.{rules}
use native.Mathlib.Omega.{arith}
use lib.ListN.{length, take, drop}
use Rattle.table.proofs.Columns.{rows_long}
use Rattle.fragments.proofs.Pool.{B}
use Rattle.reassembly_state.specs.Limits.{frags_most}
use Rattle.reassembly_state.specs.State.{state_of, count}
use Rattle.reassembly_state.specs.Rows.{InTurn}
use Rattle.reassembly_state.specs.Answers.{message_held}
use Rattle.reassembly_state.proofs.Laws.{Sound, sound}
use Rattle.reassembly_turn.proofs.Messages.{run_end}
use Rattle.reassembly_turn.proofs.Turn.{turn_within, takes-nothing, takes_none, takes_whole}
use Rattle.reassembly_take.proofs.take.Goals as goal

pub in_turn-turn-requires : goal.in_turn-turn-requires
in_turn-turn-requires c =
    let of = state_of c.args.queue.now c.args.table.now c.args.pool.now in
    let ok : Sound of = sound of c.requires.pool_value in
    record {
      table_len = search rules;
      queue_bound = ok.few;
    }

pub overflow_sub-k : goal.overflow_sub-k
overflow_sub-k c =
    let of = state_of c.args.queue.now c.args.table.now c.args.pool.now in
    let in-turn : InTurn of c.in_turn-turn.result = c.in_turn-turn.ensures c.args.pool.now in
    in-turn.upward

pub returns-then-k-eq0 : goal.returns-then-k-eq0
returns-then-k-eq0 c =
    let of = state_of c.args.queue.now c.args.table.now c.args.pool.now in
    let ok : Sound of = sound of c.requires.pool_value in
    let full : length of.rows ≡ frags_most = rows_long frags_most c.args.table.now c.requires.table_len in
    let in-turn : InTurn of c.in_turn-turn.result = c.in_turn-turn.ensures c.args.pool.now in
    sym (takes-nothing of ok full c.in_turn-turn.result in-turn c.args.buffer.now c.if-k-eq0.true)

pub sum_long-size-requires : goal.sum_long-size-requires
sum_long-size-requires c =
    let of = state_of c.args.queue.now c.args.table.now c.args.pool.now in
    let in-turn : InTurn of c.in_turn-turn.result = c.in_turn-turn.ensures c.args.pool.now in
    let ok : Sound of = sound of c.requires.pool_value in
    let full : length of.rows ≡ frags_most = rows_long frags_most c.args.table.now c.requires.table_len in
    let within : c.in_turn-turn.result.to ≤ count c.args.queue.now = turn_within of ok full c.in_turn-turn.result in-turn in
    record {
      size_bound = omega arith;
      table_len = omega arith;
      n_bound = omega (arith, in-turn.upward, within, ok.few);
    }

pub returns-then-buffer-size : goal.returns-then-buffer-size
returns-then-buffer-size c =
    let of = state_of c.args.queue.now c.args.table.now c.args.pool.now in
    let ok : Sound of = sound of c.requires.pool_value in
    let full : length of.rows ≡ frags_most = rows_long frags_most c.args.table.now c.requires.table_len in
    let in-turn : InTurn of c.in_turn-turn.result = c.in_turn-turn.ensures c.args.pool.now in
    let some : 0 < c.in_turn-turn.result.to - c.in_turn-turn.result.from = omega (arith, c.if-k-eq0.false) in
    sym (takes_none of ok full c.in_turn-turn.result in-turn c.args.buffer.now some (rw c.sum_long-size.ensures at c.if-buffer-size.true))

pub sum_long-off-requires : goal.sum_long-off-requires
sum_long-off-requires c =
    let of = state_of c.args.queue.now c.args.table.now c.args.pool.now in
    let in-turn : InTurn of c.in_turn-turn.result = c.in_turn-turn.ensures c.args.pool.now in
    let ok : Sound of = sound of c.requires.pool_value in
    let full : length of.rows ≡ frags_most = rows_long frags_most c.args.table.now c.requires.table_len in
    let within : c.in_turn-turn.result.to ≤ count c.args.queue.now = turn_within of ok full c.in_turn-turn.result in-turn in
    record {
      size_bound = omega arith;
      table_len = omega arith;
      n_bound = omega (arith, in-turn.upward, within, ok.few);
    }

pub overflow_add-held : goal.overflow_add-held
overflow_add-held c =
    let of = state_of c.args.queue.now c.args.table.now c.args.pool.now in
    let ok : Sound of = sound of c.requires.pool_value in
    let few = ok.few in search rules

pub overflow_add-held-2 : goal.overflow_add-held-2
overflow_add-held-2 c =
    let of = state_of c.args.queue.now c.args.table.now c.args.pool.now in
    let ok : Sound of = sound of c.requires.pool_value in
    let few = ok.few in search rules

pub take_run-hand-requires : goal.take_run-hand-requires
take_run-hand-requires c =
    let of = state_of c.args.queue.now c.args.table.now c.args.pool.now in
    let ok : Sound of = sound of c.requires.pool_value in
    let in-turn : InTurn of c.in_turn-turn.result = c.in_turn-turn.ensures c.args.pool.now in
    let full : length of.rows ≡ frags_most = rows_long frags_most c.args.table.now c.requires.table_len in
    let within : c.in_turn-turn.result.to ≤ count c.args.queue.now = turn_within of ok full c.in_turn-turn.result in-turn in
    let k = ok in
    record {
      table_len = omega arith;
      held_le_frags_most = k.few;
      k_bound = omega (arith, in-turn.upward, within);
      k_nonzero = omega (arith, c.if-k-eq0.false);
      table_value = k.sums;
      bytes_in_bounds = omega (arith, k.within, k.sums);
      off_value = c.sum_long-off.ensures;
      size_value = c.sum_long-size.ensures;
      size_in_bounds = c.if-buffer-size.false;
    }

pub without-requires : goal.without-requires
without-requires c =
    let of = state_of c.args.queue.now c.args.table.now c.args.pool.now in
    let in-turn : InTurn of c.in_turn-turn.result = c.in_turn-turn.ensures c.args.pool.now in
    let ok : Sound of = sound of c.requires.pool_value in
    let full : length of.rows ≡ frags_most = rows_long frags_most c.args.table.now c.requires.table_len in
    let within : c.in_turn-turn.result.to ≤ count c.args.queue.now = turn_within of ok full c.in_turn-turn.result in-turn in
    let ends : (let t = c.in_turn-turn.result in B (take (t.to - t.from) (drop t.from of.rows)) ≤ c.args.queue.now.n_bytes) = let t = c.in_turn-turn.result in omega (arith, run_end of.rows of.pool (count c.args.queue.now) t.from (t.to - t.from) (omega (arith, in-turn.upward, within)), ok.sums) in
    record {
      bytes_bound = omega (arith, ends, c.sum_long-size.ensures);
      k_bound = omega (arith, in-turn.within);
    }

pub returns : goal.returns
unfolding message_held
returns c =
    let of = state_of c.args.queue.now c.args.table.now c.args.pool.now in
    let ok : Sound of = sound of c.requires.pool_value in
    let full : length of.rows ≡ frags_most = rows_long frags_most c.args.table.now c.requires.table_len in
    let in-turn : InTurn of c.in_turn-turn.result = c.in_turn-turn.ensures c.args.pool.now in
    let some : 0 < c.in_turn-turn.result.to - c.in_turn-turn.result.from = omega (arith, c.if-k-eq0.false) in
    let e = c.take_run-hand.ensures in
    takes_whole of ok full c.in_turn-turn.result in-turn c.args.buffer.now some c.sum_long-size.ensures c.if-buffer-size.false {m = message_held c.take_run-hand.result} e.result_value c.without.ensures e.table_after e.pool_after e.buffer_after
