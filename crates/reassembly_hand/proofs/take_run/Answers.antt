-- `reassembly_hand::take_run` meets its contract: the bytes of the run are those of its fragments, and its first row says what the message says.
use mathlib.Core.Path.{◌≡◌}
use Prim.Native.Nat.{ℕ, ◌+◌, ◌≤◌}
use borrow.Author.Rules.{rules}
use native.Mathlib.Omega.{arith}
use mir.Syntax.{w64}
use mir.Val.{Fits}
use lib.ListN.{length, take}
use Rattle.table.specs.Rows.{rows_of}
use Rattle.table.proofs.Columns.{rows_long}
use Rattle.fragments.proofs.Pool.{B}
use Rattle.reassembly_state.specs.Limits.{frags_most}
use Rattle.reassembly_turn.proofs.Messages.{run_end, run-message, run_out}
use Rattle.reassembly_hand.proofs.take_run.Goals as goal

pub overflow_add-off : goal.overflow_add-off
overflow_add-off c =
    let place : (n : ℕ) → n ≤ c.args.bytes → Fits w64 n = λ n h. search rules in
    let rows = rows_of frags_most c.args.table.now in
    let ends : c.args.off + c.args.size ≤ c.args.bytes = omega (arith, run_end rows c.args.pool.now c.args.held c.args.from c.args.k c.requires.k_bound, c.requires) in
    place (c.args.off + c.args.size) ends

pub slice_bounds-put_bytes-end : goal.slice_bounds-put_bytes-end
slice_bounds-put_bytes-end c =
    let rows = rows_of frags_most c.args.table.now in
    let ends : c.args.off + c.args.size ≤ c.args.bytes = omega (arith, run_end rows c.args.pool.now c.args.held c.args.from c.args.k c.requires.k_bound, c.requires) in
    omega (arith, ends, c.requires)

pub row_at-first-requires : goal.row_at-first-requires
row_at-first-requires c =
    record {
      table_len = omega arith;
      i_lt_size = omega (arith, c.requires);
    }

pub close_fragments-requires : goal.close_fragments-requires
close_fragments-requires c =
    let p = c.requires in
    record {
      table_len = omega arith;
      n_le_size = p.held_le_frags_most;
      k_bound = p.k_bound;
      table_value = p.table_value;
      held_in_bounds = p.bytes_in_bounds;
      off_value = p.off_value;
      bytes_value = p.size_value;
    }

pub returns : goal.returns
returns c =
    let rows = rows_of frags_most c.args.table.now in
    let full : length rows ≡ frags_most = rows_long frags_most c.args.table.now c.requires.table_len in
    let fits : B (take c.args.held rows) ≤ length c.args.pool.now = omega (arith, c.requires) in
    let a = c.args in
    let p = c.requires in
    let sized = p.size_value in
    record {
      result_value = run-message rows a.pool.now a.held a.from a.k p.k_bound p.k_nonzero (omega (arith, full, c.requires)) fits a.ordered c.row_at-first.ensures sized c.in_hand.ensures;
      table_after = c.close_fragments.ensures.table_after;
      pool_after = c.close_fragments.ensures.pool_after;
      buffer_after = run_out rows a.pool.now a.held a.from a.k p.k_bound a.buffer.now p.off_value sized c.put_bytes.ensures;
    }
