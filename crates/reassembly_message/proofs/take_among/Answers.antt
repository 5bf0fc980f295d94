-- `reassembly_message::take_among` meets its contract: the run is measured, and where the buffer is long enough it is taken.
use mathlib.Core.Path.{◌≡◌, ap, ◌∙◌}
use Prim.Native.Nat.{◌≤◌}
use native.Mathlib.Omega.{arith}
use lib.ListN.{length, take, drop}
use Rattle.table.specs.Rows.{rows_of}
use Rattle.fragments.proofs.Pool.{B}
use Rattle.reassembly_state.specs.Limits.{frags_most}
use Rattle.reassembly_state.specs.Model.{Message}
use Rattle.reassembly_state.specs.Rows.{message_by}
use Rattle.reassembly_state.specs.Answers.{message_held}
use Rattle.reassembly_turn.proofs.Messages.{run-size, out_none, out-whole}
use Rattle.reassembly_message.proofs.take_among.Goals as goal

pub returns-then-buffer-size : goal.returns-then-buffer-size
returns-then-buffer-size c =
    let rows = rows_of frags_most c.args.table.now in
    let fits : B (take c.args.held rows) ≤ length c.args.pool.now = omega (arith, c.requires) in
    let a = c.args in
    out_none rows a.pool.now a.held a.from a.k c.requires.k_bound fits a.ordered a.buffer.now (rw c.sum_long-size.ensures at c.if-buffer-size.true)

pub take_run-requires : goal.take_run-requires
take_run-requires c =
    let p = c.requires in
    record {
      table_len = omega arith;
      held_le_frags_most = p.held_le_frags_most;
      k_bound = p.k_bound;
      k_nonzero = p.k_nonzero;
      table_value = p.table_value;
      bytes_in_bounds = p.bytes_in_bounds;
      off_value = p.off_value;
      size_value = c.sum_long-size.ensures;
      size_in_bounds = c.if-buffer-size.false;
    }

pub returns : goal.returns
unfolding message_held message_by
returns c =
    let rows = rows_of frags_most c.args.table.now in
    let fits : B (take c.args.held rows) ≤ length c.args.pool.now = omega (arith, c.requires) in
    let a = c.args in
    let t = c.take_run.ensures in
    let sized : c.take_run.result.size ≡ B (take a.k (drop a.from rows)) = ap (λ (m : Message). m.size) t.result_value ∙ run-size rows a.pool.now a.held a.from a.k c.requires.k_bound fits in
    let room : c.take_run.result.size ≤ length a.buffer.now = omega (arith, sized, c.sum_long-size.ensures, c.if-buffer-size.false) in
    out-whole rows a.pool.now a.held a.from a.k c.requires.k_bound fits a.ordered a.buffer.now sized room t.result_value t.table_after t.pool_after t.buffer_after
