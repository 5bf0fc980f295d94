-- `streams_close::close_up` meets its contract: where as many fragments and bytes are left nothing has to move; else it is one move down.
use Prim.Native.Nat.{◌+◌}
use Rattle.table.specs.Rows.{rows_of}
use Rattle.reassembly_state.specs.Limits.{frags_most}
use Rattle.reassembly_state.specs.State.{count}
use Rattle.streams_close.proofs.Gone.{nothing-gone}
use Rattle.streams_close.proofs.close_up.Goals as goal

pub returns-then-place-off : goal.returns-then-place-off
returns-then-place-off c =
    let a = c.args in
    record {
      table_after = nothing-gone (count a.left) (count a.queue) (count a.queue + a.behind.rows) (rows_of frags_most a.table.now) c.if-to-at.true;
      pool_after = nothing-gone a.left.n_bytes a.queue.n_bytes (a.queue.n_bytes + a.behind.bytes) a.pool.now c.if-place-off.true;
    }

pub returns : goal.returns
returns c =
    record {
      table_after = c.move_down.ensures.table_after;
      pool_after = c.move_down.ensures.pool_after;
    }
