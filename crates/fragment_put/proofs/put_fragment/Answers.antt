-- `fragment_put::put_fragment` meets its contract: the row and the bytes that are put in are those of the fragment.
use Prim.Native.Nat.{◌≤◌}
use native.Mathlib.Omega.{arith}
use lib.ListN.{length}
use Rattle.table.specs.Rows.{rows_of}
use Rattle.fragments.proofs.Pool.{total-take, put-rows, put-bytes}
use Rattle.fragment_put.proofs.put_fragment.Goals as goal

pub put-requires : goal.put-requires
put-requires c =
    let a = c.args in
    let front = total-take a.at a.n (rows_of a.size a.table.now) (omega arith) in
    record {
      at_le_total = omega (arith, c.start_of-off.ensures);
      new_in_bounds = omega arith;
    }

pub returns : goal.returns
returns c =
    let a = c.args in
    let p = c.requires in
    let rows = rows_of a.size a.table.now in
    let pool = a.pool.now in
    let small : a.held ≤ length pool = omega arith in
    record {
      table_after = rw c.put_row.ensures (put-rows a.n rows pool a.held p.table_value small a.at a.row a.bytes.now p.head_value);
      pool_after = rw (c.put.ensures, c.start_of-off.ensures) (put-bytes a.n rows pool a.held p.table_value small a.at a.row a.bytes.now (omega arith));
    }
