-- `fragment_close::close_fragments` meets its contract: the rows and the bytes that are taken out are those of the fragments.
use Prim.Native.Nat.{◌+◌}
use native.Mathlib.Omega.{arith}
use Rattle.table.specs.Rows.{rows_of}
use Rattle.table.proofs.Columns.{rows_long}
use Rattle.fragments.proofs.Pool.{total-take, total_within, gone-rows, gone-bytes, gone-last-rows, gone-last-bytes}
use Rattle.fragment_close.proofs.close_fragments.Goals as goal

pub returns-then-at-k : goal.returns-then-at-k
returns-then-at-k c =
    let a = c.args in
    let p = c.requires in
    let rows = rows_of a.size a.table.now in
    let e = rows_long a.size a.table.now c.requires.table_len in
    record {
      table_after = gone-last-rows a.n rows a.pool.now a.held p.table_value p.held_in_bounds a.at a.k c.if-at-k.true (omega arith);
      pool_after = gone-last-bytes a.n rows a.pool.now a.held p.table_value p.held_in_bounds a.at a.k c.if-at-k.true;
    }

pub close-requires : goal.close-requires
close-requires c =
    let a = c.args in
    let rows = rows_of a.size a.table.now in
    let front = total-take (a.at + a.k) a.n rows (omega arith) in
    record {
      total_in_bounds = omega arith;
      k_bound = omega (arith, total_within a.at a.k rows);
    }

pub returns : goal.returns
returns c =
    let a = c.args in
    let p = c.requires in
    let rows = rows_of a.size a.table.now in
    let pool = a.pool.now in
    record {
      table_after = rw c.close_rows.ensures (gone-rows a.n rows pool a.held p.table_value p.held_in_bounds a.at a.k);
      pool_after = rw (c.close.ensures, p.off_value, p.bytes_value) (gone-bytes a.n rows pool a.held p.table_value p.held_in_bounds a.at a.k (omega arith));
    }
