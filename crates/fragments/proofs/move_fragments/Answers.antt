-- `fragments::move_fragments` meets its contract: the rows and the bytes that are turned are those of the fragments; a turn of none is nothing.
use mathlib.Core.Path.{◌≡◌, refl}
use mathlib.Core.List.{List}
use Prim.Native.Nat.{ℕ, ◌+◌, ◌-◌, ◌≤◌}
use native.Mathlib.Omega.{arith}
use lib.ListN.{take, drop}
use Rattle.table.specs.Rows.{rows_of}
use Rattle.table.specs.declared.Row.{Row}
use Rattle.table.proofs.Columns.{rows_long}
use Rattle.fragments.specs.Pool.{cut}
use Rattle.fragments.proofs.Pool.{B, total-take, total_up, turned_none, lay-view, turned_rows, turned-bytes}
use Rattle.fragments.proofs.move_fragments.Goals as goal

-- the runs are of the first n fragments
within : (rs : List Row) (a b e n : ℕ) → a ≤ b → b ≤ e → e ≤ n → B (take a rs) + B (take (b - a) (drop a rs)) + B (take (e - b) (drop b rs)) ≤ B (take n rs)
within rs a b e n h k l = omega (arith, total_up a b rs h, total_up b e rs k, total-take e n rs l)

pub returns-then-a-b : goal.returns-then-a-b
returns-then-a-b c =
    let a = c.args in
    let rows = rows_of a.size a.table.now in
    let v = lay-view a.n rows a.pool.now c.requires.table_in_bounds in
    let e : a.b ≡ a.a = omega arith in
    let t = turned_none a.a a.e (cut (take a.n rows) a.pool.now) (omega arith) in
    record {
      table_after = rw (e, t, v.0);
      pool_after = rw (e, t, v.1);
    }

pub overflow_add-middle : goal.overflow_add-middle
overflow_add-middle c =
    let a = c.args in
    let p = c.requires in
    let w = within (rows_of a.size a.table.now) a.a a.b a.e a.n p.a_le_b p.b_le_e p.e_le_n in
    omega (arith, c.sum_long-first.ensures, c.sum_long.ensures)

pub overflow_add-end : goal.overflow_add-end
overflow_add-end c =
    let a = c.args in
    let p = c.requires in
    let w = within (rows_of a.size a.table.now) a.a a.b a.e a.n p.a_le_b p.b_le_e p.e_le_n in
    omega (arith, c.sum_long-first.ensures, c.sum_long.ensures, c.sum_long-2.ensures)

pub turn-requires : goal.turn-requires
turn-requires c =
    let a = c.args in
    let p = c.requires in
    let w = within (rows_of a.size a.table.now) a.a a.b a.e a.n p.a_le_b p.b_le_e p.e_le_n in
    omega (arith, c.sum_long-first.ensures, c.sum_long.ensures, c.sum_long-2.ensures)

pub returns : goal.returns
returns c =
    let a = c.args in
    let rows = rows_of a.size a.table.now in
    let pool = a.pool.now in
    let p = c.requires in
    let fit = p.table_in_bounds in
    let long = rows_long a.size a.table.now c.requires.table_len in
    record {
      table_after = rw c.turn_rows.ensures (turned_rows a.n rows pool _ refl fit a.a a.b a.e p.a_le_b p.b_le_e p.e_le_n (omega arith));
      pool_after = rw (c.turn.ensures, c.sum_long-first.ensures, c.sum_long.ensures, c.sum_long-2.ensures, total_up a.a a.b rows p.a_le_b, total_up a.b a.e rows p.b_le_e)
          (turned-bytes a.n rows pool _ refl fit a.a a.b a.e p.a_le_b p.b_le_e p.e_le_n);
    }
