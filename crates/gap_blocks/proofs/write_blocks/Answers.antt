-- `gap_blocks::write_blocks` meets its contract: after i turns the blocks of the first i TSNs stand in front of both lists (`Put`).
use Prim.Native.Nat.{◌+◌, ◌-◌}
use native.Mathlib.Omega.{arith}
use Rattle.gap_model.proofs.Walk.{put_none, put-room, put_skip, put_open, put_all, open_room, grow_room, low, high}
use Rattle.gap_model.proofs.Follow.{put_follow, follow_few}
use Rattle.gap_blocks.proofs.write_blocks.Goals as goal

pub loop-i-init : goal.loop-i-init
loop-i-init c =
    let a = c.args in
    put_none a.cumulative a.size a.n a.table.now a.starts.now a.ends.now c.requires.table_len c.requires.n_le_size c.requires.table_in_bounds c.requires.table_in_bounds_2

pub overflow_cast-ends : goal.overflow_cast-ends
overflow_cast-ends c =
    let i = c.loop-i in
    omega (arith, follow_few i.invariant (i.i + 1) (65535 - c.tsn_offset-offset.result) c.tsn_next.result c.following-more.ensures)

pub overflow_cast-last : goal.overflow_cast-last
overflow_cast-last c = omega (arith, overflow_cast-ends c)

pub overflow_add-last : goal.overflow_add-last
overflow_add-last c = omega (arith, overflow_cast-ends c)

-- the block to extend
pub overflow_sub-ends : goal.overflow_sub-ends
overflow_sub-ends c = grow_room c.loop-i.invariant (omega arith) c.tsn_offset-offset.ensures c.if-offset-gt0.true c.if-offset-want.true

pub offset_bounds-ends-count : goal.offset_bounds-ends-count
offset_bounds-ends-count c = omega (arith, put-room c.loop-i.invariant)

pub bounds-ends-count : goal.bounds-ends-count
bounds-ends-count c = omega (arith, overflow_sub-ends c, put-room c.loop-i.invariant)

pub overflow_add-want : goal.overflow_add-want
overflow_add-want c = omega (arith, overflow_cast-ends c)

pub loop-i-preserved-then-offset-want : goal.loop-i-preserved-then-offset-want
loop-i-preserved-then-offset-want c =
    let f = rw c.tsn_next.ensures at c.following-more.ensures in
    put_follow c.loop-i.invariant (omega arith) c.tsn_offset-offset.ensures c.if-offset-gt0.true c.if-offset-le-FARTHEST.true c.if-offset-want.true c.following-more.result f

pub overflow_add-i-then-offset-want : goal.overflow_add-i-then-offset-want
overflow_add-i-then-offset-want c = omega (arith, (loop-i-preserved-then-offset-want c).seen.within)

pub loop-i-smaller-then-offset-want : goal.loop-i-smaller-then-offset-want
loop-i-smaller-then-offset-want c = omega (arith, (loop-i-preserved-then-offset-want c).seen.within)

pub offset_bounds-starts-count : goal.offset_bounds-starts-count
offset_bounds-starts-count c = omega (arith, put-room c.loop-i.invariant)

pub bounds-starts-count : goal.bounds-starts-count
bounds-starts-count c = (open_room c.loop-i.invariant (omega arith) c.tsn_offset-offset.ensures c.if-offset-gt0.true c.if-offset-le-FARTHEST.true c.if-offset-want.false).0

pub offset_bounds-ends-count-else-offset-want : goal.offset_bounds-ends-count-else-offset-want
offset_bounds-ends-count-else-offset-want c = omega (arith, put-room c.loop-i.invariant)

pub bounds-ends-count-else-offset-want : goal.bounds-ends-count-else-offset-want
bounds-ends-count-else-offset-want c = (open_room c.loop-i.invariant (omega arith) c.tsn_offset-offset.ensures c.if-offset-gt0.true c.if-offset-le-FARTHEST.true c.if-offset-want.false).1

pub loop-i-preserved-else-offset-want : goal.loop-i-preserved-else-offset-want
loop-i-preserved-else-offset-want c = put_open c.loop-i.invariant (omega arith) c.tsn_offset-offset.ensures c.if-offset-gt0.true c.if-offset-le-FARTHEST.true c.if-offset-want.false

pub loop-i-preserved-else-offset-le-FARTHEST : goal.loop-i-preserved-else-offset-le-FARTHEST
loop-i-preserved-else-offset-le-FARTHEST c = put_skip c.loop-i.invariant (omega arith) c.tsn_offset-offset.ensures (high _ c.if-offset-gt0.true c.if-offset-le-FARTHEST.false)

pub loop-i-preserved : goal.loop-i-preserved
loop-i-preserved c = put_skip c.loop-i.invariant (omega arith) c.tsn_offset-offset.ensures (low _ c.if-offset-gt0.false)

pub returns : goal.returns
returns c =
    let whole = put_all c.loop-i.invariant c.loop-i-test.false in
    record {
      value = whole.0;
      starts_after = whole.1.0;
      ends_after = whole.1.1;
    }
