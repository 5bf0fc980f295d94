-- `gap_report::report` meets its contract: lists of n places have room for every block, and others are held to the dry pass's count.
use native.Mathlib.Omega.{arith}
use Rattle.gap_model.specs.Gap.{blocks}
use Rattle.gap_model.proofs.Walk.{held, held_few, said, said_short, said_short'}
use Rattle.gap_report.proofs.report.Goals as goal

pub write_blocks-requires : goal.write_blocks-requires
write_blocks-requires c =
    let a = c.args in
    let f = held_few a.size a.n a.table.now c.requires.table_len c.requires.n_le_size a.cumulative in
    record {
      table_len = c.requires.table_len;
      n_le_size = c.requires.n_le_size;
      table_in_bounds = omega arith;
      table_in_bounds_2 = omega arith;
    }

pub returns-then-n-ends : goal.returns-then-n-ends
returns-then-n-ends c =
    let a = c.args in
    let w = c.write_blocks.ensures in
    let f = held_few a.size a.n a.table.now c.requires.table_len c.requires.n_le_size a.cumulative in
    said (blocks a.cumulative (held a.size a.n a.table.now)) a.starts.now a.ends.now (omega arith) (omega arith) (w.value, (w.starts_after, w.ends_after))

pub returns-then-needed-starts : goal.returns-then-needed-starts
returns-then-needed-starts c =
    let a = c.args in
    said_short (blocks a.cumulative (held a.size a.n a.table.now)) a.starts.now a.ends.now (omega arith)

pub returns-then-needed-ends : goal.returns-then-needed-ends
returns-then-needed-ends c =
    let a = c.args in
    said_short' (blocks a.cumulative (held a.size a.n a.table.now)) a.starts.now a.ends.now (omega arith) (omega arith)

pub returns : goal.returns
returns c =
    let a = c.args in
    let w = c.write_blocks-2.ensures in
    said (blocks a.cumulative (held a.size a.n a.table.now)) a.starts.now a.ends.now (omega arith) (omega arith) (w.value, (w.starts_after, w.ends_after))
