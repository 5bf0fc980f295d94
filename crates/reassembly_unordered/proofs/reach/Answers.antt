-- `reassembly_unordered::reach` meets its contract: each run that the chunk's marks leave open is summed.
use borrow.Author.Rules.{rules}
use native.Mathlib.Omega.{arith}
use Rattle.table.specs.Rows.{rows_of}
use Rattle.reassembly_state.specs.Limits.{frags_most}
use Rattle.reassembly_state.specs.Rows.{neighbours}
use Rattle.reassembly_loose.proofs.Loose.{runs_fit}
use Rattle.reassembly_unordered.proofs.reach.Goals as goal

pub returns-then-chunk-2 : goal.returns-then-chunk-2
unfolding neighbours
returns-then-chunk-2 c = rw (c.if-chunk.true, c.if-chunk-2.true)

pub returns-then-chunk : goal.returns-then-chunk
unfolding neighbours
returns-then-chunk c = rw (c.if-chunk.true, c.if-chunk-2.false, c.run_up.ensures) (omega arith)

pub returns-then-chunk-3 : goal.returns-then-chunk-3
unfolding neighbours
returns-then-chunk-3 c = rw (c.if-chunk.false, c.if-chunk-3.true, c.run_down-down.ensures) (omega arith)

pub overflow_add-result : goal.overflow_add-result
overflow_add-result c =
    let a = c.args in
    let k = runs_fit a.queue (rows_of frags_most a.table.now) (omega arith) a.chunk.tsn in
    rw (c.run_down-down.ensures, c.run_up-up.ensures) (search rules)

pub returns : goal.returns
unfolding neighbours
returns c = rw (c.if-chunk.false, c.if-chunk-3.false, c.run_down-down.ensures, c.run_up-up.ensures)
