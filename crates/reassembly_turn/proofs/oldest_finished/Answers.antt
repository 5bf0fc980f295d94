-- `reassembly_turn::oldest_finished` meets its contract: where no row has mark E the pass counts them all.
use borrow.Author.Rules.{rules}
use native.Mathlib.Omega.{arith}
use lib.ListN.{drop}
use Rattle.table.specs.Rows.{rows_of}
use Rattle.fragments.specs.Frag.{ends, of_row}
use Rattle.reassembly_state.specs.Limits.{frags_most}
use Rattle.reassembly_turn.proofs.Turn.{ahead-front}
use Rattle.reassembly_turn.proofs.oldest_finished.Goals as goal

pub overflow_add-end : goal.overflow_add-end
overflow_add-end c =
    let a = c.args in
    let within = ahead-front (of_row ends) a.n (drop a.from (rows_of frags_most a.table.now)) in
    search rules

pub returns-then-end-n : goal.returns-then-end-n
returns-then-end-n c = omega (arith, c.find_end-end.ensures, c.if-end-n.true)

pub returns : goal.returns
returns c = omega (arith, c.find_end-end.ensures, c.if-end-n.false)
