-- `reassembly_turn::without` meets its contract: the counts go down where the message stood.
use borrow.Author.Tests.{lt-ltb, le-ltb, eq-eqb, ne_eqb}
use Rattle.reassembly_state.specs.Rows.{without_message}
use Rattle.reassembly_turn.proofs.without.Goals as goal

pub overflow_sub-queue-then-queue-gt0 : goal.overflow_sub-queue-then-queue-gt0
overflow_sub-queue-then-queue-gt0 c = rw (lt-ltb 0 c.args.queue.now.finished c.if-queue-gt0.true) at c.requires.k_bound

pub returns-then-queue-gt0 : goal.returns-then-queue-gt0
unfolding without_message
returns-then-queue-gt0 c = rw (lt-ltb 0 c.args.queue.now.finished c.if-queue-gt0.true)

pub overflow_sub-queue-2 : goal.overflow_sub-queue-2
overflow_sub-queue-2 c = rw (le-ltb 0 c.args.queue.now.finished c.if-queue-gt0.false) at c.requires.k_bound

pub returns-then-ssn-queue : goal.returns-then-ssn-queue
unfolding without_message
returns-then-ssn-queue c = rw (le-ltb 0 c.args.queue.now.finished c.if-queue-gt0.false, eq-eqb c.args.ssn c.args.queue.now.next_ssn c.if-ssn-queue.true, c.ssn_next-queue.ensures, c.if-ssn-queue.true)

pub returns-else-ssn-queue : goal.returns-else-ssn-queue
unfolding without_message
returns-else-ssn-queue c = rw (le-ltb 0 c.args.queue.now.finished c.if-queue-gt0.false, ne_eqb c.args.ssn c.args.queue.now.next_ssn c.if-ssn-queue.false)
