-- `reassembly_hand::in_hand` meets its contract: only an ordered message has its SSN.
use Rattle.reassembly_state.specs.Answers.{message_held}
use Rattle.reassembly_hand.proofs.in_hand.Goals as goal

pub returns-then-ordered : goal.returns-then-ordered
unfolding message_held
returns-then-ordered c = rw c.if-ordered.true

pub returns-else-ordered : goal.returns-else-ordered
unfolding message_held
returns-else-ordered c = rw c.if-ordered.false
