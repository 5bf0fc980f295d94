-- `taken` meets its contract where a message comes: the queue's numbers, and the message's.
use mathlib.Core.Path.{refl}
use Rattle.reassembly_state.specs.Answers.{message_held}
use Rattle.sctp_receive_fragments.proofs.taken.Goals as goal

pub returns-in-Ok-Some : goal.returns-in-Ok-Some
unfolding message_held
returns-in-Ok-Some c = (refl, rw (c.in-Ok-Some.is, rw c.in-Ok-Some.is at c.in-Ok-Some.field-0-is))
