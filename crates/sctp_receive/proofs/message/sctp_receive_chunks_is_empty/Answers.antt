-- `sctp_receive_chunks_is_empty` answers what the call below it does.
use mathlib.Core.Path.{◌∙◌}
use Rattle.sctp_receive.proofs.message.sctp_receive_chunks_is_empty.Goals as goal

pub returns : goal.returns
returns c = rw (← c.hand-message.ensures) (c.flag.ensures ∙ c.is_empty-answer.ensures)
