-- `sctp_receive_chunks_len` answers what the call below it does.
use mathlib.Core.Path.{◌∙◌}
use Rattle.sctp_receive.proofs.message.sctp_receive_chunks_len.Goals as goal

pub returns : goal.returns
returns c = rw (← c.hand-message.ensures) (c.counted.ensures ∙ c.len-answer.ensures)
