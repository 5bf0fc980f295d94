-- `sctp_receive_reassembly_queue_applicable_forward_tsn_for_ordered_bounded` answers what the call below it does.
use mathlib.Core.Path.{◌∙◌}
use Rattle.sctp_receive.proofs.bounded_calls.sctp_receive_reassembly_queue_applicable_forward_tsn_for_ordered_bounded.Goals as goal

pub returns : goal.returns
returns c = c.applicable.ensures ∙ c.applicable_forward_tsn_for_ordered_bounded-answer.ensures
