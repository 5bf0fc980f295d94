-- `sctp_receive::sctp_receive_tsn_compare` meets its contract: it is the number of the comparison's answer.
use mathlib.Core.Path.{ap, ◌∙◌}
use Rattle.serial_model.specs.Serial.{order_number}
use Rattle.sctp_receive.proofs.order.sctp_receive_tsn_compare.Goals as goal

pub returns : goal.returns
returns c = c.number.ensures ∙ ap order_number c.tsn_compare.ensures
