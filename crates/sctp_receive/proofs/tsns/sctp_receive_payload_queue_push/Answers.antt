-- `sctp_receive_payload_queue_push` answers and leaves what `push` does with the chunk of these fields.
use mir.Syntax.{w32}
use mir.Facts.{to_z-of_z}
use Rattle.sctp_receive.proofs.tsns.sctp_receive_payload_queue_push.Goals as goal

pub returns : goal.returns
returns c = rw (to_z-of_z {w = w32} {z = c.push.result} (record { sfits = c.push.type_inv })) c.push.ensures
