-- `sctp_receive_forward_tsn_marshal_to` answers and leaves what `marshal_to` does.
use mir.Syntax.{w32}
use mir.Facts.{to_z-of_z}
use Rattle.sctp_receive.proofs.forward_tsn_chunk.sctp_receive_forward_tsn_marshal_to.Goals as goal

pub returns : goal.returns
returns c =
    let call = c.marshal_to in
    rw (to_z-of_z {w = w32} {z = call.result} (record { sfits = call.type_inv })) call.ensures
