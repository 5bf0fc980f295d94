-- Writing a packet from chunks that are lent back to back without padding.
-- Assumes nothing.
use Rattle.std.specs.Prelude.{ℕ, List}
use Rattle.wire_model.specs.Refusal.{Written, write}
use Rattle.packet_body.specs.Lent.{lent_checks, body}
use Rattle.packet.specs.Layout.{Common, packet}

-- "(a bad one gives 1 or 2): chunks in order, zero padding, checksum last, refusal 10 if the buffer is short, buffer unchanged"
unfoldable pub packet_written : Common → List ℕ → List ℕ → Written
packet_written c lent out = write (lent_checks lent) (packet c (body lent)) out
