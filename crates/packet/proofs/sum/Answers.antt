-- `packet::sum` meets its contract: bytes behind others go through the register that those leave.
use mathlib.Core.Path.{ap, ◌∙◌}
use lib.ListN.{take, drop}
use Rattle.crc32c.specs.Crc.{through, little_endian}
use Rattle.wire.proofs.Writing.{left-whole}
use Rattle.packet.proofs.Sums.{in_parts}
use Rattle.packet.proofs.sum.Goals as goal

pub returns : goal.returns
unfolding little_endian
returns c =
    let raw = c.args.raw.now in
    in_parts (take 8 raw) (little_endian 4 0) (drop 12 raw) c.update-front.ensures c.update-header.ensures (c.update.ensures ∙ ap (through c.update-header.result) (left-whole raw 12))
