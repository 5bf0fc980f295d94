-- `packet_parts::swapped` meets its contract: each byte of the number is taken from the low end, and put on at the low end of the answer.
use Rattle.packet_parts.proofs.Mirror.{mirrored}
use Rattle.packet_parts.proofs.swapped.Goals as goal

pub returns : goal.returns
returns c = mirrored c.args.x c.ranges.x.fits
