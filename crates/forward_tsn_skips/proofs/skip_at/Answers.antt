-- `forward_tsn_skips::skip_at` meets its contract: below the count a pair comes, and it is the one in front.
use Rattle.forward_tsn_skips.proofs.Skips.{at-refused, at-is}
use Rattle.forward_tsn_skips.proofs.skip_at.Goals as goal

pub returns-in-Ok : goal.returns-in-Ok
returns-in-Ok c f = rw (← (at-is c.args.part.now c.args.i f.fields c.requires (rw c.in-Ok.is at (c.stream_at.ensures f)))) c.skip_pair.ensures

pub returns-in-Err : goal.returns-in-Err
returns-in-Err c f = absurd (at-refused c.args.part.now c.args.i f.fields c.requires (rw c.in-Err.is at (c.stream_at.ensures f)))
