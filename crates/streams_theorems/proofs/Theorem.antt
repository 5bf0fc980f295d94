-- Eight streams in one pool: the claims of specs/, each with the request's words, and where it is proved.
-- Assumes nothing.
use Rattle.streams_theorems.specs.Rule.{Full, Enough, Reserved, Before_all, No_stream, Sound_stays}
use Rattle.streams_theorems.specs.Alone.{Alone, Isolated}
use Rattle.streams_theorems.specs.Arrives as arrives
use Rattle.streams_theorems.specs.Skips as skips
use Rattle.streams_theorems.proofs.Rule as rule
use Rattle.streams_theorems.proofs.Alone as alone
use Rattle.streams_theorems.proofs.Arrives as arrival
use Rattle.streams_theorems.proofs.Skips as skipping

-- "Eight streams now share the 512 fragments and 65,536 bytes."
pub shared : Enough
shared = rule.enough

-- every call leaves sound streams sound
pub sound_stays : Sound_stays
sound_stays = rule.sound_stays

-- "Each is sure of 16 fragments and 4,096 bytes; the remaining 384 and 32,768 are common. A stream draws on the common part only by what it holds above its own."
pub sure : Reserved
sure = rule.reserved

-- "Refusal 8 is given exactly when, after the push, the streams' draws would add to more than the common part, in either measure"
pub full_exactly_when : Full
full_exactly_when = rule.full_exactly_when

-- "In two runs from fresh, queue and pool handed on as in demand 3, with otherwise the same calls on one stream and any calls on the others, if each
-- of its pushes would leave it within its own 16 and 4,096, its answers, taken bytes and byte count are the same."
pub isolated : Isolated
isolated = alone.isolated

-- and a stream none of whose pushes is refused with 8 is as its queue alone
pub as_alone : Alone
as_alone = alone.alone

-- "A stream number of 8 or above is refusal 19, after 0 and before all else."
pub before-all : Before_all
before-all = rule.before-all

pub no_stream : No_stream
no_stream = rule.no_stream

-- "Demand 3 holds per stream with this room rule."
pub arrival_per_stream : arrives.Arrives
arrival_per_stream = arrival.arrives

-- and 512 takes on the stream at the end are enough
pub arrival_per_stream_then_takes : arrives.Arrives_then_takes
arrival_per_stream_then_takes = arrival.arrives_then_takes

-- So does the guarantee with skips, which extends it: at any time, once taking ends, and with 512 takes at the end
pub whole_per_stream : skips.Always
whole_per_stream = skipping.always

pub skips_per_stream : skips.Arrives
skips_per_stream = skipping.arrives

pub skips_per_stream_then_takes : skips.Arrives_then_takes
skips_per_stream_then_takes = skipping.arrives_then_takes
