-- `streams_room::has_room` meets its contract: after i turns the draws are those of the first i streams, one of which holds more.
use Rattle.streams_model.specs.Shape.{queues_of}
use Rattle.streams_room.proofs.Drawing.{Drawn}
use Rattle.streams_room.proofs.has_room.Given as goal

abbrev pub invariant-loop-i : goal.invariant-loop-i
invariant-loop-i l = Drawn (queues_of l.streams) l.stream l.more l.frags l.bytes l.i
