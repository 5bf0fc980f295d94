-- `packet_body::put_body` meets its contract: each turn puts one chunk with its padding behind those that are done.
use Prim.Native.Nat.{◌-◌}
use lib.ListN.{length}
use Rattle.packet_body.proofs.Putting.{Put}
use Rattle.packet_body.proofs.put_body.Given as goal

abbrev pub invariant-loop-from : goal.invariant-loop-from
invariant-loop-from l = Put l.initial.out l.chunks l.out l.from l.to

abbrev pub decreases-loop-from : goal.decreases-loop-from
decreases-loop-from l = length l.chunks - l.from
