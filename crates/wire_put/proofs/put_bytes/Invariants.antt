-- `wire_put::put_bytes` meets its contract: so far, the first pieces stand at the front.
use Rattle.std.proofs.Common.{◌≡◌, ◌*◌, take}
use Rattle.wire_model.specs.BigEndian.{over}
use Rattle.wire_put.proofs.put_bytes.Given as goal

abbrev pub invariant-loop-i : goal.invariant-loop-i
invariant-loop-i l = l.out ≡ over l.initial.out (take (l.i * 1984) l.bytes)
