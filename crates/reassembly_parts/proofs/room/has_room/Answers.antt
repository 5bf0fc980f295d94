-- `reassembly_parts::room::has_room` meets its contract: the fragments are counted first, then the bytes.
use mathlib.Core.Bool.{and-false}
use Prim.Native.Nat.{◌+◌}
use native.Mathlib.Omega.{arith}
use borrow.Author.Tests.{le-leb, lt-leb}
use Rattle.reassembly_state.specs.Limits.{frags_most, bytes_most}
use Rattle.reassembly_state.specs.State.{count}
use Rattle.reassembly_state.proofs.Laws.{within_left}
use Rattle.reassembly_parts.proofs.room.has_room.Goals as goal

pub returns-then-queue-ge-FRAGMENTS : goal.returns-then-queue-ge-FRAGMENTS
returns-then-queue-ge-FRAGMENTS c = let q = c.args.queue in rw (lt-leb (count q + 1) frags_most (omega arith))

pub returns-then-queue-gt-BYTES : goal.returns-then-queue-gt-BYTES
returns-then-queue-gt-BYTES c =
    let a = c.args in
    rw (lt-leb (a.queue.n_bytes + a.more) bytes_most (omega arith), and-false)

pub returns : goal.returns
returns c =
    let a = c.args in
    rw (le-leb (count a.queue + 1) frags_most (omega arith), within_left bytes_most a.queue.n_bytes a.more (omega arith))
