-- `hand_copy::copy` meets its contract: the room decides how many bytes are copied.
use mathlib.Core.Path.{◌≡◌}
use native.Mathlib.Omega.{arith}
use borrow.Author.Tests.{lt-ltb, le-ltb}
use Prim.Native.Nat.{◌-◌}
use lib.ListN.{length, take}
use lib.Seq.{take-take, take_all, length-take-le}
use Rattle.hand_copy.proofs.copy.Goals as goal

pub returns-then-room-size : goal.returns-then-room-size
returns-then-room-size c =
    let a = c.args in
    let room : length a.out.now - 0 ≡ length a.out.now = omega arith in
    let front = take-take (length a.out.now) a.size a.buffer.now (omega (arith, c.if-room-size.true)) in
    (rw (lt-ltb _ _ c.if-room-size.true), rw (front, c.put_bytes.ensures, room))

pub returns : goal.returns
returns c =
    let a = c.args in
    let all : a.size - 0 ≡ a.size = omega arith in
    let n = length-take-le a.size a.buffer.now c.requires in
    let fits = take_all (length a.out.now) (take a.size a.buffer.now) (omega (arith, c.if-room-size.false)) in
    (rw (le-ltb _ _ c.if-room-size.false), rw (fits, c.put_bytes-2.ensures, all))
