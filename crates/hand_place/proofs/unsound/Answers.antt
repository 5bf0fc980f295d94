-- `hand_place::unsound` meets its contract: both conditions are tested.
use borrow.Author.Tests.{lt-ltb, le-ltb}
use Rattle.hand_place.proofs.unsound.Goals as goal

pub returns-then-room-size : goal.returns-then-room-size
returns-then-room-size c = rw (lt-ltb _ _ c.if-room-size.true)

pub returns : goal.returns
returns c = rw (le-ltb _ _ c.if-room-size.false)
