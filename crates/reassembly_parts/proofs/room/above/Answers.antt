-- `reassembly_parts::room::above` meets its contract: where the held bytes alone are above the maximum so is the sum, else what is left of it is compared.
use mathlib.Core.Path.{sym}
use Prim.Native.Nat.{◌+◌}
use native.Mathlib.Omega.{arith}
use borrow.Author.Tests.{lt-ltb}
use Rattle.reassembly_state.proofs.Laws.{above_left}
use Rattle.reassembly_parts.proofs.room.above.Goals as goal

pub returns-then-most-held : goal.returns-then-most-held
returns-then-most-held c = let a = c.args in sym (lt-ltb a.max (a.held + a.more) (omega arith))

pub returns : goal.returns
returns c = let a = c.args in above_left a.max a.held a.more (omega arith)
