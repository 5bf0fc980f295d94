-- `payload_parts::handed` meets its contract: the first n places of the log stand before the zeros.
use mathlib.Core.Path.{◌≡◌, ◌∙◌}
use mathlib.Core.List.{List, ◌++◌}
use Prim.Native.Nat.{ℕ}
use native.Mathlib.Omega.{arith}
use lib.ListN.{length, take, drop}
use lib.Seq.{length-take-le}
use Rattle.wire_model.specs.BigEndian.{over}
use Rattle.payload_model.specs.Queue.{zeros}
use Rattle.payload_parts.proofs.handed.Goals as goal

in-front : (log xs : List ℕ) (n : ℕ) → xs ≡ take n log → length xs ≡ n → xs ++ drop n zeros ≡ over zeros (take n log)
unfolding over
in-front log xs n e l = rw (← e, l)

pub returns : goal.returns
returns c =
    let e = c.copy_from_slice.ensures in
    in-front c.args.log c.copy_from_slice.new.self c.args.n e.after (e.len ∙ length-take-le c.args.n zeros (omega arith))
