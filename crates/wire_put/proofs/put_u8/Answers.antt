-- `wire_put::put_u8` meets its contract: one store at the front.
use mathlib.Core.Path.{◌≡◌}
use mathlib.Core.List.{[], ◌∷◌}
use Prim.Native.Nat.{◌%◌}
use native.Mathlib.Omega.{arith}
use Rattle.wire_model.specs.BigEndian.{big_endian}
use Rattle.wire_put.proofs.Laws.{put_front}
use Rattle.wire_put.proofs.put_u8.Goals as goal

pub returns : goal.returns
unfolding big_endian
returns c =
    let a = c.args in
    let e : a.x % 256 ≡ a.x = omega arith in
    rw e (put_front a.out.now (a.x ∷ []) (omega arith))
