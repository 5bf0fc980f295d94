-- `wire_put::put_bytes` meets its contract: few bytes stand where they were copied; of many, each turn puts one piece behind those that stand there, and
-- at the end what is left of the bytes.
use mathlib.Core.Path.{◌≡◌, refl, ap, ◌∙◌}
use Prim.Native.Nat.{◌+◌, ◌-◌, ◌*◌, ◌/◌}
use native.Mathlib.Omega.{arith}
use borrow.Rule.Slice.PartMut.{put_mid}
use lib.ListN.{length, take}
use lib.Seq.{take_all}
use Rattle.wire_model.specs.BigEndian.{over}
use Rattle.wire_put.proofs.Laws.{next_piece}
use Rattle.wire_put.proofs.put_bytes.Goals as goal

pub returns-then-n-lt-PIECE : goal.returns-then-n-lt-PIECE
unfolding over
returns-then-n-lt-PIECE c = rw c.copy_from_slice.ensures.after

pub loop-i-init : goal.loop-i-init
unfolding over
loop-i-init c = refl

pub loop-i-preserved : goal.loop-i-preserved
loop-i-preserved c =
    let a = c.args in
    let at = c.loop-i.i * 1984 in
    let k : at + 1984 - at ≡ 1984 = omega arith in
    let e : (c.loop-i.i + 1) * 1984 ≡ at + 1984 = omega arith in
    let step : put_mid at (at + 1984 - at) c.loop-i.out c.copy_from_slice-in-loop-i.new.self ≡ over a.out.now (take ((c.loop-i.i + 1) * 1984) a.bytes.now) =
    rw (c.copy_from_slice-in-loop-i.ensures.after, c.loop-i.invariant, k, e) (next_piece a.out.now a.bytes.now at 1984 (omega (arith, c.loop-i-test.true))) in
    step

pub returns : goal.returns
returns c =
    let a = c.args in
    let n = length a.bytes.now in
    let at = n / 1984 * 1984 in
    let i : c.loop-i.i ≡ n / 1984 = omega arith in
    let all : at + (n - at) ≡ n = omega arith in
    let was : c.loop-i.out ≡ over a.out.now (take at a.bytes.now) = rw i at c.loop-i.invariant in
    rw (c.copy_from_slice-2.ensures.after, was) (next_piece a.out.now a.bytes.now at (n - at) (omega (arith, all)) ∙ ap (over a.out.now) (ap (λ m. take m a.bytes.now) all ∙ take_all n a.bytes.now (omega arith)))
