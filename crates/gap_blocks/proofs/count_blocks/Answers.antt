-- `gap_blocks::count_blocks` meets its contract: after i turns it has counted the blocks of the first i TSNs (`Seen`).
use mathlib.Core.List.{List, []}
use Prim.Native.Nat.{ℕ}
use mathlib.Core.Path.{◌≡◌, sym, ap, ◌∙◌}
use native.Mathlib.Omega.{arith}
use lib.ListN.{length}
use Rattle.gap_model.specs.Gap.{Block}
use Rattle.gap_model.proofs.Walk.{Seen, seen_none, seen_skip, seen_open, seen_last, seen_grow, seen_all, low, high}
use Rattle.gap_blocks.proofs.count_blocks.Goals as goal
use Rattle.gap_blocks.proofs.count_blocks.Goals.{then-offset-gt0+then-offset-le-FARTHEST, then-offset-want, else-offset-want, else-offset-gt0, else-offset-gt0-via-then-offset-gt0+else-offset-le-FARTHEST, else-offset-gt0-via-else-offset-gt0}

pub loop-i-init : goal.loop-i-init
loop-i-init c = let a = c.args in ([], seen_none a.cumulative a.size a.n a.table.now c.requires.table_len c.requires.n_le_size)

-- the blocks seen, by a count and an offset that are known to be these
counted :
    {cum size n : ℕ} {table : List ℕ} {i : ℕ} {bs : List Block} {count want count' want' : ℕ} →
    Seen cum size n table i bs count want → count' ≡ count → want' ≡ want → (bs : List Block) × Seen cum size n table i bs count' want'
counted {bs = bs} s e f = (bs, rw (e, f) s)

pub loop-i-preserved : goal.loop-i-preserved
loop-i-preserved c =
    let s = c.loop-i.invariant.1 in
    let e = c.tsn_offset-offset.ensures in
    elim c.if-offset-gt0.branch [
      | then-offset-gt0+then-offset-le-FARTHEST w ↦
          elim w.if-offset-want.branch [
            | then-offset-want v ↦
                counted (seen_open s (omega arith) e w.if-offset-gt0.true w.if-offset-le-FARTHEST.true v.if-offset-want.true) (w.needed-is ∙ v.needed-is) w.want-is
            | else-offset-want v ↦
                let l = seen_last s (omega arith) e w.if-offset-gt0.true v.if-offset-want.false in
                counted (seen_grow s (omega arith) e w.if-offset-gt0.true w.if-offset-le-FARTHEST.true v.if-offset-want.false l) (w.needed-is ∙ v.needed-is) w.want-is
          ]
      | else-offset-gt0 w ↦
          elim w.else-offset-gt0.branch [
            | else-offset-gt0-via-then-offset-gt0+else-offset-le-FARTHEST v ↦
                counted (seen_skip s (omega arith) e (high _ v.if-offset-gt0.true v.if-offset-le-FARTHEST.false)) w.needed-is w.want-is
            | else-offset-gt0-via-else-offset-gt0 v ↦ counted (seen_skip s (omega arith) e (low _ v.if-offset-gt0.false)) w.needed-is w.want-is
          ]
    ]

pub returns : goal.returns
returns c = let s = c.loop-i.invariant.1 in sym s.many ∙ ap length (seen_all s c.loop-i-test.false)
