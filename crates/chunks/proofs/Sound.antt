-- What a sound message has.
-- Assumes nothing.
use mathlib.Core.Path.{◌≡◌, refl, ap}
use mathlib.Core.Bool.{Bool, true, false, ◌||◌, true≢false, cond}
use mathlib.Core.List.{List}
use Prim.Native.Nat.{ℕ, ◌≤◌}
use native.Mathlib.Omega.{arith}
use borrow.Author.Tests.{ltb-false}
use lib.Dec.{ltb, eqb}
use lib.ListN.{length}
use Rattle.wire_model.specs.Refusal.{none, refuse, Told, says}
use Rattle.chunks.specs.Message.{unsound, size, is_empty}
use Rattle.chunks.specs.declared.Chunks.{Chunks}

pub record Sound (m : Chunks) (buffer : List ℕ) : Type 0 where
  pub lent : m.size ≤ length buffer
  pub within : m.position ≤ m.size

either : (a b : Bool) → a || b ≡ false → (a ≡ false) × (b ≡ false)
either true b e = absurd (true≢false e)
either false b e = (refl, e)

pub sound : (m : Chunks) (buffer : List ℕ) → unsound m buffer ≡ false → Sound m buffer
unfolding unsound
sound m buffer e =
    let a = either (ltb (length buffer) m.size) _ e in
    record { lent = ltb-false _ _ a.0; within = ltb-false _ _ a.1 }

-- what is told of its size tells whether it is empty
pub empty_refused : (m : Chunks) (buffer : List ℕ) {k : ℕ} → says (refuse k) 0 ≡ size m buffer → says (refuse k) false ≡ is_empty m buffer
unfolding size is_empty
empty_refused m buffer {k} e = go (unsound m buffer) e
  where
    go : (b : Bool) → says (refuse k) 0 ≡ cond b (says (refuse 0) 0) (says none m.size) → says (refuse k) false ≡ cond b (says (refuse 0) false) (says none (eqb m.size 0))
    go true f = ap (λ (t : Told ℕ). says t.refusal false) f
    go false f = let g = ap (λ (t : Told ℕ). t.refusal) f in let z : ◌≡◌ {A = ℕ} 0 1 = cc in absurd (omega arith)

pub empty_counted : (m : Chunks) (buffer : List ℕ) {n : ℕ} → says none n ≡ size m buffer → says none (eqb n 0) ≡ is_empty m buffer
unfolding size is_empty
empty_counted m buffer {n} e = go (unsound m buffer) e
  where
    go : (b : Bool) → says none n ≡ cond b (says (refuse 0) 0) (says none m.size) → says none (eqb n 0) ≡ cond b (says (refuse 0) false) (says none (eqb m.size 0))
    go true f = let g = ap (λ (t : Told ℕ). t.refusal) f in let z : ◌≡◌ {A = ℕ} 0 1 = cc in absurd (omega arith)
    go false f = ap (λ (t : Told ℕ). says none (eqb t.values 0)) f
