-- A call that only looks refuses what is unsound, with 0, and nothing else.
-- Assumes nothing.
use mathlib.Core.Path.{◌≡◌, refl, ap}
use mathlib.Core.Bool.{Bool, true, false, cond}
use Prim.Native.Nat.{ℕ}
use native.Mathlib.Omega.{arith}
use Rattle.wire_model.specs.Refusal.{none, refuse, Told, says}

pub look_refused : (b : Bool) (v : ℕ) {k : ℕ} → says (refuse k) 0 ≡ cond b (says (refuse 0) 0) (says none v) → (b ≡ true) × (k ≡ 0)
look_refused true v e = let f = ap (λ (t : Told ℕ). t.refusal) e in (refl, cc)
look_refused false v e = let f = ap (λ (t : Told ℕ). t.refusal) e in let n : ◌≡◌ {A = ℕ} 0 1 = cc in absurd (omega arith)

pub look_is : (b : Bool) (v : ℕ) {n : ℕ} → says none n ≡ cond b (says (refuse 0) 0) (says none v) → b ≡ false
look_is true v e = let f = ap (λ (t : Told ℕ). t.refusal) e in let n : ◌≡◌ {A = ℕ} 0 1 = cc in absurd (omega arith)
look_is false v e = refl
