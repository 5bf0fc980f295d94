-- The order of serial numbers inside an arc shorter than half the round: that of the places.
-- Assumes nothing.
use mathlib.Core.Path.{◌≡◌, refl, sym, ap, ◌∙◌}
use mathlib.Core.Bool.{true, false}
use Prim.Native.Nat.{ℕ, suc, ◌+◌, ◌-◌, ◌%◌, ◌^◌, ◌<◌, ◌≤◌}
use native.Mathlib.Nat.{mod-add-mod, add-mod_right}
use native.Mathlib.Decide.{dec_lt}
use native.Mathlib.Omega.{arith}
use lib.Dec.{ltb, eqb}
use borrow.Author.Tests.{lt-ltb, le-ltb, eq-eqb, ne_eqb}
use Rattle.serial_model.specs.Serial.{next, ahead, before}
use Rattle.serial_model.specs.Facts.{arc}
use Rattle.loose_fragments.specs.Loose.{previous}
use Rattle.arrival_plan.specs.Plan.{tsn_at}

-- ── TSNs, by their places in the arc ──

module _ (base : ℕ) where
  pub tsn-lt : (a b : ℕ) → a < b → b < 2 ^ 31 → before 32 (tsn_at base a) (tsn_at base b) ≡ true
  unfolding tsn_at
  tsn-lt a b h k = arc 31 base a b (omega arith) k ∙ lt-ltb a b h

  pub tsn_ge : (a b : ℕ) → b ≤ a → a < 2 ^ 31 → before 32 (tsn_at base a) (tsn_at base b) ≡ false
  unfolding tsn_at
  tsn_ge a b h k = arc 31 base a b k (omega arith) ∙ le-ltb a b h

  tsn_less : (a b : ℕ) → a < b → b < 2 ^ 31 → tsn_at base a ≡ tsn_at base b → ⊥
  tsn_less a b h k e =
      let p = tsn-lt a b h k in
      let q : before 32 (tsn_at base a) (tsn_at base b) ≡ false = rw e (tsn_ge b b (omega arith) k) in
      let r : true ≡ false = sym p ∙ q in
      let z : ◌≡◌ {A = ℕ} 0 1 = cc in
      omega arith

  pub tsn_other : (a b : ℕ) → (a ≡ b → ⊥) → a < 2 ^ 31 → b < 2 ^ 31 → eqb (tsn_at base a) (tsn_at base b) ≡ false
  tsn_other a b n h k = go (dec_lt a b)
    where
      go : Dec (a < b) → eqb (tsn_at base a) (tsn_at base b) ≡ false
      go (yes l) = ne_eqb (tsn_at base a) (tsn_at base b) (tsn_less a b l k)
      go (no l) = ne_eqb (tsn_at base a) (tsn_at base b) (λ e. tsn_less b a (omega arith) h (sym e))

  pub tsn-same : (a : ℕ) → eqb (tsn_at base a) (tsn_at base a) ≡ true
  tsn-same a = eq-eqb (tsn_at base a) (tsn_at base a) refl

  pub next-at : (a : ℕ) → next 32 (tsn_at base a) ≡ tsn_at base (suc a)
  unfolding tsn_at
  next-at a =
      let e : base + a + 1 ≡ base + suc a = omega arith in
      mod-add-mod (base + a) (2 ^ 32) 1 ∙ ap (λ (n : ℕ). n % 2 ^ 32) e

  pub previous-at : (a : ℕ) → previous (tsn_at base (suc a)) ≡ tsn_at base a
  unfolding tsn_at ahead
  previous-at a =
      let e : base + suc a + (2 ^ 32 - 1) ≡ base + a + 2 ^ 32 = omega arith in
      mod-add-mod (base + suc a) (2 ^ 32) (2 ^ 32 - 1) ∙ ap (λ (n : ℕ). n % 2 ^ 32) e ∙ add-mod_right (base + a) (2 ^ 32)

-- ── SSNs below half the round ──

before-ssn : (a b : ℕ) → a < 2 ^ 15 → b < 2 ^ 15 → before 16 a b ≡ ltb a b
before-ssn a b h k =
    let e : (0 + a) % 2 ^ 16 ≡ a = omega arith in
    let g : (0 + b) % 2 ^ 16 ≡ b = omega arith in
    rw (e, g) at (arc 15 0 a b h k)

pub ssn-lt : (a b : ℕ) → a < b → b < 2 ^ 15 → before 16 a b ≡ true
ssn-lt a b h k = before-ssn a b (omega arith) k ∙ lt-ltb a b h

pub ssn_ge : (a b : ℕ) → b ≤ a → a < 2 ^ 15 → before 16 a b ≡ false
ssn_ge a b h k = before-ssn a b k (omega arith) ∙ le-ltb a b h
