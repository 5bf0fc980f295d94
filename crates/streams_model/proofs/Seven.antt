-- A number below 8 that is none of 0 to 6 is 7.
-- Assumes nothing.
use mathlib.Core.Path.{◌≡◌}
use Prim.Native.Nat.{ℕ, ◌+◌, ◌<◌, ◌≤◌}
use native.Mathlib.Omega.{arith}

at_least : (n : ℕ) → 0 ≤ n
at_least n = omega arith

past : (k n : ℕ) → k ≤ n → (n ≡ k → ⊥) → k + 1 ≤ n
past k n h e = omega arith

pub seven : (n : ℕ) → n < 8 → (n ≡ 0 → ⊥) → (n ≡ 1 → ⊥) → (n ≡ 2 → ⊥) → (n ≡ 3 → ⊥) → (n ≡ 4 → ⊥) → (n ≡ 5 → ⊥) → (n ≡ 6 → ⊥) → n ≡ 7
seven n h a b c d e f g =
    let one = past 0 n (at_least n) a in
    let two = past 1 n one b in
    let three = past 2 n two c in
    let four = past 3 n three d in
    let five = past 4 n four e in
    let six = past 5 n five f in
    let most = past 6 n six g in
    last most h
  where
    last : 7 ≤ n → n < 8 → n ≡ 7
    last x y = omega arith
