-- The fewest digits that hold a number are its decimal ones, and are what std writes.
-- Assumes nothing.
use Rattle.std.proofs.Common.{◌≡◌, refl, ap, List, [], ◌∷◌, ◌++◌, ℕ, zero, suc, ◌+◌, ◌-◌, ◌*◌, ◌/◌, ◌%◌, ◌^◌, ◌<◌, ◌≤◌, length, arith}
use Rattle.std.specs.Fmt.{decimal}
use Rattle.std.proofs.lemmas.Fmt.{AppendsLastDigit, decimal_from_appends_wide, length-decimal-le}
use Rattle.io.specs.Digits.{hex_digit_ascii, last_digits, IsDigitCount}
use native.Mathlib.Decide.{dec_le}
use native.Mathlib.Nat.{pow-suc, one-le-pow, pow-le-pow_right}
use borrow.Author.Tests.{lt-ltb, le-ltb}
use Rattle.replay_words.specs.Lines.{spelled}

digit : (n : ℕ) → hex_digit_ascii (n % 10) ≡ 48 + n % 10
digit n = rw (lt-ltb (n % 10) 10 (omega arith))

-- with two digits and more: the last one, and those in front of it are those of a tenth
module _ (n k : ℕ) (f : IsDigitCount 10 1 n (suc (suc k))) where
  low : 10 ^ k * 10 ≤ n
  low =
      let one : suc (suc k) - 1 ≡ suc k = omega arith in
      rw (← (pow-suc 10 k)) (rw one at (f.2 (omega arith)))

  high : n < 10 ^ suc k * 10
  high = rw (← (pow-suc 10 (suc k))) f.1

  ten : 10 ≤ n
  ten = omega (arith, low, one-le-pow k 10 (omega arith))

  shorter : IsDigitCount 10 1 (n / 10) (suc k)
  shorter =
      let one : suc k - 1 ≡ k = omega arith in
      (omega arith, omega (arith, high), λ _. rw one (omega (arith, low)))

pub spells : (j k n : ℕ) → k ≤ j → IsDigitCount 10 1 n k → last_digits 10 k n ≡ spelled j n
unfolding spelled
spells zero zero n h f = refl
spells zero (suc k) n h f = absurd (omega arith)
spells (suc j) zero n h f = absurd (omega (arith, f.0))
spells (suc j) (suc zero) n h f =
    let l : n < 10 = omega (arith, f.1) in
    let same : n % 10 ≡ n = omega arith in
    rw (digit n, lt-ltb n 10 l, same)
spells (suc j) (suc (suc k)) n h f =
    rw (digit n, le-ltb n 10 (ten n k f)) (ap (λ (l : List ℕ). l ++ ((48 + n % 10) ∷ [])) (spells j (suc k) (n / 10) (omega arith) (shorter n k f)))

-- a number of 64 bits has at most 20
pub few : (n k : ℕ) → n < 2 ^ 64 → IsDigitCount 10 1 n k → k ≤ 20
few n k h f = go (dec_le k 20)
  where
    go : Dec (k ≤ 20) → k ≤ 20
    go (yes l) = l
    go (no l) =
        let more : 10 ^ 20 ≤ 10 ^ (k - 1) = pow-le-pow_right {n = 10} (omega arith) {i = 20} {j = k - 1} (omega arith) in
        let low : 10 ^ (k - 1) ≤ n = f.2 (omega arith) in
        absurd (omega arith)

-- the same of std's digits

last_digit : AppendsLastDigit spelled
unfolding spelled
last_digit = record { one = λ k n h. rw (lt-ltb n 10 h); more = λ k n h. rw (le-ltb n 10 h) }

pub spells-decimal : (j n : ℕ) → n < 10 ^ 64 → length (decimal n) ≤ j → spelled j n ≡ decimal n
spells-decimal = decimal_from_appends_wide spelled last_digit

pub few-decimal : (n : ℕ) → n < 2 ^ 64 → length (decimal n) ≤ 20
few-decimal n h = length-decimal-le 20 n (omega arith) (omega arith) h
