-- What zeros make of a register, gathered from what they make of each of its bits, the highest first.
-- Assumes nothing.
use mathlib.Core.Path.{◌≡◌, refl, sym, ap, ap₂, ◌∙◌}
use Prim.Native.Nat.{ℕ, zero, suc, ◌+◌, ◌*◌, ◌/◌, ◌%◌, ◌^◌, ◌<◌, ◌≤◌}
use native.Mathlib.Nat.{mul-mod_left, mod-lt, pow-suc, mul_assoc}
use native.Mathlib.Numerals.{add-one}
use native.Mathlib.Omega.{arith}
use lib.Bits.{bit_xor, xor_zero_r, xor_shifted, xor_lt}
use Rattle.crc32c_table.specs.Crc.{polynomial, bit_step, bit_steps}
use Rattle.crc32c_table.proofs.Linear.{xor_assoc, step_even, steps_sum}

steps_nothing : (k : ℕ) → bit_steps k 0 ≡ 0
unfolding bit_step bit_steps
steps_nothing zero = refl
steps_nothing (suc k) = steps_nothing k

step-last : (k x : ℕ) → bit_steps (suc k) x ≡ bit_step (bit_steps k x)
unfolding bit_steps
step-last zero x = refl
step-last (suc k) x = step-last k (bit_step x)

step-first : (k x : ℕ) → bit_steps (suc k) x ≡ bit_steps k (bit_step x)
unfolding bit_steps
step-first k x = refl

step_fits : (x : ℕ) → x < 2 ^ 32 → bit_step x < 2 ^ 32
unfolding bit_step
step_fits x h = xor_lt 32 (x % 2 * polynomial) (x / 2) (omega arith) (omega arith)

-- the highest bit, and the others moved up
top : (k rest : ℕ) {bit : ℕ} → rest < 2 ^ 32 → bit ≡ bit_steps k (2 ^ 31) → bit_xor (rest / 2 ^ 31 * bit) (bit_steps (suc k) (rest * 2 % 2 ^ 32)) ≡ bit_steps k rest
top k rest {bit} h e =
    let up : rest * 2 % 2 ^ 32 ≡ rest % 2 ^ 31 * 2 = omega arith in
    let parts : rest / 2 ^ 31 * 2 ^ 31 + rest % 2 ^ 31 ≡ rest = omega arith in
    ap₂ bit_xor (high (rest / 2 ^ 31) (omega arith)) (ap (bit_steps (suc k)) up ∙ step-first k (rest % 2 ^ 31 * 2) ∙ ap (bit_steps k) (step_even (rest % 2 ^ 31)))
    ∙ sym (steps_sum k (rest / 2 ^ 31 * 2 ^ 31) (rest % 2 ^ 31))
    ∙ ap (bit_steps k) (xor_shifted (rest / 2 ^ 31) 31 (rest % 2 ^ 31) (omega arith) ∙ parts)
  where
    high : (b : ℕ) → b < 2 → b * bit ≡ bit_steps k (b * 2 ^ 31)
    high zero l = let z : 0 * bit ≡ 0 = omega arith in z ∙ sym (steps_nothing k)
    high (suc zero) l = let o : 1 * bit ≡ bit = omega arith in o ∙ e
    high (suc (suc b)) l = absurd (omega arith)

-- after i bits: the rest still to gather, moved up, and what the zeros make of the next bit
pub record Gathered (register far sum rest bit i : ℕ) : Type 0 where
  pub within : i ≤ 32
  pub fits : rest < 2 ^ 32
  pub bit_fits : bit < 2 ^ 32
  pub moved : rest ≡ register * 2 ^ i % 2 ^ 32
  pub next : (k : ℕ) → far ≡ bit_steps k (2 ^ 31) → bit ≡ bit_steps (k + i) (2 ^ 31)
  pub is : (k : ℕ) → far ≡ bit_steps k (2 ^ 31) → bit_xor sum (bit_steps (k + i) rest) ≡ bit_steps k register

module _ {register far sum rest bit i : ℕ} (g : Gathered register far sum rest bit i) where
  pub gather_turn : {bit' : ℕ} → i < 32 → bit' ≡ bit_step bit → Gathered register far (bit_xor sum (rest / 2 ^ 31 * bit)) (rest * 2 % 2 ^ 32) bit' (i + 1)
  gather_turn {bit'} h b =
      let twice : register * 2 ^ (i + 1) ≡ register * 2 ^ i * 2 = rw (add-one, pow-suc) (sym (mul_assoc register (2 ^ i) 2)) in
      record {
        within = omega arith;
        fits = mod-lt (rest * 2) (omega arith);
        bit_fits = rw b (step_fits bit g.bit_fits);
        moved = rw twice (omega (arith, g.moved));
        next = λ k e. let s : k + (i + 1) ≡ suc (k + i) = omega arith in rw s (b ∙ ap bit_step (g.next k e) ∙ sym (step-last (k + i) (2 ^ 31)));
        is = λ k e.
            let s : k + (i + 1) ≡ suc (k + i) = omega arith in
            rw s (xor_assoc sum (rest / 2 ^ 31 * bit) (bit_steps (suc (k + i)) (rest * 2 % 2 ^ 32)) ∙ ap (bit_xor sum) (top (k + i) rest g.fits (g.next k e)) ∙ g.is k e);
      }

  pub gather_end : 32 ≤ i → (k : ℕ) → far ≡ bit_steps k (2 ^ 31) → sum ≡ bit_steps k register
  gather_end h k e =
      let all : i ≡ 32 = omega (arith, g.within) in
      let empty : rest ≡ 0 = g.moved ∙ rw all (mul-mod_left register (2 ^ 32)) in
      sym (xor_zero_r sum) ∙ ap (bit_xor sum) (sym (steps_nothing (k + i)) ∙ ap (bit_steps (k + i)) (sym empty)) ∙ g.is k e
