-- Bits that go out of a sum without carries go out of its terms: so eight bits of a register are a table's entry and the rest of the register.
-- Assumes nothing.
use mathlib.Core.Path.{◌≡◌, refl, sym, ap, ap₂, ◌∙◌}
use Prim.Native.Nat.{ℕ, zero, suc, ◌+◌, ◌*◌, ◌/◌, ◌%◌, ◌^◌, ◌<◌}
use native.Mathlib.Nat.{mod-lt, pow-suc, mul_assoc, zero-mul, one-mul}
use native.Mathlib.Omega.{arith}
use lib.Arith.{bin_ind}
use lib.Pow.{split, pow_pos}
use lib.Bits.{bit_xor, differ, xor_step, xor_comm, xor_shr, xor_mod, xor_shifted, xor_zero_r, xor_self}
use Rattle.crc32c_table.specs.Crc.{polynomial, bit_step, bit_steps, byte_step}

-- ── a sum without carries ──

-- what holds of 0 and of 1 holds of every bit
bit : (P : ℕ → Type 0) → P 0 → P 1 → (n : ℕ) → P (n % 2)
bit P p q n = go (n % 2) (mod-lt n (omega arith))
  where
    go : (x : ℕ) → x < 2 → P x
    go zero h = p
    go (suc zero) h = q
    go (suc (suc x)) h = absurd (omega arith)

bits : (P : ℕ → ℕ → ℕ → Type 0) → P 0 0 0 → P 0 0 1 → P 0 1 0 → P 0 1 1 → P 1 0 0 → P 1 0 1 → P 1 1 0 → P 1 1 1 → (a b c : ℕ) → P (a % 2) (b % 2) (c % 2)
bits P p q r s t u v w a b c =
    bit (λ x. P x (b % 2) (c % 2)) (bit (λ y. P 0 y (c % 2)) (bit (P 0 0) p q c) (bit (P 0 1) r s c) b)
    (bit (λ y. P 1 y (c % 2)) (bit (P 1 0) t u c) (bit (P 1 1) v w c) b) a

bits_assoc : (a b c : ℕ) → differ (bit_xor (a % 2) (b % 2)) (c % 2) ≡ differ (a % 2) (bit_xor (b % 2) (c % 2))
bits_assoc a b c = bits (λ x y z. differ (bit_xor x y) z ≡ differ x (bit_xor y z)) refl refl refl refl refl refl refl refl a b c

pub xor_assoc : (a b c : ℕ) → bit_xor (bit_xor a b) c ≡ bit_xor a (bit_xor b c)
xor_assoc a =
    bin_ind (λ (n : ℕ). (b c : ℕ) → bit_xor (bit_xor n b) c ≡ bit_xor n (bit_xor b c)) (λ b c. refl)
    (λ n ih b c. xor_step (bit_xor n b) c
    ∙ ap₂ (λ (x y : ℕ). bit_xor x (c / 2) * 2 + differ y (c % 2)) (xor_shr n b 1) (xor_mod n b 1)
    ∙ ap₂ (λ (x y : ℕ). x * 2 + y) (ih (b / 2) (c / 2)) (bits_assoc n b c)
    ∙ ap₂ (λ (x y : ℕ). bit_xor (n / 2) x * 2 + differ (n % 2) y) (sym (xor_shr b c 1)) (sym (xor_mod b c 1))
    ∙ sym (xor_step n (bit_xor b c))) a

pub xor_swap : (a b c d : ℕ) → bit_xor (bit_xor a b) (bit_xor c d) ≡ bit_xor (bit_xor a c) (bit_xor b d)
xor_swap a b c d =
    xor_assoc a b (bit_xor c d)
    ∙ ap (bit_xor a) (sym (xor_assoc b c d) ∙ ap (λ (x : ℕ). bit_xor x d) (xor_comm b c) ∙ xor_assoc c b d)
    ∙ sym (xor_assoc a c (bit_xor b d))

-- ── bits go out ──

-- the polynomial added for the sum of two bits is what is added for each
bits_times : (p a b : ℕ) → bit_xor (a % 2) (b % 2) * p ≡ bit_xor (a % 2 * p) (b % 2 * p)
bits_times p a b =
    bit (λ x. bit_xor x (b % 2) * p ≡ bit_xor (x * p) (b % 2 * p))
    (rw zero-mul)
    (bit (λ y. bit_xor 1 y * p ≡ bit_xor (1 * p) (y * p)) (rw (zero-mul, one-mul, xor_zero_r)) (rw (zero-mul, one-mul, xor_self)) b)
    a

step_sum : (a b : ℕ) → bit_step (bit_xor a b) ≡ bit_xor (bit_step a) (bit_step b)
unfolding bit_step
step_sum a b =
    ap₂ (λ (x y : ℕ). bit_xor (x * polynomial) y) (xor_mod a b 1) (xor_shr a b 1)
    ∙ ap (λ (x : ℕ). bit_xor x (bit_xor (a / 2) (b / 2))) (bits_times polynomial a b)
    ∙ xor_swap (a % 2 * polynomial) (b % 2 * polynomial) (a / 2) (b / 2)

pub steps_sum : (k a b : ℕ) → bit_steps k (bit_xor a b) ≡ bit_xor (bit_steps k a) (bit_steps k b)
unfolding bit_steps
steps_sum zero a b = refl
steps_sum (suc k) a b = ap (bit_steps k) (step_sum a b) ∙ steps_sum k (bit_step a) (bit_step b)

-- a bit that is 0 goes out and leaves the half
pub step_even : (a : ℕ) → bit_step (a * 2) ≡ a
unfolding bit_step
step_even a =
    let low : a * 2 % 2 ≡ 0 = omega arith in
    let high : a * 2 / 2 ≡ a = omega arith in
    rw (low, high)

steps_high : (k a : ℕ) → bit_steps k (a * 2 ^ k) ≡ a
unfolding bit_steps
steps_high zero a = omega arith
steps_high (suc k) a = rw (pow-suc 2 k, ← mul_assoc, step_even) (steps_high k a)

-- k bits go out: those of the k low ones, and the rest, moved down
pub steps_split : (k a : ℕ) → bit_steps k a ≡ bit_xor (a / 2 ^ k) (bit_steps k (a % 2 ^ k))
steps_split k a =
    ap (bit_steps k) (sym (split a k) ∙ sym (xor_shifted (a / 2 ^ k) k (a % 2 ^ k) (mod-lt a (pow_pos k))))
    ∙ steps_sum k (a / 2 ^ k * 2 ^ k) (a % 2 ^ k)
    ∙ ap (λ (x : ℕ). bit_xor x (bit_steps k (a % 2 ^ k))) (steps_high k (a / 2 ^ k))

-- a byte goes in: the rest of the register, and the entry for its low byte with the new one
pub byte_split : (register byte : ℕ) → byte < 256 → byte_step register byte ≡ bit_xor (register / 256) (bit_steps 8 (bit_xor byte register % 256))
unfolding byte_step
byte_split register byte h =
    let none : byte / 256 ≡ 0 = omega arith in
    steps_split 8 (bit_xor byte register)
    ∙ ap (λ (x : ℕ). bit_xor x (bit_steps 8 (bit_xor byte register % 256))) (xor_shr byte register 8 ∙ ap (λ (x : ℕ). bit_xor x (register / 256)) none)
