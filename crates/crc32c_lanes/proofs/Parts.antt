-- Registers of parts, made one: bytes behind others add what they make of an empty register to what zeros make of the register so far.
-- Assumes nothing.
use mathlib.Core.Path.{◌≡◌, refl, sym, ap, ap₂, ◌∙◌}
use mathlib.Core.List.{List, [], ◌∷◌, ◌++◌}
use Prim.Native.Nat.{ℕ, zero, suc, ◌+◌, ◌-◌, ◌*◌, ◌^◌, ◌≤◌}
use native.Mathlib.Nat.{suc-add}
use native.Mathlib.Omega.{arith}
use lib.Bits.{bit_xor, xor_zero_r}
use lib.ListN.{length, replicate, take, drop, length-drop, take-append-drop}
use lib.Seq.{take-add, take_all, length-take-le}
use Rattle.crc32c_table.specs.Crc.{bit_step, bit_steps, byte_step, through}
use Rattle.crc32c_lanes.specs.Parts.{Quarters, AfterZeros}
use Rattle.crc32c_table.specs.Facts.{through-append}
use Rattle.crc32c_table.proofs.Linear.{xor_swap, steps_sum}

steps_add : (a b x : ℕ) → bit_steps a (bit_steps b x) ≡ bit_steps (b + a) x
unfolding bit_steps
steps_add a zero x = let e : 0 + a ≡ a = omega arith in rw e
steps_add a (suc b) x = rw suc-add (steps_add a b (bit_step x))

eight_more : (m x : ℕ) → bit_steps (8 * m) (bit_steps 8 x) ≡ bit_steps (8 * suc m) x
eight_more m x = let e : 8 + 8 * m ≡ 8 * suc m = omega arith in steps_add (8 * m) 8 x ∙ ap (λ (k : ℕ). bit_steps k x) e

-- zeros go through
pub through-zeros : (m register : ℕ) → through register (replicate m 0) ≡ bit_steps (8 * m) register
unfolding through byte_step bit_steps
through-zeros zero register = refl
through-zeros (suc m) register = through-zeros m (bit_steps 8 register) ∙ eight_more m register

-- bytes go through a sum: zeros through the one term, the bytes through the other
through-sum : (a b : ℕ) (bytes : List ℕ) → through (bit_xor a b) bytes ≡ bit_xor (bit_steps (8 * length bytes) a) (through b bytes)
unfolding through byte_step bit_steps
through-sum a b [] = refl
through-sum a b (x ∷ bytes) =
    ap (λ (r : ℕ). through r bytes) (ap (bit_steps 8) (xor_swap 0 x a b) ∙ steps_sum 8 a (bit_xor x b))
    ∙ through-sum (bit_steps 8 a) (bit_steps 8 (bit_xor x b)) bytes
    ∙ ap (λ (r : ℕ). bit_xor r (through (bit_steps 8 (bit_xor x b)) bytes)) (eight_more (length bytes) a)

-- a part goes behind what is there
joined : (register : ℕ) (front part : List ℕ) {moved end : ℕ} → moved ≡ bit_steps (8 * length part) (through register front) → end ≡ through 0 part
    → bit_xor moved end ≡ through register (front ++ part)
joined register front part e f =
    ap₂ bit_xor e f ∙ sym (through-sum (through register front) 0 part)
    ∙ ap (λ (r : ℕ). through r part) (xor_zero_r (through register front)) ∙ sym (through-append register front part)

module _ (register : ℕ) (bytes : List ℕ) where
  -- a part of m bytes goes behind what is there
  grown : (p q m : ℕ) {far so_far moved end : ℕ} → p + m ≡ q → q ≤ length bytes → so_far ≡ through register (take p bytes) → far ≡ bit_steps (8 * m) (2 ^ 31) → AfterZeros far so_far moved
      → end ≡ through 0 (take m (drop p bytes)) → bit_xor moved end ≡ through register (take q bytes)
  grown p q m e h s f w d =
      let long : length (take m (drop p bytes)) ≡ m = length-take-le m (drop p bytes) (rw length-drop (omega arith)) in
      joined register (take p bytes) (take m (drop p bytes)) (w.left (8 * m) f ∙ ap₂ (λ (n r : ℕ). bit_steps (8 * n) r) (sym long) s) d
      ∙ ap (through register) (sym (take-add p m bytes) ∙ ap (λ (n : ℕ). take n bytes) e)

  -- four parts, one behind the other, and what is left
  pub quarters : (m : ℕ) {a b c d far x y z r : ℕ} → Quarters register bytes m a b c d far → AfterZeros far a x → AfterZeros far (bit_xor x b) y → AfterZeros far (bit_xor y c) z
      → r ≡ through (bit_xor z d) (take (length bytes - 4 * m) (drop (4 * m) bytes)) → 4 * m ≤ length bytes → r ≡ through register bytes
  quarters m q u v w f h =
      let two = grown m (2 * m) m (omega arith) (omega arith) q.first q.zeros u q.second in
      let three = grown (2 * m) (3 * m) m (omega arith) (omega arith) two q.zeros v q.third in
      let four = grown (3 * m) (4 * m) m (omega arith) (omega arith) three q.zeros w q.fourth in
      f ∙ ap₂ through four (take_all (length bytes - 4 * m) (drop (4 * m) bytes) (rw length-drop (omega arith)))
      ∙ sym (through-append register (take (4 * m) bytes) (drop (4 * m) bytes)) ∙ ap (through register) (take-append-drop (4 * m) bytes)
