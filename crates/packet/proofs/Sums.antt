-- The checksum's field, and the common header in front of a packet.
-- Assumes nothing.
use mathlib.Core.Path.{◌≡◌, refl, sym, ap, ◌∙◌}
use mathlib.Core.List.{List, ◌++◌}
use Prim.Native.Nat.{ℕ, ◌-◌, ◌/◌, ◌<◌, ◌≤◌, ◌^◌}
use native.Mathlib.Omega.{arith}
use borrow.Author.Tests.{le-ltb, eq-eqb, ne_eqb}
use lib.ListN.{length, get_or, take, drop}
use lib.Seq.{take-take}
use Rattle.crc32c.specs.Crc.{through, all_ones, crc32c, little_endian}
use Rattle.crc32c.specs.Facts.{through-append}
use Rattle.wire_model.specs.BigEndian.{big_endian}
use Rattle.wire_model.specs.Refusal.{none, refuse, says}
use Rattle.wire_model.specs.Facts.{read_back}
use Rattle.wire.proofs.Reading.{Whole, whole-front, whole_is}
use Rattle.packet.specs.Layout.{Common, common, common_bytes, checksum}
use Rattle.packet.specs.Header.{summed_bytes, CommonFront, common_read}

-- ── a sum in three parts ──

pub in_parts : (a b c : List ℕ) {x y z : ℕ} → x ≡ through all_ones a → y ≡ through x b → z ≡ through y c → all_ones - z ≡ crc32c (a ++ (b ++ c))
in_parts a b c e f g = simp through-append (rw (g, f, e))

-- ── the field ──

-- four bytes are those of one sum alone
pub sum_back : {x y : ℕ} → x < 2 ^ 32 → y < 2 ^ 32 → little_endian 4 x ≡ little_endian 4 y → x ≡ y
unfolding little_endian
sum_back {x} {y} h l e =
    let at : (i : ℕ) → get_or (little_endian 4 x) i 0 ≡ get_or (little_endian 4 y) i 0 = λ i. ap (λ (bytes : List ℕ). get_or bytes i 0) e in
    let high : x / 256 / 256 / 256 ≡ y / 256 / 256 / 256 = omega (arith, at 3) in
    let more : x / 256 / 256 ≡ y / 256 / 256 = omega (arith, at 2) in
    let most : x / 256 ≡ y / 256 = omega (arith, at 1) in
    omega (arith, at 0)

-- ── the header in front ──

module _ {raw : List ℕ} (f : CommonFront raw) (long : 12 ≤ length raw) where
  pub common-whole : Whole raw (summed_bytes f.fields) 12
  unfolding common_bytes big_endian little_endian
  common-whole = record { long = long; sized = refl; begins = f.begins }

  -- with zeros in the field, it is the packet that is summed
  pub summed-is : crc32c (take 8 raw ++ (little_endian 4 0 ++ drop 12 raw)) ≡ checksum f.fields.common (drop 12 raw)
  unfolding checksum common_bytes big_endian little_endian
  summed-is = ap (λ (z : List ℕ). crc32c (z ++ (little_endian 4 0 ++ drop 12 raw))) (sym (take-take 8 12 raw (omega arith)) ∙ ap (take 8) (whole-front common-whole))

  -- what stands in the field, and what should: numbers whose big-endian bytes are the sums'
  module _ {sum right stands : ℕ} (right-fits : right < 2 ^ 32) (stands-fits : stands < 2 ^ 32) (sum_fits : sum < 2 ^ 32)
      (is_sum : sum ≡ crc32c (take 8 raw ++ (little_endian 4 0 ++ drop 12 raw))) (is_right : big_endian 4 right ≡ little_endian 4 sum) (is-stands : take 4 (drop 8 raw) ≡ big_endian 4 stands) where
    stands-is : big_endian 4 stands ≡ little_endian 4 f.fields.sum
    unfolding common_bytes big_endian little_endian
    stands-is = sym is-stands ∙ ap (λ (z : List ℕ). take 4 (drop 8 z)) (whole_is common-whole)

    should_be : sum ≡ checksum f.fields.common (drop 12 raw)
    should_be = is_sum ∙ summed-is

    pub sum_wrong : (stands ≡ right → ⊥) → says (refuse 14) (common 0 0 0) ≡ common_read raw f.fields
    unfolding common_read
    sum_wrong n =
        rw (
          le-ltb (length raw) 12 long,
          ne_eqb f.fields.sum (checksum f.fields.common (drop 12 raw)) (λ e.
              n (read_back 4 stands-fits right-fits (stands-is ∙ ap (little_endian 4) (e ∙ sym should_be) ∙ sym is_right))),
        )

    pub sum_right : stands ≡ right → {c : Common} → c ≡ f.fields.common → says none c ≡ common_read raw f.fields
    unfolding common_read
    sum_right e {c} same =
        rw (
          le-ltb (length raw) 12 long,
          eq-eqb f.fields.sum (checksum f.fields.common (drop 12 raw))
              (sum_back f.fits.sum sum_fits (sym stands-is ∙ ap (big_endian 4) e ∙ is_right) ∙ should_be),
        ) (ap (says none) same)
