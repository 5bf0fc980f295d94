-- A number whose bytes stand the other way round.
-- Assumes nothing.
use mathlib.Core.Path.{◌≡◌, ap, ◌∙◌}
use mathlib.Core.List.{[], ◌∷◌}
use Prim.Native.Nat.{ℕ, ◌+◌, ◌*◌, ◌/◌, ◌%◌, ◌<◌, ◌^◌}
use native.Mathlib.Nat.{mod-eq_of_lt}
use native.Mathlib.Omega.{arith}
use Rattle.crc32c.specs.Crc.{little_endian}
use Rattle.wire_model.specs.BigEndian.{big_endian}
use Rattle.wire_model.specs.Facts.{big_endian-more}

one : (a : ℕ) → a < 256 → big_endian 1 a ≡ a ∷ []
unfolding big_endian
one a h = ap (λ (x : ℕ). x ∷ []) (mod-eq_of_lt h)

four : (a b c d : ℕ) → a < 256 → b < 256 → c < 256 → d < 256 → big_endian 4 (((a * 256 + b) * 256 + c) * 256 + d) ≡ a ∷ b ∷ c ∷ d ∷ []
four a b c d ha hb hc hd =
    big_endian-more 3 ((a * 256 + b) * 256 + c) d hd
    ∙ rw (big_endian-more 2 (a * 256 + b) c hc, big_endian-more 1 a b hb, one a ha)

-- the bytes of a number, the other way round
pub mirrored : (x : ℕ) → x < 2 ^ 32 → (let b = x / 256 in let c = b / 256 in let d = c / 256 in big_endian 4 (((x % 256 * 256 + b % 256) * 256 + c % 256) * 256 + d) ≡ little_endian 4 x)
unfolding little_endian
mirrored x h =
    let b = x / 256 in
    let c = b / 256 in
    let d = c / 256 in
    let last : d % 256 ≡ d = omega arith in
    rw last (four (x % 256) (b % 256) (c % 256) d (omega arith) (omega arith) (omega arith) (omega arith))
