-- Existence: whatever bytes are lent, a common header stands at their front, so the promise about the fields in front says something of every input.
-- Assumes nothing.
use mathlib.Core.Path.{◌≡◌, refl, sym}
use mathlib.Core.List.{List, [], ◌∷◌}
use Prim.Native.Nat.{ℕ, zero, suc, ◌+◌, ◌*◌, ◌/◌, ◌%◌, ◌^◌, ◌<◌, ◌≤◌}
use native.Mathlib.Nat.{pow-suc, mul-le-mul_left}
use native.Mathlib.Omega.{arith}
use lib.ListN.{length, take, drop, length-drop}
use lib.Seq.{length-take-le}
use Rattle.crc32c.specs.Crc.{little_endian}
use Rattle.wire.proofs.Exists.{Bytes, piece, cut, bytes_drop, padded, padded-long, padded-bytes, unpadded}
use Rattle.packet.specs.Layout.{common, common_bytes}
use Rattle.packet.specs.Header.{Summed, SummedFits, summed_bytes, CommonFront}
use Rattle.packet_marshal.proofs.Packets.{common-length}

-- ── the number of bytes with the lowest first ──

little : List ℕ → ℕ
little [] = 0
little (b ∷ bytes) = b + 256 * little bytes

little_is : (bytes : List ℕ) → Bytes bytes → little_endian (length bytes) (little bytes) ≡ bytes
unfolding little little_endian
little_is [] by = refl
little_is (b ∷ bytes) by =
    let low : (b + 256 * little bytes) % 256 ≡ b = omega (arith, by 0) in
    let high : (b + 256 * little bytes) / 256 ≡ little bytes = omega (arith, by 0) in
    rw (low, high, little_is bytes (λ i. by (suc i)))

little_lt : (bytes : List ℕ) → Bytes bytes → little bytes < 256 ^ length bytes
unfolding little
little_lt [] by = omega arith
little_lt (b ∷ bytes) by =
    let more : little bytes + 1 ≤ 256 ^ length bytes = omega (arith, little_lt bytes (λ i. by (suc i))) in
    let m = mul-le-mul_left 256 more in
    rw pow-suc (omega (arith, by 0, m))

bytes_take : (n : ℕ) (raw : List ℕ) → Bytes raw → Bytes (take n raw)
bytes_take zero raw by i = omega arith
bytes_take (suc n) [] by i = omega arith
bytes_take (suc n) (a ∷ raw) by zero = by 0
bytes_take (suc n) (a ∷ raw) by (suc i) = bytes_take n raw (λ j. by (suc j)) i

-- ── the header ──

common-laid : (raw : List ℕ) → Bytes raw → 12 ≤ length raw → (s : Summed) × SummedFits s × (take 12 raw ≡ summed_bytes s)
unfolding common_bytes
common-laid raw by h =
    let p = piece raw by 2 (omega arith) in
    let by₂ = bytes_drop raw 2 by in
    let q = piece (drop 2 raw) by₂ 2 (rw length-drop (omega arith)) in
    let by₄ = bytes_drop (drop 2 raw) 2 by₂ in
    let r = piece (drop 2 (drop 2 raw)) by₄ 4 (simp length-drop (omega arith)) in
    let left = drop 4 (drop 2 (drop 2 raw)) in
    let field = take 4 left in
    let by₈ = bytes_take 4 left (bytes_drop (drop 2 (drop 2 raw)) 4 by₄) in
    let four : length field ≡ 4 = length-take-le 4 left (simp length-drop (omega arith)) in
    let is : little_endian 4 (little field) ≡ field = rw four at (little_is field by₈) in
    let less : little field < 256 ^ 4 = rw four at (little_lt field by₈) in (
      record { common = common p.value q.value r.value; sum = little field },
      record { common = record { source = p.fits; destination = q.fits; tag = r.fits }; sum = less },
      cut raw 2 10 p (cut (drop 2 raw) 2 8 q (cut (drop 2 (drop 2 raw)) 4 4 r (sym is))),
    )

pub common-some : (raw : List ℕ) → Bytes raw → CommonFront raw
common-some raw by =
    let (s, fits, is) = common-laid (padded 12 raw) (padded-bytes 12 raw by) (padded-long 12 raw) in
    record { fields = s; fits = fits; begins = unpadded 12 raw (common-length s.common s.sum) is }
