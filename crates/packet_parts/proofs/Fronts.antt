-- The header that bytes begin with, as they stand, is the one in front of them; and what a step finds at a place.
-- Assumes nothing.
use mathlib.Core.Path.{◌≡◌, refl, sym, ap}
use mathlib.Core.List.{List, [], ◌∷◌}
use Prim.Native.Nat.{ℕ, ◌+◌, ◌*◌, ◌/◌, ◌%◌, ◌<◌, ◌≤◌}
use native.Mathlib.Omega.{arith}
use borrow.Author.Tests.{eq-eqb, le-ltb}
use lib.ListN.{length, get_or, take}
use lib.Seq.{take-nil}
use Rattle.wire_model.specs.BigEndian.{big_endian}
use Rattle.wire_model.specs.Refusal.{none, refuse, first, says}
use Rattle.wire.proofs.Exists.{Bytes}
use Rattle.wire.proofs.Reading.{first-passed, refused, accepted}
use Rattle.chunk.specs.Layout.{HeaderFits, header_bytes}
use Rattle.chunk.specs.Header.{HeaderFront, kind_only}
use Rattle.chunk.proofs.Headers.{passes}
use Rattle.packet_parts.specs.Fronts.{front_header, front_size, front_checks, size_read}

-- ── the header in front ──

first_four : (raw : List ℕ) → take 4 raw ≡ take (length raw) (get_or raw 0 0 ∷ get_or raw 1 0 ∷ get_or raw 2 0 ∷ get_or raw 3 0 ∷ [])
first_four [] = refl
first_four (a ∷ []) = refl
first_four (a ∷ b ∷ []) = refl
first_four (a ∷ b ∷ c ∷ []) = refl
first_four (a ∷ b ∷ c ∷ d ∷ raw) = ap (λ (l : List ℕ). a ∷ b ∷ c ∷ d ∷ l) (sym (take-nil (length raw)))

four_bytes : (a b c d : ℕ) → a < 256 → b < 256 → c < 256 → d < 256
    → ◌≡◌ {A = List ℕ} (a % 256 ∷ b % 256 ∷ (c * 256 + d) / 256 % 256 ∷ (c * 256 + d) % 256 ∷ []) (a ∷ b ∷ c ∷ d ∷ [])
four_bytes a b c d ha hb hc hd =
    let ea : a % 256 ≡ a = omega arith in
    let eb : b % 256 ≡ b = omega arith in
    let ec : (c * 256 + d) / 256 % 256 ≡ c = omega arith in
    let ed : (c * 256 + d) % 256 ≡ d = omega arith in
    rw (ea, eb, ec, ed)

header_is : (raw : List ℕ) → Bytes raw → header_bytes (front_header raw) ≡ get_or raw 0 0 ∷ get_or raw 1 0 ∷ get_or raw 2 0 ∷ get_or raw 3 0 ∷ []
unfolding big_endian header_bytes front_header
header_is raw by = four_bytes (get_or raw 0 0) (get_or raw 1 0) (get_or raw 2 0) (get_or raw 3 0) (by 0) (by 1) (by 2) (by 3)

size_fits : (raw : List ℕ) → Bytes raw → front_size raw < 65536
unfolding front_header
size_fits raw by = omega (arith, by 2, by 3)

pub header_fits : (raw : List ℕ) → Bytes raw → HeaderFits (front_header raw)
unfolding front_header
header_fits raw by = record { kind = by 0; flags = by 1; size = size_fits raw by }

pub header-begins : (raw : List ℕ) → Bytes raw → take 4 raw ≡ take (length raw) (header_bytes (front_header raw))
header-begins raw by = rw (header_is raw by) (first_four raw)

abbrev pub header-there : (raw : List ℕ) → Bytes raw → HeaderFront raw
header-there raw by = record { fields = front_header raw; fits = header_fits raw by; begins = header-begins raw by }

-- ── the size of the chunk in front ──

module _ (raw : List ℕ) where
  pub size-refused : {k : ℕ} → first (front_checks raw) ≡ refuse k → says (refuse k) 0 ≡ size_read raw
  unfolding size_read
  size-refused e = rw e

  pub size-taken : first (front_checks raw) ≡ none → says none (front_size raw) ≡ size_read raw
  unfolding size_read
  size-taken e = rw e

  -- and what it says of the checks
  pub size-told-refused : {k : ℕ} → says (refuse k) 0 ≡ size_read raw → first (front_checks raw) ≡ refuse k
  unfolding size_read
  size-told-refused e = refused 0 (front_size raw) (first (front_checks raw)) e

  pub size-told : {n : ℕ} → says none n ≡ size_read raw → (first (front_checks raw) ≡ none) × (n ≡ front_size raw)
  unfolding size_read
  size-told e = accepted 0 (front_size raw) (first (front_checks raw)) e

  -- it has its header, and lies within the bytes
  pub passed-front : first (front_checks raw) ≡ none → (4 ≤ front_size raw) × (front_size raw ≤ length raw)
  passed-front e =
      let h = front_header raw in
      let p = passes h.kind 0 0 (length raw) h (rw (first-passed (front_checks raw) (kind_only h.kind 0 0 h) e, eq-eqb h.kind h.kind refl, le-ltb h.size 0 (omega arith))) in
      (p.four, p.within)
