-- What a step finds at a place of a packet, and what it says of the places.
-- Assumes nothing.
use mathlib.Core.Path.{◌≡◌, refl, sym, ap, ◌∙◌}
use mathlib.Core.Bool.{Bool, true, false, ◌||◌, true≢false}
use mathlib.Core.List.{List, [], ◌∷◌, ◌++◌}
use Prim.Native.Nat.{ℕ, ◌+◌, ◌-◌, ◌<◌, ◌≤◌, min}
use native.Mathlib.Nat.{min-eq_left, min-eq_right, le_of_lt}
use native.Mathlib.Omega.{arith}
use borrow.Author.Tests.{lt-ltb, le-ltb, ltb-false}
use lib.ListN.{length, drop, length-drop, drop_of_length-le}
use Rattle.wire_model.specs.Refusal.{none, refuse, first, says}
use Rattle.wire.proofs.Reading.{accepted, none_both, none_holds}
use Rattle.packet_parts.specs.Fronts.{front_size, front_checks, size_read, rounded, left_checks}
use Rattle.packet_chunks.specs.Chunks.{chunk, finished, place_checks, spot, step_at}
use Rattle.packet_parts.proofs.Fronts.{size-told-refused, size-told, passed-front}

some_left : (bytes : List ℕ) → 0 < length bytes → left_checks bytes ≡ front_checks bytes
some_left [] h = absurd (omega arith)
some_left (b ∷ bytes) h = refl

some-spot : (end at : ℕ) (bytes : List ℕ) → 0 < length bytes → spot end at bytes ≡ chunk (at + front_size bytes) (min (at + rounded (front_size bytes)) end)
some-spot end at [] h = absurd (omega arith)
some-spot end at (b ∷ bytes) h = refl

module _ (packet : List ℕ) (at : ℕ) where
  pub step_below : at < 12 → says (refuse 11) finished ≡ step_at packet at
  unfolding step_at
  step_below h = rw (lt-ltb at 12 h)

  module _ (h : 12 ≤ at) where
    pub step_past : length packet < at → says (refuse 11) finished ≡ step_at packet at
    unfolding step_at
    step_past l = rw (le-ltb at 12 h, lt-ltb (length packet) at l)

    pub step_end : length packet ≡ at → says none finished ≡ step_at packet at
    unfolding step_at
    step_end e = rw (le-ltb at 12 h, le-ltb (length packet) at (omega arith), drop_of_length-le packet {i = at} (omega arith))

    module _ (l : at < length packet) where
      left-some : 0 < length (drop at packet)
      left-some = rw length-drop (omega arith)

      pub step-refused : {k : ℕ} → says (refuse k) 0 ≡ size_read (drop at packet) → says (refuse k) finished ≡ step_at packet at
      unfolding step_at
      step-refused e =
          rw (le-ltb at 12 h, le-ltb (length packet) at (le_of_lt l), some_left (drop at packet) left-some, size-told-refused (drop at packet) e)

      module _ {n padded : ℕ} (e : says none n ≡ size_read (drop at packet)) (r : padded ≡ rounded n) where
        step-chunk : says none (chunk (at + n) (min (at + padded) (length packet))) ≡ step_at packet at
        unfolding step_at
        step-chunk =
            let t = size-told (drop at packet) e in
            rw (le-ltb at 12 h, le-ltb (length packet) at (le_of_lt l), some_left (drop at packet) left-some, t.0, some-spot (length packet) at (drop at packet) left-some, r, t.1)

        -- a chunk of n bytes, and the place behind its padding
        pub step_within : at + padded ≤ length packet → says none (chunk (at + n) (at + padded)) ≡ step_at packet at
        step_within m = ap (λ (x : ℕ). says none (chunk (at + n) x)) (sym (min-eq_left m)) ∙ step-chunk

        -- or the end, where the padding lacks
        pub step-over : length packet < at + padded → says none (chunk (at + n) (length packet)) ≡ step_at packet at
        step-over m = ap (λ (x : ℕ). says none (chunk (at + n) x)) (sym (min-eq_right (le_of_lt m))) ∙ step-chunk

-- ── the places of a chunk ──

pub record Reached (packet : List ℕ) (at end next : ℕ) : Type 0 where
  pub begun : 12 ≤ at
  pub some : at + 4 ≤ end
  pub on : end ≤ next
  pub within : next ≤ length packet

either : (a b : Bool) → a || b ≡ false → (a ≡ false) × (b ≡ false)
either true b e = absurd (true≢false e)
either false b e = (refl, e)

-- a chunk that is found has its header, lies within the packet, and is followed by the next place
pub reached : (packet : List ℕ) (at : ℕ) {end next : ℕ} → says none (chunk end next) ≡ step_at packet at → Reached packet at end next
unfolding step_at rounded
reached packet at {end} {next} e =
    let t = accepted finished (spot (length packet) at (drop at packet)) (first (place_checks packet at ++ left_checks (drop at packet))) e in
    let b = none_both (place_checks packet at) (left_checks (drop at packet)) t.0 in
    let p = either _ _ (none_holds (place_checks packet at) b.0).0 in
    go (drop at packet) (length-drop at packet) (ltb-false _ _ p.0) (ltb-false _ _ p.1) b.1 t.1
  where
    go : (left : List ℕ) → length left ≡ length packet - at → 12 ≤ at → at ≤ length packet → first (left_checks left) ≡ none → chunk end next ≡ spot (length packet) at left → Reached packet at end next
    go [] l h m f s = let z : ◌≡◌ {A = ℕ} 0 1 = cc in absurd (omega arith)
    go (x ∷ left) l h m f s =
        let size = front_size (x ∷ left) in
        let q = passed-front (x ∷ left) f in
        let ends : end ≡ at + size = cc in
        let goes : next ≡ min (at + rounded size) (length packet) = cc in
        record { begun = h; some = omega arith; on = omega arith; within = omega arith }
