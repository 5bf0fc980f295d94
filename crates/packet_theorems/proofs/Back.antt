-- What was written is read back: the walk over a packet hands out the chunks that were lent, each with its own bytes, and ends.
-- Assumes nothing.
use mathlib.Core.Path.{◌≡◌, refl, sym, ap, ◌∙◌}
use mathlib.Core.List.{List, [], ◌∷◌, ◌++◌, append_assoc, append-nil}
use Prim.Native.Nat.{ℕ, zero, suc, ◌+◌, ◌-◌, ◌<◌, ◌≤◌}
use native.Mathlib.Omega.{arith}
use borrow.Author.Tests.{le-ltb}
use lib.ListN.{length, get_or, take, drop, replicate, length-append, length-drop, get_or-append, take-append-drop}
use lib.Seq.{get_or-take, take_at, drop_at, length-take-le}
use Rattle.wire_model.specs.Refusal.{none, first, Told, says, written}
use Rattle.wire.proofs.Reading.{none_both}
use Rattle.packet_parts.specs.Fronts.{front_header, front_size, front_checks, rounded}
use Rattle.packet_chunks.specs.Chunks.{Spot, chunk, finished, step_at}
use Rattle.packet_parts.proofs.Fronts.{passed-front, size-taken}
use Rattle.packet_chunks.proofs.Steps.{step_end, step_within}
use Rattle.packet_body.specs.Lent.{cut, cut_checks, lent_chunks, lent_checks, padded, joined, body}
use Rattle.packet_body.proofs.Padding.{padded-length}
use Rattle.packet.specs.Layout.{Common, common_bytes, checksum, packet}
use Rattle.packet_marshal.specs.Written.{packet_written}
use Rattle.packet_marshal.proofs.Packets.{common-length}
use Rattle.packet_theorems.proofs.Headers.{packet-written}
use Rattle.packet_theorems.specs.Walk.{Walked, walked, ended, onward, walk, together}

-- ── one chunk, with padding, and whatever follows ──

module _ (lent rest : List ℕ) (good : first (front_checks lent) ≡ none) where
  abbrev size : ℕ
  size = front_size lent

  abbrev one : List ℕ
  one = take size lent

  abbrev left : List ℕ
  left = padded one ++ rest

  room : (4 ≤ size) × (size ≤ length lent)
  room = passed-front lent good

  one-length : length one ≡ size
  one-length = length-take-le size lent room.1

  left_is : left ≡ one ++ (replicate (rounded (length one) - length one) 0 ++ rest)
  unfolding padded
  left_is = append_assoc one (replicate (rounded (length one) - length one) 0) rest

  -- its first bytes are those that were lent
  byte : (i : ℕ) → i < 4 → get_or left i 0 ≡ get_or lent i 0
  byte i h =
      ap (λ (z : List ℕ). get_or z i 0) left_is
      ∙ get_or-append one (replicate (rounded (length one) - length one) 0 ++ rest) 0 i (omega (arith, one-length, room.0))
      ∙ get_or-take size lent i 0 (omega (arith, room.0))

  same-header : front_header left ≡ front_header lent
  unfolding front_header
  same-header = rw (byte 0 (omega arith), byte 1 (omega arith), byte 2 (omega arith), byte 3 (omega arith))

  left-length : length left ≡ rounded size + length rest
  left-length = rw (length-append, padded-length one, one-length)

  -- so it is found, and its bytes are its own
  left-size : front_size left ≡ size
  left-size = ap (λ h. h.size) same-header

  left_good : first (front_checks left) ≡ none
  unfolding rounded
  left_good =
      let long = left-length in
      rw (le-ltb (length left) 4 (omega (arith, room.0)), left-size, le-ltb size 4 room.0, le-ltb (length left) size (omega (arith, room.0)))

  left_one : take size left ≡ one
  left_one = ap (take size) left_is ∙ take_at one (replicate (rounded (length one) - length one) 0 ++ rest) size one-length

  module _ (front : List ℕ) (at : ℕ) (l : length front ≡ at) (h : 12 ≤ at) where
    here : drop at (front ++ left) ≡ left
    here = drop_at front left at l

    long : length (front ++ left) ≡ at + (rounded size + length rest)
    long = rw (length-append, l, left-length)

    found : says none (chunk (at + size) (at + rounded size)) ≡ step_at (front ++ left) at
    unfolding rounded
    found =
        let all = long in
        step_within (front ++ left) at h (omega (arith, room.0)) (rw here (ap (says none) (sym left-size) ∙ size-taken left left_good)) refl (omega arith)

    own : take (at + size - at) (drop at (front ++ left)) ≡ one
    own = let count : at + size - at ≡ size = omega arith in rw (here, count) left_one

-- ── a turn of the walk ──

module _ (turns : ℕ) (packet : List ℕ) (at : ℕ) where
  walk_end : says none finished ≡ step_at packet at → walk (suc turns) packet at ≡ walked [] (ended none)
  unfolding walk
  walk_end e = sym (ap (λ (t : Told Spot). onward (walk turns packet) packet at t.refusal t.values) e)

  walk-chunk : {end next : ℕ} → says none (chunk end next) ≡ step_at packet at → {one : List ℕ} {more : List (List ℕ)} → take (end - at) (drop at packet) ≡ one
      → walk turns packet next ≡ walked more (ended none) → walk (suc turns) packet at ≡ walked (one ∷ more) (ended none)
  unfolding walk
  walk-chunk {end} {next} e {one} {more} f g =
      sym (ap (λ (t : Told Spot). onward (walk turns packet) packet at t.refusal t.values) e)
      ∙ ap (λ (z : List ℕ). walked (z ∷ (walk turns packet next).chunks) (walk turns packet next).end) f
      ∙ ap (λ (w : Walked). walked (one ∷ w.chunks) w.end) g

cut-nothing : (turns : ℕ) → cut turns [] ≡ []
unfolding cut
cut-nothing zero = refl
cut-nothing (suc turns) = refl

-- behind anything that ends at the place
walk-joined : (turns fuel : ℕ) (lent front : List ℕ) (at : ℕ) → length front ≡ at → 12 ≤ at → length lent ≤ turns → length lent < fuel → first (cut_checks turns lent) ≡ none
    → walk fuel (front ++ joined (cut turns lent)) at ≡ walked (cut turns lent) (ended none)
unfolding cut cut_checks joined
walk-joined turns zero lent front at l h m k e = absurd (omega arith)
walk-joined turns (suc fuel) [] front at l h m k e =
    rw (cut-nothing turns, append-nil front) (walk_end fuel front at (step_end front at h l))
walk-joined zero (suc fuel) (b ∷ bytes) front at l h m k e = absurd (omega arith)
walk-joined (suc turns) (suc fuel) (b ∷ bytes) front at l h m k e =
    let lent = b ∷ bytes in
    let n = front_size lent in
    let more = joined (cut turns (drop n lent)) in
    let both = none_both (front_checks lent) (cut_checks turns (drop n lent)) e in
    let good = both.0 in
    let four = (passed-front lent good).0 in
    let less : length (drop n lent) ≡ length lent - n = length-drop n lent in
    let chunk = padded (take n lent) in
    let size : length (front ++ chunk) ≡ at + rounded n = rw (length-append, l, padded-length (take n lent), one-length lent more good) in
    walk-chunk fuel (front ++ (chunk ++ more)) at (found lent more good front at l h) (own lent more good front at l h)
    (ap (λ (z : List ℕ). walk fuel z (at + rounded n)) (sym (append_assoc front chunk more))
    ∙ walk-joined turns fuel (drop n lent) (front ++ chunk) (at + rounded n) size (omega arith) (omega arith) (omega arith) both.1)

-- ── the theorems ──

-- the walk over a packet that is written of good chunks hands out these, in order, each with its own bytes, and ends without a refusal
pub walk-back : (c : Common) (lent : List ℕ) (turns : ℕ) → length lent < turns → first (lent_checks lent) ≡ none → walk turns (packet c (body lent)) 12 ≡ walked (lent_chunks lent) (ended none)
unfolding packet
walk-back c lent turns h e =
    let sum = checksum c (body lent) in
    walk-joined (length lent) turns lent (common_bytes c sum) 12 (common-length c sum) (omega arith) (omega arith) h e

-- and so does the walk over what a writer left that refused nothing
pub written-walked : (c : Common) (lent out : List ℕ) {n : ℕ} {out' : List ℕ} → written (says none n) out' ≡ packet_written c lent out → (turns : ℕ) → length lent < turns
    → walk turns (take n out') 12 ≡ walked (lent_chunks lent) (ended none)
written-walked c lent out e turns h = let p = packet-written c lent out e in rw p.1 (walk-back c lent turns h p.0)

cut-whole : (turns : ℕ) (lent : List ℕ) → length lent ≤ turns → first (cut_checks turns lent) ≡ none → together (cut turns lent) ≡ lent
unfolding cut cut_checks together
cut-whole zero [] h e = refl
cut-whole zero (b ∷ bytes) h e = absurd (omega arith)
cut-whole (suc turns) [] h e = refl
cut-whole (suc turns) (b ∷ bytes) h e =
    let lent = b ∷ bytes in
    let n = front_size lent in
    let both = none_both (front_checks lent) (cut_checks turns (drop n lent)) e in
    let four = (passed-front lent both.0).0 in
    let less : length (drop n lent) ≡ length lent - n = length-drop n lent in
    ap (λ (z : List ℕ). take n lent ++ z) (cut-whole turns (drop n lent) (omega arith) both.1) ∙ take-append-drop n lent

-- and one behind the other they are what was lent
pub lent-whole : (lent : List ℕ) → first (lent_checks lent) ≡ none → together (lent_chunks lent) ≡ lent
lent-whole lent e = cut-whole (length lent) lent (omega arith) e
