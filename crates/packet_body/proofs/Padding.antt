-- A chunk with its padding: its length, and how it is put over zeros.
-- Assumes nothing.
use mathlib.Core.Path.{◌≡◌, sym, ap, ◌∙◌}
use mathlib.Core.List.{List, ◌++◌, append_assoc}
use Prim.Native.Nat.{ℕ, zero, suc, ◌+◌, ◌-◌, ◌≤◌}
use native.Mathlib.Omega.{arith}
use lib.ListN.{length, take, drop, replicate, length-append, length-replicate, take-append-drop}
use lib.Seq.{length-take-le, drop-append-le, drop-append-add}
use borrow.Rule.Slice.PartMut.{mid_of, put_mid}
use Rattle.wire_model.specs.BigEndian.{big_endian, over}
use Rattle.wire.proofs.Writing.{behind}
use Rattle.packet_parts.specs.Fronts.{rounded}
use Rattle.packet_body.specs.Lent.{padded}

pub padded-length : (chunk : List ℕ) → length (padded chunk) ≡ rounded (length chunk)
unfolding padded rounded
padded-length chunk = simp (length-append, length-replicate) (omega arith)

fewer : (j n : ℕ) → drop j (replicate {A = ℕ} n 0) ≡ replicate (n - j) 0
fewer zero n = let e : n - 0 ≡ n = omega arith in rw e
fewer (suc j) zero = let e : 0 - suc j ≡ 0 = omega arith in rw e
fewer (suc j) (suc n) = let e : suc n - suc j ≡ n - j = omega arith in rw e (fewer j n)

-- four zeros, and the chunk over what is in front of its padding
over_zeros : (front chunk rest : List ℕ) (j : ℕ) → length chunk ≡ length front + j → j ≤ 4 → over (front ++ (replicate 4 0 ++ rest)) chunk ≡ chunk ++ (replicate (4 - j) 0 ++ rest)
unfolding over
over_zeros front chunk rest j e h =
    ap (λ (z : List ℕ). chunk ++ z)
    (ap (λ (k : ℕ). drop k (front ++ (replicate 4 0 ++ rest))) e
    ∙ drop-append-add front (replicate 4 0 ++ rest) j
    ∙ drop-append-le j (replicate 4 0) rest (rw (length-replicate {A = ℕ} 4 0) h)
    ∙ ap (λ (z : List ℕ). z ++ rest) (fewer j 4))

-- they go into the last four bytes of the chunk with its padding
pub padded-put : (out chunk : List ℕ) (last : ℕ) {ys : List ℕ} → 4 ≤ length chunk → last + 4 ≡ rounded (length chunk) → rounded (length chunk) ≤ length out
    → ys ≡ over (mid_of last (length out - last) out) (big_endian 4 0) → over (put_mid last (length out - last) out ys) chunk ≡ over out (padded chunk)
unfolding over padded big_endian rounded
padded-put out chunk last {ys} four end fits e =
    let front = take last out in
    let at : length front ≡ last = length-take-le last out (omega arith) in
    let whole : out ≡ over out front = rw at (sym (take-append-drop last out)) in
    let size : length (front ++ big_endian 4 0) ≡ length (padded chunk) = rw (length-append, at, padded-length chunk) end in
    let count : 4 - (length chunk - last) ≡ rounded (length chunk) - length chunk = omega arith in
    ap (λ (z : List ℕ). over z chunk) (behind out front (big_endian 4 0) {out = out} {ys = ys} last at whole e ∙ append_assoc front (big_endian 4 0) (drop (length (front ++ big_endian 4 0)) out))
    ∙ over_zeros front chunk (drop (length (front ++ big_endian 4 0)) out) (length chunk - last) (omega arith) (omega arith)
    ∙ rw (count, size) (sym (append_assoc chunk (replicate (rounded (length chunk) - length chunk) 0) (drop (length (padded chunk)) out)))
