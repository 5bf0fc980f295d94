-- What was written is read back: the header.
-- Assumes nothing.
use mathlib.Core.Path.{◌≡◌, refl, sym, ap, ◌∙◌}
use mathlib.Core.List.{List, [], ◌∷◌, ◌++◌}
use Prim.Native.Nat.{ℕ, ◌^◌, ◌<◌}
use native.Mathlib.Omega.{arith}
use borrow.Author.Tests.{le-ltb, eq-eqb}
use lib.Dec.{ltb}
use lib.ListN.{length, take, drop}
use lib.Seq.{take_at, drop_at}
use Rattle.std.specs.Prelude.{Result}
use Rattle.wire_model.specs.BigEndian.{over}
use Rattle.wire_model.specs.Refusal.{Refusal, none, refuse, first, says, Written, written, written_if, when}
use Rattle.refusal.specs.declared.Refusal as reasons
use Rattle.wire.proofs.Reading.{begins_with, none_both}
use Rattle.packet_body.specs.Lent.{cut, cut_checks, lent_checks, joined, body}
use Rattle.packet.specs.Layout.{Common, CommonFits, common_bytes, checksum, packet}
use Rattle.packet.specs.Header.{Summed, CommonFront, common_told, common_read}
use Rattle.packet.specs.declared.CommonHeader.{CommonHeader}
use Rattle.packet_marshal.specs.Written.{packet_written}
use Rattle.packet_marshal.proofs.Packets.{common-length, packet-length}

-- ── what is a packet is read with its own fields ──

module _ (c : Common) (chunks : List ℕ) (fits : CommonFits c) where
  abbrev summed : Summed
  summed = record { common = c; sum = checksum c chunks }

  sum_fits : checksum c chunks < 2 ^ 32
  unfolding checksum
  sum_fits = omega arith

  begins : take 12 (packet c chunks) ≡ take (length (packet c chunks)) (common_bytes c (checksum c chunks))
  unfolding packet
  begins = begins_with (common_bytes c (checksum c chunks)) chunks 12 (common-length c (checksum c chunks))

  packet-front : CommonFront (packet c chunks)
  packet-front = record { fields = summed; fits = record { common = fits; sum = sum_fits }; begins = begins }

  behind : drop 12 (packet c chunks) ≡ chunks
  unfolding packet
  behind = drop_at (common_bytes c (checksum c chunks)) chunks 12 (common-length c (checksum c chunks))

  -- what meets the promise of `unmarshal` has the fields
  pub packet-read-back : (r : Result CommonHeader reasons.Refusal) → ((f : CommonFront (packet c chunks)) → common_told r ≡ common_read (packet c chunks) f.fields) → common_told r ≡ says none c
  unfolding packet-front common_read
  packet-read-back r promise =
      let long = packet-length c chunks in
      promise packet-front
      ∙ rw (le-ltb (length (packet c chunks)) 12 (omega arith), behind, eq-eqb (checksum c chunks) (checksum c chunks) refl)

-- ── what a writer left that refused nothing is such a packet ──

settled : (r : Refusal) (bytes out : List ℕ) {n : ℕ} {out' : List ℕ} → written (says none n) out' ≡ written_if r bytes out → (r ≡ none) × (take n out' ≡ bytes)
unfolding over
settled none bytes out {n} {out'} e =
    let count : n ≡ length bytes = ap (λ (w : Written). w.count.values) e in
    let is : out' ≡ bytes ++ drop (length bytes) out = ap (λ (w : Written). w.out) e in
    (refl, rw is (take_at bytes (drop (length bytes) out) n (sym count)))
settled (refuse k) bytes out e = let f = ap (λ (w : Written). w.count.refusal) e in let z : ◌≡◌ {A = ℕ} 0 1 = cc in absurd (omega arith)

-- the chunks that were lent are good, and the bytes counted are the packet of the fields and of these chunks
pub packet-written : (c : Common) (lent out : List ℕ) {n : ℕ} {out' : List ℕ} → written (says none n) out' ≡ packet_written c lent out → (first (lent_checks lent) ≡ none) × (take n out' ≡ packet c (body lent))
unfolding packet_written
packet-written c lent out e =
    let s = settled _ (packet c (body lent)) out e in
    ((none_both (lent_checks lent) (when (ltb (length out) (length (packet c (body lent)))) 10 ∷ []) s.0).0, s.1)

-- so its header is read back
pub written-read-back : (c : Common) → CommonFits c → (lent out : List ℕ) {n : ℕ} {out' : List ℕ} → written (says none n) out' ≡ packet_written c lent out
    → (r : Result CommonHeader reasons.Refusal) → ((f : CommonFront (take n out')) → common_told r ≡ common_read (take n out') f.fields) → common_told r ≡ says none c
written-read-back c fits lent out {n} {out'} e r promise = packet-read-back c (body lent) fits r (rw (packet-written c lent out e).1 at promise)

-- no chunk at all is a packet of 12 bytes
pub no_chunk : (c : Common) → (first (lent_checks []) ≡ none) × (length (packet c (body [])) ≡ 12)
unfolding cut cut_checks joined
no_chunk c = (refl, packet-length c (body []))
