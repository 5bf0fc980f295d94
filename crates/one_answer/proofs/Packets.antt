-- No second outcome of a call on packets fits its promise: the answer, the part with its place, and the bytes of a buffer that is written are fixed.
-- Assumes nothing.
use mathlib.Core.Path.{◌≡◌, sym, ◌∙◌}
use mathlib.Core.List.{List}
use Prim.Native.Nat.{ℕ}
use denote.Ref.{Bor}
use Rattle.std.specs.Prelude.{Result, Option}
use Rattle.crc32c.specs.Crc.{through, crc32c}
use Rattle.wire_model.specs.Refusal.{written}
use Rattle.wire.proofs.Exists.{Bytes}
use Rattle.refusal.specs.Told.{count_told}
use Rattle.refusal.specs.declared.Refusal.{Refusal}
use Rattle.packet_chunks.specs.Chunks.{step_told, step_at}
use Rattle.packet_chunks.specs.declared.Found.{Found}
use Rattle.packet_walker.specs.Walk.{Lies, bytes_at, place_after}
use Rattle.packet_walker.specs.declared.Walker.{Walker}
use Rattle.packet.specs.Layout.{Common}
use Rattle.packet.specs.Header.{CommonFront, common_told, common_read}
use Rattle.packet.specs.declared.CommonHeader.{CommonHeader}
use Rattle.packet_marshal.specs.Written.{packet_written}
use Rattle.packet_theorems.proofs.OneAnswer.{step-one, header-one}
use Rattle.one_answer.proofs.Only.{Only, named-one, both}
use Rattle.one_answer.proofs.Codecs.{Wrote, wrote}

-- ── sums ──

module _ (register : ℕ) (bytes : List ℕ) where
  pub crc32c_update_one : Only (λ (r : ℕ). r ≡ through register bytes)
  crc32c_update_one = named-one

  pub crc32c-crc32c-one : Only (λ (r : ℕ). r ≡ crc32c bytes)
  crc32c-crc32c-one = named-one

-- ── the readers ──

module _ (raw : List ℕ) where
  pub packet_unmarshal_one : Bytes raw → Only (λ (r : Result CommonHeader Refusal). (f : CommonFront raw) → common_told r ≡ common_read raw f.fields)
  packet_unmarshal_one by r s p q = header-one raw by p q

  pub packet-chunk-at-one : (at : ℕ) → Only (λ (r : Result (Option Found) Refusal). step_told r ≡ step_at raw at)
  packet-chunk-at-one at r s p q = step-one raw at p q

-- ── the walker ──

module _ (packet : Bor (List ℕ)) (at : ℕ) where
  walks : {place : ℕ} → Only (λ (r : Walker). (r.packet ≡ packet) × (r.place ≡ place))
  walks r s p q = both (λ (p : Bor (List ℕ)) (i : ℕ). record { packet = p; place = i }) (p.0 ∙ sym q.0) (p.1 ∙ sym q.1)

  pub walker-bytes-at-one : Only (λ (r : Lies). r ≡ bytes_at packet at)
  walker-bytes-at-one = named-one

  pub walker-place-after-one : Only (λ (r : ℕ). r ≡ place_after packet.now at)
  walker-place-after-one = named-one

  pub walker-new-one : Only (λ (r : Walker). (r.packet ≡ packet) × (r.place ≡ 12))
  walker-new-one = walks

  pub walker-step-one : Only (λ (r : Result (Option Found) Refusal). step_told r ≡ step_at packet.now at)
  walker-step-one r s p q = step-one packet.now at p q

  pub walker-chunk-one : Only (λ (r : Lies). r ≡ bytes_at packet at)
  walker-chunk-one = named-one

  pub walker-next-one : Only (λ (r : Walker). (r.packet ≡ packet) × (r.place ≡ place_after packet.now at))
  walker-next-one = walks

-- ── the writer: the answer and the buffer ──

pub packet_marshal_to_one : (c : Common) (chunks out : List ℕ) → Only (λ (o : Wrote). written (count_told o.gives) o.out ≡ packet_written c chunks out)
packet_marshal_to_one c chunks out = wrote
