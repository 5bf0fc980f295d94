-- The bytes of a packet: their number, and how the sum comes into its field.
-- Assumes nothing.
use mathlib.Core.Path.{◌≡◌, refl, sym, ap, ◌∙◌}
use mathlib.Core.List.{List, [], ◌∷◌, ◌++◌}
use Prim.Native.Nat.{ℕ, ◌+◌, ◌-◌}
use lib.Dec.{ltb}
use lib.ListN.{length, take, drop, length-append}
use lib.Seq.{take_at}
use borrow.Rule.Slice.PartMut.{mid_of, put_mid}
use Rattle.crc32c.specs.Crc.{crc32c, little_endian}
use Rattle.wire_model.specs.BigEndian.{big_endian, over}
use Rattle.wire_model.specs.Refusal.{refuse, when, first, says, written}
use Rattle.wire.proofs.Reading.{first-refused}
use Rattle.wire.proofs.Writing.{behind}
use Rattle.packet_body.specs.Lent.{lent_checks, body}
use Rattle.packet.specs.Layout.{Common, common_bytes, checksum, packet}
use Rattle.packet_marshal.specs.Written.{packet_written}

pub common-length : (c : Common) (sum : ℕ) → length (common_bytes c sum) ≡ 12
unfolding common_bytes big_endian little_endian
common-length c sum = refl

module _ (c : Common) (chunks : List ℕ) where
  pub packet-length : length (packet c chunks) ≡ 12 + length chunks
  unfolding packet
  packet-length = rw (length-append, common-length c (checksum c chunks))

  -- a buffer with the header at its front, 0 in the field, and the chunks behind it
  module _ (out₀ : List ℕ) {out : List ℕ} (e : out ≡ over out₀ (common_bytes c 0 ++ chunks)) where
    abbrev zeroed : List ℕ
    zeroed = over out₀ (common_bytes c 0 ++ chunks)

    pub sum_is : {size sum : ℕ} → size ≡ 12 + length chunks → sum ≡ crc32c (take size out) → sum ≡ checksum c chunks
    unfolding checksum over
    sum_is {size} s f =
        f
        ∙ ap (λ (z : List ℕ). crc32c (take size z)) e
        ∙ ap crc32c (take_at (common_bytes c 0 ++ chunks) (drop (length (common_bytes c 0 ++ chunks)) out₀) size (rw (length-append, common-length c 0) (sym s)))

    -- the sum goes over the zeros
    pub sum-put : {sum : ℕ} (field : ℕ) {ys : List ℕ} → sum ≡ checksum c chunks → big_endian 4 field ≡ little_endian 4 sum → ys ≡ over (mid_of 8 (length out - 8) out) (big_endian 4 field)
        → put_mid 8 (length out - 8) out ys ≡ over out₀ (packet c chunks)
    unfolding over packet common_bytes big_endian little_endian
    sum-put {sum} field {ys} s f g =
        behind zeroed (take 8 zeroed) (big_endian 4 field) {out = out} {ys = ys} 8 refl e g
        ∙ ap (λ (z : List ℕ). over zeroed (take 8 zeroed ++ z)) (f ∙ ap (little_endian 4) s)

-- a bad chunk refuses the packet, and the buffer stays
pub packet-refused : (c : Common) (lent out : List ℕ) {k : ℕ} → first (lent_checks lent) ≡ refuse k → written (says (refuse k) 0) out ≡ packet_written c lent out
unfolding packet_written
packet-refused c lent out e = rw (first-refused (lent_checks lent) (when (ltb (length out) (length (packet c (body lent)))) 10 ∷ []) e)
