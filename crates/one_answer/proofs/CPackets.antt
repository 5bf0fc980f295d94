-- No second outcome of a C call on packets fits its promise: the result, every out value and the bytes of a buffer that is written are fixed.
-- Assumes nothing.
use mathlib.Core.Path.{◌≡◌}
use mathlib.Core.List.{List}
use Prim.Native.Nat.{ℕ}
use Rattle.crc32c.specs.Crc.{crc32c}
use Rattle.wire_model.specs.Refusal.{written}
use Rattle.wire.proofs.Exists.{Bytes}
use Rattle.packet.specs.Layout.{Common, common}
use Rattle.packet.specs.Header.{CommonFront, common_read}
use Rattle.packet_marshal.specs.Written.{packet_written}
use Rattle.packet_theorems.proofs.Fronts.{common-some}
use Rattle.sctp_receive_result.specs.Result.{told}
use Rattle.sctp_receive_packet_chunks.specs.Stops.{Stop, stop, stop_at}
use Rattle.one_answer.proofs.Only.{Only, named-one}
use Rattle.one_answer.proofs.C.{Said, Word, said_one, read_one, Wrote, wrote_one}

module _ (raw : List ℕ) where
  pub c-crc32c-one : Only (λ (r : ℕ). r ≡ crc32c raw)
  c-crc32c-one = named-one

  pub c-packet_unmarshal_one : Bytes raw
      → Only (λ (o : Said Common). Word o.result × ((f : CommonFront raw) → told o.result (common o.values.source o.values.destination o.values.tag) ≡ common_read raw f.fields))
  c-packet_unmarshal_one by = read_one (common-some raw by)

  pub c-packet-chunk-at-one : (at : ℕ) → Only (λ (o : Said Stop). Word o.result × (told o.result (stop o.values.found o.values.end o.values.next) ≡ stop_at raw at))
  c-packet-chunk-at-one at = said_one

pub c-packet_marshal_to_one : (c : Common) (chunks out : List ℕ)
    → Only (λ (o : Wrote). Word o.said.result × (written (told o.said.result o.said.values) o.out ≡ packet_written c chunks out))
c-packet_marshal_to_one c chunks out = wrote_one
