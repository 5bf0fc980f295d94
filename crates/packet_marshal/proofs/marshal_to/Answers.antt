-- `packet_marshal::marshal_to` meets its contract: the measure decides what is refused; the chunks go behind the header, and the sum over the zeros in its field.
use mathlib.Core.Path.{◌≡◌, sym, ap, ◌∙◌}
use Prim.Native.Nat.{ℕ, ◌+◌, ◌*◌, ◌≤◌}
use native.Mathlib.Omega.{arith}
use lib.ListN.{length, length-take, length-drop}
use Rattle.std.proofs.lemmas.Result.{err_from_is_err_and}
use Rattle.wire_model.specs.Refusal.{none, first}
use Rattle.wire.proofs.Writing.{write_short, write_done, behind}
use Rattle.packet_body.specs.Lent.{lent_checks, body}
use Rattle.packet_body.proofs.Passing.{measured_refused, measured}
use Rattle.packet.specs.Layout.{common, common_bytes, packet}
use Rattle.packet_marshal.specs.Written.{packet_written}
use Rattle.packet_marshal.proofs.Packets.{common-length, packet-length, sum_is, sum-put, packet-refused}
use Rattle.packet_marshal.proofs.marshal_to.Goals as goal

pub returns-then-out-size : goal.returns-then-out-size
unfolding packet_written
returns-then-out-size c =
    let told : (let n = c.in_ok-measured.measured in let lent = c.args.chunks.now in (first (lent_checks lent) ≡ none) × (n ≡ length (body lent)) × (4 * n ≤ 7 * length lent)) = let t = measured c.args.chunks.now c.in_ok-measured.ensures.result_value in (t.0, t.1, c.in_ok-measured.ensures.body_room) in
    let size : (let a = c.args in length (packet (common a.source_port a.destination_port a.verification_tag) (body a.chunks.now)) ≡ 12 + c.in_ok-measured.measured) = let a = c.args in packet-length (common a.source_port a.destination_port a.verification_tag) (body a.chunks.now) ∙ ap (λ (k : ℕ). 12 + k) (sym told.1) in
    let a = c.args in
    let lent = a.chunks.now in
    write_short (lent_checks lent) (packet (common a.source_port a.destination_port a.verification_tag) (body lent)) a.out.now told.0 size c.if-out-size.true

pub put_body-requires : goal.put_body-requires
put_body-requires c =
    let told : (let n = c.in_ok-measured.measured in let lent = c.args.chunks.now in (first (lent_checks lent) ≡ none) × (n ≡ length (body lent)) × (4 * n ≤ 7 * length lent)) = let t = measured c.args.chunks.now c.in_ok-measured.ensures.result_value in (t.0, t.1, c.in_ok-measured.ensures.body_room) in
    let t = told in
    record {
      chunks_value = t.0;
      chunks_in_bounds = simp (length-take, length-drop) (omega (arith, t.1, c.if-out-size.false));
    }

pub returns-in_err-measured : goal.returns-in_err-measured
returns-in_err-measured c =
    let a = c.args in
    let lent = a.chunks.now in
    let e = err_from_is_err_and c.from_residual.result c.from_residual.ensures.1 in
    rw (e.1, e.2)
    (packet-refused (common a.source_port a.destination_port a.verification_tag) lent a.out.now (measured_refused lent c.in_err-measured.ensures.result_value))

pub returns : goal.returns
unfolding packet_written
returns c =
    let told : (let n = c.in_ok-measured.measured in let lent = c.args.chunks.now in (first (lent_checks lent) ≡ none) × (n ≡ length (body lent)) × (4 * n ≤ 7 * length lent)) = let t = measured c.args.chunks.now c.in_ok-measured.ensures.result_value in (t.0, t.1, c.in_ok-measured.ensures.body_room) in
    let size : (let a = c.args in length (packet (common a.source_port a.destination_port a.verification_tag) (body a.chunks.now)) ≡ 12 + c.in_ok-measured.measured) = let a = c.args in packet-length (common a.source_port a.destination_port a.verification_tag) (body a.chunks.now) ∙ ap (λ (k : ℕ). 12 + k) (sym told.1) in
    let a = c.args in
    let lent = a.chunks.now in
    let out = a.out.now in
    let head = common a.source_port a.destination_port a.verification_tag in
    let zeroed = behind out (common_bytes head 0) (body lent) 12 (common-length head 0) c.put_common.ensures c.put_body.ensures in
    let sum = sum_is head (body lent) out zeroed (ap (λ (k : ℕ). 12 + k) told.1) c.crc32c-sum.ensures in
    write_done (lent_checks lent) (packet head (body lent)) out told.0 size c.if-out-size.false
    (sum-put head (body lent) out zeroed c.swapped.result sum c.swapped.ensures c.put_u32.ensures)
