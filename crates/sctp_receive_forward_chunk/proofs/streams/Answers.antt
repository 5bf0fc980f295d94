-- `forward_tsn::streams` meets its contract: what reading the fields says decides, and 4 bytes for each pair fill the chunk up to its length.
use mathlib.Core.Path.{◌≡◌, ap}
use Prim.Native.Nat.{◌-◌, ◌*◌, ◌/◌}
use borrow.Author.Rules.{rules}
use native.Mathlib.Omega.{arith}
use lib.ListN.{length}
use Rattle.wire_model.specs.Refusal.{first}
use Rattle.wire.proofs.Reading.{refused, accepted}
use Rattle.chunk_forward_tsn.specs.ForwardTsn.{Forward, forward, forward_checks, forward_read}
use Rattle.chunk_theorems.proofs.ForwardTrips.{forward_accepted}
use Rattle.sctp_receive_places.specs.Places.{pairs_span}
use Rattle.sctp_receive_forward_chunk.proofs.streams.Goals as goal

pub returns-in-Ok : goal.returns-in-Ok
unfolding forward_read pairs_span
returns-in-Ok c f =
    let r = c.unmarshal-answer in
    let raw = c.args.raw.now in
    let h = f.fields.header in
    let checks = first (forward_checks (length raw) h) in
    let t = accepted (forward 0 0) (forward f.fields.fields ((h.size - 8) / 4)) checks (rw c.in-Ok.is at (r.ensures f)) in
    let whole = (forward_accepted raw f t.0).pairs in
    let count = ap (λ (x : Forward). x.pairs) t.1 in
    let size : 4 * c.in-Ok.f.streams ≡ h.size - 8 = omega (arith, whole, count) in
    rw (t.0, size)

pub returns-in-Err : goal.returns-in-Err
unfolding forward_read pairs_span
returns-in-Err c f =
    let r = c.unmarshal-answer in
    let h = f.fields.header in
    let checks = first (forward_checks (length c.args.raw.now) h) in
    let t = refused (forward 0 0) (forward f.fields.fields ((h.size - 8) / 4)) checks (rw c.in-Err.is at (r.ensures f)) in
    rw t (search rules)
