-- `replay_push::data_size` meets its contract: the header in front decides, and what it leaves behind the fields is the data.
use mathlib.Core.Path.{◌≡◌, ap}
use Prim.Native.Nat.{ℕ, ◌-◌}
use native.Mathlib.Omega.{arith}
use lib.ListN.{length}
use Rattle.chunk.specs.Layout.{Header}
use Rattle.chunk.proofs.Headers.{told-refused, told-taken}
use Rattle.chunk_payload_data.specs.Data.{data_checks}
use Rattle.replay_push.specs.Decoded.{front_header}
use Rattle.replay_push.proofs.Fronts.{header-there}
use Rattle.replay_push.proofs.data_size.Goals as goal

pub overflow_sub-result : goal.overflow_sub-result
overflow_sub-result c =
    let room = rw c.in-Ok.is at c.header.ensures.room in
    omega arith

pub returns-in-Err : goal.returns-in-Err
returns-in-Err c e =
    let raw = c.args.raw.now in
    let f = header-there raw (λ i. (c.type_inv.raw i).fits) in
    let no = told-refused (data_checks (length raw) (front_header raw)) (front_header raw) (rw c.in-Err.is at (c.header.ensures.result_value f)) in
    let z : ◌≡◌ {A = ℕ} 0 1 = cc in
    absurd (omega arith)

pub returns-in-Ok : goal.returns-in-Ok
returns-in-Ok c e =
    let raw = c.args.raw.now in
    let f = header-there raw (λ i. (c.type_inv.raw i).fits) in
    let t = told-taken (data_checks (length raw) (front_header raw)) (front_header raw) (rw c.in-Ok.is at (c.header.ensures.result_value f)) in
    ap (λ (h : Header). h.size - 16) t.1
