-- `packet_chunks::chunk_at` meets its contract: each `return` is the first check that holds, or the spot that the size in front leads to.
use mathlib.Core.Path.{◌≡◌}
use Prim.Native.Nat.{◌+◌, ◌≤◌}
use native.Mathlib.Omega.{arith}
use lib.ListN.{length, drop, length-drop}
use Rattle.std.proofs.lemmas.Result.{err_from_is_err_and}
use Rattle.wire_model.specs.Refusal.{none, says}
use Rattle.wire.proofs.Writing.{left-whole}
use Rattle.packet_parts.specs.Fronts.{rounded, size_read}
use Rattle.packet_chunks.proofs.Steps.{step_below, step_past, step_end, step-refused, step_within, step-over}
use Rattle.packet_chunks.proofs.chunk_at.Goals as goal

pub returns-then-at-lt12 : goal.returns-then-at-lt12
returns-then-at-lt12 c = let a = c.args in step_below a.packet.now a.at c.if-at-lt12.true

pub returns-then-packet-at : goal.returns-then-packet-at
returns-then-packet-at c = let a = c.args in step_past a.packet.now a.at c.if-at-lt12.false c.if-packet-at.true

pub returns-then-packet-at-2 : goal.returns-then-packet-at-2
returns-then-packet-at-2 c = let a = c.args in step_end a.packet.now a.at c.if-at-lt12.false c.if-packet-at-2.true

pub overflow_add-next : goal.overflow_add-next
unfolding rounded
overflow_add-next c =
    let seen : (let n = c.in_ok-size.size in let a = c.args in (says none n ≡ size_read (drop a.at a.packet.now)) × (4 ≤ n) × (a.at + n ≤ length a.packet.now)) = let a = c.args in let told = rw (left-whole a.packet.now a.at) at c.in_ok-size.ensures.result_value in let room = rw (left-whole a.packet.now a.at, length-drop) at c.in_ok-size.ensures.size_room in (told, room.0, omega (arith, c.if-packet-at-2.false, c.if-packet-at.false)) in
    let s = seen in
    omega (arith, c.padded_size.ensures, s.2)

pub returns-then-packet-next : goal.returns-then-packet-next
returns-then-packet-next c =
    let seen : (let n = c.in_ok-size.size in let a = c.args in (says none n ≡ size_read (drop a.at a.packet.now)) × (4 ≤ n) × (a.at + n ≤ length a.packet.now)) = let a = c.args in let told = rw (left-whole a.packet.now a.at) at c.in_ok-size.ensures.result_value in let room = rw (left-whole a.packet.now a.at, length-drop) at c.in_ok-size.ensures.size_room in (told, room.0, omega (arith, c.if-packet-at-2.false, c.if-packet-at.false)) in
    let a = c.args in
    step-over a.packet.now a.at c.if-at-lt12.false (omega (arith, c.if-packet-at-2.false)) seen.0 c.padded_size.ensures c.if-packet-next.true

pub returns-in_err-size : goal.returns-in_err-size
returns-in_err-size c =
    let a = c.args in
    let e = err_from_is_err_and c.from_residual.result c.from_residual.ensures.1 in
    rw (e.1, e.2)
    (step-refused a.packet.now a.at c.if-at-lt12.false (omega (arith, c.if-packet-at-2.false)) (rw (left-whole a.packet.now a.at) at c.in_err-size.ensures.result_value))

pub returns : goal.returns
returns c =
    let seen : (let n = c.in_ok-size.size in let a = c.args in (says none n ≡ size_read (drop a.at a.packet.now)) × (4 ≤ n) × (a.at + n ≤ length a.packet.now)) = let a = c.args in let told = rw (left-whole a.packet.now a.at) at c.in_ok-size.ensures.result_value in let room = rw (left-whole a.packet.now a.at, length-drop) at c.in_ok-size.ensures.size_room in (told, room.0, omega (arith, c.if-packet-at-2.false, c.if-packet-at.false)) in
    let a = c.args in
    step_within a.packet.now a.at c.if-at-lt12.false (omega (arith, c.if-packet-at-2.false)) seen.0 c.padded_size.ensures c.if-packet-next.false
