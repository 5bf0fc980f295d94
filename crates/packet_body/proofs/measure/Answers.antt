-- `packet_body::measure` meets its contract: each turn passes one chunk, and the first bad one decides.
use mathlib.Core.Path.{◌≡◌, refl, ap, ◌∙◌}
use mathlib.Core.List.{[], ◌++◌}
use Prim.Native.Nat.{◌+◌, ◌≤◌}
use native.Mathlib.Omega.{arith}
use lib.ListN.{length, take, drop, length-append}
use Rattle.std.proofs.lemmas.Result.{err_from_is_err_and}
use Rattle.wire_model.specs.Refusal.{none, first, says}
use Rattle.wire.proofs.Writing.{left-whole}
use Rattle.packet_parts.specs.Fronts.{front_size, front_checks, rounded}
use Rattle.packet_parts.proofs.Fronts.{size-told-refused, size-told}
use Rattle.packet_body.specs.Lent.{padded, body_size}
use Rattle.packet_body.proofs.Padding.{padded-length}
use Rattle.packet_body.proofs.Passing.{begin, refuses, chunk-room, chunk-length, turn, all_pass, all_done}
use Rattle.packet_body.proofs.measure.Goals as goal

pub loop-at-init : goal.loop-at-init
loop-at-init c = ([], refl, begin c.args.chunks.now)

pub returns-in_err-front-clause-result_value : goal.returns-in_err-front-clause-result_value
unfolding body_size
returns-in_err-front-clause-result_value c =
    let chunks = c.args.chunks.now in
    let e = err_from_is_err_and c.from_residual.result c.from_residual.ensures.1 in
    let told = rw (left-whole chunks c.loop-at.at) at c.in_err-front.ensures.result_value in
    rw (e.1, e.2, refuses c.loop-at.invariant.2 (omega arith) (size-told-refused (drop c.loop-at.at chunks) told))

pub overflow_add-at : goal.overflow_add-at
overflow_add-at c =
    let good : (let rest = drop c.loop-at.at c.args.chunks.now in (first (front_checks rest) ≡ none) × (c.in_ok-front.front ≡ front_size rest)) = let chunks = c.args.chunks.now in size-told (drop c.loop-at.at chunks) (rw (left-whole chunks c.loop-at.at) at c.in_ok-front.ensures.result_value) in
    let room : (let n = c.in_ok-front.front in (4 ≤ n) × (c.loop-at.at + n ≤ length c.args.chunks.now)) = let g = good in chunk-room c.loop-at.invariant.2 (omega arith) g.0 g.1 in
    omega (arith, room)

pub loop-at-smaller : goal.loop-at-smaller
loop-at-smaller c =
    let good : (let rest = drop c.loop-at.at c.args.chunks.now in (first (front_checks rest) ≡ none) × (c.in_ok-front.front ≡ front_size rest)) = let chunks = c.args.chunks.now in size-told (drop c.loop-at.at chunks) (rw (left-whole chunks c.loop-at.at) at c.in_ok-front.ensures.result_value) in
    let room : (let n = c.in_ok-front.front in (4 ≤ n) × (c.loop-at.at + n ≤ length c.args.chunks.now)) = let g = good in chunk-room c.loop-at.invariant.2 (omega arith) g.0 g.1 in
    omega (arith, room)

pub loop-at-preserved : goal.loop-at-preserved
loop-at-preserved c =
    let good : (let rest = drop c.loop-at.at c.args.chunks.now in (first (front_checks rest) ≡ none) × (c.in_ok-front.front ≡ front_size rest)) = let chunks = c.args.chunks.now in size-told (drop c.loop-at.at chunks) (rw (left-whole chunks c.loop-at.at) at c.in_ok-front.ensures.result_value) in
    let inv = c.loop-at.invariant in
    let g = good in
    let chunk = take c.in_ok-front.front (drop c.loop-at.at c.args.chunks.now) in
    let long = padded-length chunk ∙ ap rounded (chunk-length inv.2 (omega arith) g.0 g.1) in
    (inv.0 ++ padded chunk, rw (length-append, long, inv.1, c.padded_size-size.ensures), turn inv.2 (omega arith) g.0 g.1)

pub overflow_add-size : goal.overflow_add-size
overflow_add-size c = let t = loop-at-preserved c in omega (arith, t.1, t.2.less, t.2.within)

pub returns : goal.returns
unfolding body_size
returns c =
    let inv = c.loop-at.invariant in
    let over = c.loop-at-test.false in
    record {
      result_value = rw (all_pass inv.2 over, all_done inv.2 over) (ap (says none) inv.1);
      body_room = omega (arith, inv.2.less, inv.2.within, inv.1);
    }
