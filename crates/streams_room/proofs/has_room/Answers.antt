-- `streams_room::has_room` meets its contract: after i turns the draws are those of the first i streams, one of which holds more.
use mathlib.Core.Path.{◌≡◌, refl}
use mathlib.Core.Bool.{Bool, true, false, cond}
use Prim.Native.Nat.{ℕ, ◌+◌, ◌*◌, ◌≤◌}
use native.Mathlib.Omega.{arith}
use borrow.Author.Rules.{rules}
use lib.Dec.{eqb}
use Rattle.reassembly_state.specs.Limits.{frags_most, bytes_most}
use Rattle.reassembly_state.specs.State.{count}
use Rattle.streams_model.specs.Shape.{queues_of}
use Rattle.streams_model.specs.State.{bytes_of}
use Rattle.streams_model.proofs.Laws.{summed_at}
use Rattle.streams_room.proofs.Drawing.{drawn_none, drawn-next, too_much, no_room, room_decides}
use Rattle.streams_room.proofs.has_room.Goals as goal

-- with so much more, or as it is
most : (b : Bool) (x m : ℕ) {n : ℕ} → n ≡ cond b (x + m) x → n ≤ x + m
most true x m e = omega (arith, e)
most false x m e = omega (arith, e)

pub returns-then-more-gt-BYTES : goal.returns-then-more-gt-BYTES
returns-then-more-gt-BYTES c = let a = c.args in too_much (queues_of a.streams) a.stream a.more (search rules) c.if-more-gt-BYTES.true

pub loop-i-init : goal.loop-i-init
loop-i-init c = let a = c.args in drawn_none (queues_of a.streams) a.stream a.more

pub overflow_add-queue : goal.overflow_add-queue
overflow_add-queue c =
    let within : (count c.at-queue.result ≤ frags_most) × (bytes_of c.at-queue.result ≤ 16777216 * frags_most) = let qs = queues_of c.args.streams in let f = summed_at count c.loop-i.i qs refl in let g = summed_at bytes_of c.loop-i.i qs refl in rw c.at-queue.ensures (omega (arith, f), omega (arith, g)) in
    omega (arith, within)

pub overflow_add-queue-in-loop-i : goal.overflow_add-queue-in-loop-i
overflow_add-queue-in-loop-i c =
    let within : (count c.at-queue.result ≤ frags_most) × (bytes_of c.at-queue.result ≤ 16777216 * frags_most) = let qs = queues_of c.args.streams in let f = summed_at count c.loop-i.i qs refl in let g = summed_at bytes_of c.loop-i.i qs refl in rw c.at-queue.ensures (omega (arith, f), omega (arith, g)) in
    omega (arith, within)

pub raised-n-requires : goal.raised-n-requires
raised-n-requires c =
    let within : (count c.at-queue.result ≤ frags_most) × (bytes_of c.at-queue.result ≤ 16777216 * frags_most) = let qs = queues_of c.args.streams in let f = summed_at count c.loop-i.i qs refl in let g = summed_at bytes_of c.loop-i.i qs refl in rw c.at-queue.ensures (omega (arith, f), omega (arith, g)) in
    omega (arith, within)

pub raised-size-requires : goal.raised-size-requires
raised-size-requires c =
    let within : (count c.at-queue.result ≤ frags_most) × (bytes_of c.at-queue.result ≤ 16777216 * frags_most) = let qs = queues_of c.args.streams in let f = summed_at count c.loop-i.i qs refl in let g = summed_at bytes_of c.loop-i.i qs refl in rw c.at-queue.ensures (omega (arith, f), omega (arith, g)) in
    omega (arith, within)

pub overflow_add-frags : goal.overflow_add-frags
overflow_add-frags c =
    let within : (count c.at-queue.result ≤ frags_most) × (bytes_of c.at-queue.result ≤ 16777216 * frags_most) = let qs = queues_of c.args.streams in let f = summed_at count c.loop-i.i qs refl in let g = summed_at bytes_of c.loop-i.i qs refl in rw c.at-queue.ensures (omega (arith, f), omega (arith, g)) in
    let frags-most : c.raised-n.result ≤ frags_most + 1 = omega (arith, within, most (eqb c.loop-i.i c.args.stream) (count c.at-queue.result) 1 c.raised-n.ensures) in
    omega (arith, frags-most, c.draw-frags.ensures, c.loop-i.invariant.frags_few)

pub overflow_add-bytes : goal.overflow_add-bytes
overflow_add-bytes c =
    let within : (count c.at-queue.result ≤ frags_most) × (bytes_of c.at-queue.result ≤ 16777216 * frags_most) = let qs = queues_of c.args.streams in let f = summed_at count c.loop-i.i qs refl in let g = summed_at bytes_of c.loop-i.i qs refl in rw c.at-queue.ensures (omega (arith, f), omega (arith, g)) in
    let bytes_most_lem : c.raised-size.result ≤ 16777216 * frags_most + bytes_most = omega (arith, within, most (eqb c.loop-i.i c.args.stream) (bytes_of c.at-queue.result) c.args.more c.raised-size.ensures) in
    omega (arith, bytes_most_lem, c.draw-bytes.ensures, c.loop-i.invariant.bytes_few)

pub loop-i-preserved : goal.loop-i-preserved
loop-i-preserved c =
    let within : (count c.at-queue.result ≤ frags_most) × (bytes_of c.at-queue.result ≤ 16777216 * frags_most) = let qs = queues_of c.args.streams in let f = summed_at count c.loop-i.i qs refl in let g = summed_at bytes_of c.loop-i.i qs refl in rw c.at-queue.ensures (omega (arith, f), omega (arith, g)) in
    let frags-most : c.raised-n.result ≤ frags_most + 1 = omega (arith, within, most (eqb c.loop-i.i c.args.stream) (count c.at-queue.result) 1 c.raised-n.ensures) in
    let bytes_most_lem : c.raised-size.result ≤ 16777216 * frags_most + bytes_most = omega (arith, within, most (eqb c.loop-i.i c.args.stream) (bytes_of c.at-queue.result) c.args.more c.raised-size.ensures) in
    let a = c.args in
    rw (c.draw-frags.ensures, c.draw-bytes.ensures)
    (drawn-next (queues_of a.streams) a.stream a.more c.loop-i.invariant (omega arith) c.at-queue.ensures c.raised-n.ensures c.raised-size.ensures frags-most bytes_most_lem)

pub returns-then-frags-gt-COMMON_FRAGMENTS : goal.returns-then-frags-gt-COMMON_FRAGMENTS
returns-then-frags-gt-COMMON_FRAGMENTS c =
    let a = c.args in
    no_room (queues_of a.streams) a.stream a.more c.loop-i.invariant (omega arith) c.if-frags-gt-COMMON_FRAGMENTS.true

pub returns : goal.returns
returns c =
    let a = c.args in
    room_decides (queues_of a.streams) a.stream a.more c.loop-i.invariant (omega arith) c.if-frags-gt-COMMON_FRAGMENTS.false
