-- `packet_body::put_body` meets its contract: each turn puts one chunk with its padding behind those that are done.
use mathlib.Core.Path.{◌≡◌}
use Prim.Native.Nat.{◌+◌, ◌-◌}
use borrow.Author.Rules.{rules}
use native.Mathlib.Omega.{arith}
use lib.ListN.{take, drop, length-take, length-drop}
use Rattle.wire.proofs.Writing.{behind}
use Rattle.packet_body.specs.Lent.{padded}
use Rattle.packet_body.proofs.Passing.{size-read, all_done}
use Rattle.packet_body.proofs.Putting.{put_none, header_within, next, put_next}
use Rattle.packet_body.proofs.put_body.Goals as goal

pub loop-from-init : goal.loop-from-init
loop-from-init c = put_none c.requires.chunks_value c.requires.chunks_in_bounds

pub get_u16-size-requires : goal.get_u16-size-requires
get_u16-size-requires c = omega (arith, header_within c.loop-from.invariant c.loop-from-test.true)

pub overflow_add-end : goal.overflow_add-end
overflow_add-end c =
    let size = size-read c.args.chunks.now c.loop-from.from c.get_u16-size.result (search rules) c.get_u16-size.ensures in
    let x = next c.loop-from.invariant c.loop-from-test.true size in
    omega arith

pub slice_bounds-put_padded-count : goal.slice_bounds-put_padded-count
slice_bounds-put_padded-count c =
    let size = size-read c.args.chunks.now c.loop-from.from c.get_u16-size.result (search rules) c.get_u16-size.ensures in
    let x = next c.loop-from.invariant c.loop-from-test.true size in
    omega arith

pub slice_bounds-put_padded-start : goal.slice_bounds-put_padded-start
slice_bounds-put_padded-start c =
    let size = size-read c.args.chunks.now c.loop-from.from c.get_u16-size.result (search rules) c.get_u16-size.ensures in
    let x = next c.loop-from.invariant c.loop-from-test.true size in
    omega arith

pub slice_bounds-put_padded-end-in-loop-from : goal.slice_bounds-put_padded-end-in-loop-from
slice_bounds-put_padded-end-in-loop-from c =
    let size = size-read c.args.chunks.now c.loop-from.from c.get_u16-size.result (search rules) c.get_u16-size.ensures in
    let x = next c.loop-from.invariant c.loop-from-test.true size in
    omega arith

pub put_padded-requires : goal.put_padded-requires
put_padded-requires c =
    let size = size-read c.args.chunks.now c.loop-from.from c.get_u16-size.result (search rules) c.get_u16-size.ensures in
    let x = next c.loop-from.invariant c.loop-from-test.true size in
    let from = c.loop-from.from in
    let n = c.get_u16-size.result in
    let count : from + n - from ≡ n = omega arith in
    let part : take (from + n - from) (drop from c.args.chunks.now) ≡ take n (drop from c.args.chunks.now) = rw count in
    record {
      chunk_len = rw part x.size;
      le_size = x.four;
      chunk_in_bounds = rw (part, x.long) (simp (length-take, length-drop) (omega arith));
    }

pub overflow_add-to : goal.overflow_add-to
overflow_add-to c =
    let size = size-read c.args.chunks.now c.loop-from.from c.get_u16-size.result (search rules) c.get_u16-size.ensures in
    let x = next c.loop-from.invariant c.loop-from-test.true size in
    omega (arith, c.padded_size-to.ensures)

pub loop-from-smaller : goal.loop-from-smaller
loop-from-smaller c =
    let size = size-read c.args.chunks.now c.loop-from.from c.get_u16-size.result (search rules) c.get_u16-size.ensures in
    let x = next c.loop-from.invariant c.loop-from-test.true size in
    omega arith

pub loop-from-preserved : goal.loop-from-preserved
loop-from-preserved c =
    let size = size-read c.args.chunks.now c.loop-from.from c.get_u16-size.result (search rules) c.get_u16-size.ensures in
    let x = next c.loop-from.invariant c.loop-from-test.true size in
    let from = c.loop-from.from in
    let n = c.get_u16-size.result in
    let count : from + n - from ≡ n = omega arith in
    let part : take (from + n - from) (drop from c.args.chunks.now) ≡ take n (drop from c.args.chunks.now) = rw count in
    let inv = c.loop-from.invariant in
    let is = behind c.args.out.now inv.done (padded (take n (drop from c.args.chunks.now))) c.loop-from.to inv.long inv.is (rw part at c.put_padded.ensures) in
    put_next inv c.loop-from-test.true size is (rw c.padded_size-to.ensures)

pub returns : goal.returns
returns c = rw (← (all_done c.loop-from.invariant.pass c.loop-from-test.false)) at c.loop-from.invariant.is
