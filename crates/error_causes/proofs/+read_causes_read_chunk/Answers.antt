-- The cycle of calls {read_causes, read_chunk}: each goes on with fewer bytes, and leaves in the list what the definition reads there.
use Prim.Native.Nat.{◌+◌}
use native.Mathlib.Omega.{arith}
use lib.ListN.{take, drop, length-drop}
use lib.Seq.{length-take-le}
use Rattle.std.proofs.lemmas.Result.{err_from_is_err_and}
use Rattle.packet_parts.specs.Fronts.{rounded}
use Rattle.cause_parts.specs.Causes.{chunk_held}
use Rattle.error_causes.proofs.Walk.{begin, finished, bad, alone, held_bad, held_all, counted-all, chunk_bad, chunk-without}
use Rattle.error_causes.proofs.+read_causes_read_chunk.Goals as goal

-- ── the cause list ──

pub read_causes-loop-at-init : goal.read_causes-loop-at-init
read_causes-loop-at-init t c =
    let a = c.args in
    begin a.told a.raw.now a.from a.depth a.count a.list.now c.requires

-- a cause that does not pass
pub read_causes-returns-in_err-front-clause-result_value : goal.read_causes-returns-in_err-front-clause-result_value
read_causes-returns-in_err-front-clause-result_value t c =
    let e = err_from_is_err_and c.from_residual.result c.from_residual.ensures.1 in
    rw (e.1, e.2) (bad c.loop-at.invariant c.loop-at-test.true c.in_err-front.ensures).0

pub read_causes-returns-in_err-front-clause-list_after : goal.read_causes-returns-in_err-front-clause-list_after
read_causes-returns-in_err-front-clause-list_after t c =
    (bad c.loop-at.invariant c.loop-at-test.true c.in_err-front.ensures).1

-- the place behind one that passes
pub read_causes-overflow_add-at : goal.read_causes-overflow_add-at
unfolding rounded
read_causes-overflow_add-at t c =
    let there = c.in_ok-front.ensures in
    let within = rw length-drop at there.within in
    omega (arith, c.padded_size-at.ensures, there.four, c.loop-at.invariant.placed.small)

-- a fault inside it
pub read_causes-returns-in_err-n-clause-result_value : goal.read_causes-returns-in_err-n-clause-result_value
read_causes-returns-in_err-n-clause-result_value t c =
    let e = err_from_is_err_and c.from_residual-in_err-n.result c.from_residual-in_err-n.ensures.1 in
    rw (e.1, e.2) (held_bad c.loop-at.invariant c.loop-at-test.true c.in_ok-front.ensures c.note.ensures c.if-code-eq-UNRECOGNIZED_CHUNK_TYPE.true c.read_chunk.ensures.list_after c.in_err-n.ensures.result_value).0

pub read_causes-returns-in_err-n-clause-list_after : goal.read_causes-returns-in_err-n-clause-list_after
read_causes-returns-in_err-n-clause-list_after t c =
    (held_bad c.loop-at.invariant c.loop-at-test.true c.in_ok-front.ensures c.note.ensures c.if-code-eq-UNRECOGNIZED_CHUNK_TYPE.true c.read_chunk.ensures.list_after c.in_err-n.ensures.result_value).1

pub read_causes-loop-at-smaller-then-code-eq-UNRECOGNIZED_CHUNK_TYPE : goal.read_causes-loop-at-smaller-then-code-eq-UNRECOGNIZED_CHUNK_TYPE
unfolding rounded
read_causes-loop-at-smaller-then-code-eq-UNRECOGNIZED_CHUNK_TYPE t c = omega (arith, c.padded_size-at.ensures, c.in_ok-front.ensures.four, c.loop-at-test.true)

pub read_causes-loop-at-smaller : goal.read_causes-loop-at-smaller
unfolding rounded
read_causes-loop-at-smaller t c = omega (arith, c.padded_size-at.ensures, c.in_ok-front.ensures.four, c.loop-at-test.true)

-- its causes stand behind it
pub read_causes-loop-at-preserved-then-code-eq-UNRECOGNIZED_CHUNK_TYPE : goal.read_causes-loop-at-preserved-then-code-eq-UNRECOGNIZED_CHUNK_TYPE
read_causes-loop-at-preserved-then-code-eq-UNRECOGNIZED_CHUNK_TYPE t c =
    let there = c.in_ok-front.ensures in
    let end = c.loop-at.at + c.in_ok-front.front.size in
    let inner = chunk_held c.args.depth (c.loop-at.at + 4) (drop (c.loop-at.at + 4) (take end c.args.raw.now)) in
    let all = counted-all (c.loop-at.n + 1) inner c.in_ok-n.ensures.result_value in
    let room = rw length-drop at there.within in
    let within = rw (length-take-le end c.args.raw.now (omega (arith, c.loop-at-test.true))) at c.in_ok-n.ensures.count_room in
    held_all c.loop-at.invariant c.loop-at-test.true there c.note.ensures c.if-code-eq-UNRECOGNIZED_CHUNK_TYPE.true c.read_chunk.ensures.list_after
    all.0 all.1 within c.padded_size-at.ensures

-- one that holds nothing
pub read_causes-loop-at-preserved : goal.read_causes-loop-at-preserved
read_causes-loop-at-preserved t c =
    alone c.loop-at.invariant c.loop-at-test.true c.in_ok-front.ensures c.note.ensures c.padded_size-at.ensures c.if-code-eq-UNRECOGNIZED_CHUNK_TYPE.false

pub read_causes-returns-clause-result_value : goal.read_causes-returns-clause-result_value
read_causes-returns-clause-result_value t c =
    (finished c.loop-at.invariant c.loop-at-test.false).0

pub read_causes-returns-clause-list_after : goal.read_causes-returns-clause-list_after
read_causes-returns-clause-list_after t c =
    (finished c.loop-at.invariant c.loop-at-test.false).1

-- ── the chunk ──

pub read_chunk-returns-in_err-chunk_at-clause-result_value : goal.read_chunk-returns-in_err-chunk_at-clause-result_value
read_chunk-returns-in_err-chunk_at-clause-result_value t c =
    let a = c.args in
    let e = err_from_is_err_and c.from_residual.result c.from_residual.ensures.1 in
    rw (e.1, e.2) (chunk_bad a.told a.depth a.at a.count (drop a.at a.raw.now) a.list.now c.in_err-chunk_at.ensures).0

pub read_chunk-returns-in_err-chunk_at-clause-list_after : goal.read_chunk-returns-in_err-chunk_at-clause-list_after
read_chunk-returns-in_err-chunk_at-clause-list_after t c =
    let a = c.args in
    (chunk_bad a.told a.depth a.at a.count (drop a.at a.raw.now) a.list.now c.in_err-chunk_at.ensures).1

pub read_chunk-returns-in-None-clause-result_value : goal.read_chunk-returns-in-None-clause-result_value
read_chunk-returns-in-None-clause-result_value t c =
    let a = c.args in
    (chunk-without a.told a.depth a.at a.count (drop a.at a.raw.now) a.list.now (rw c.in-None.is at c.in_ok-chunk_at.ensures)).0

pub read_chunk-returns-in-None-clause-list_after : goal.read_chunk-returns-in-None-clause-list_after
read_chunk-returns-in-None-clause-list_after t c =
    let a = c.args in
    (chunk-without a.told a.depth a.at a.count (drop a.at a.raw.now) a.list.now (rw c.in-None.is at c.in_ok-chunk_at.ensures)).1
