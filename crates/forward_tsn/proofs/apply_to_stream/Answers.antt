-- `forward_tsn::apply_to_stream` meets its contract: what is unsound is refused, an old point changes nothing, and else the pairs are skipped and then the loose fragments.
use mathlib.Core.Path.{◌≡◌, ap}
use mathlib.Core.Bool.{false}
use Prim.Native.Nat.{ℕ}
use Rattle.std.proofs.lemmas.Result.{err_from_is_err_and}
use Rattle.wire_model.specs.Refusal.{refuse, says}
use Rattle.reassembly_state.specs.State.{after, unsound, num_bytes}
use Rattle.reassembly_queue.specs.Queue.{state_of}
use Rattle.forward_tsn.specs.Applied.{applied_to_stream}
use Rattle.forward_tsn_drops.proofs.Looks.{look_refused, look_is}
use Rattle.forward_tsn.proofs.apply_to_stream.Goals as goal

pub returns-then-sna32lte : goal.returns-then-sna32lte
unfolding applied_to_stream num_bytes
returns-then-sna32lte c f =
    let of = state_of c.args.queue.now c.args.table.now c.args.pool.now in
    let sound : unsound of ≡ false = look_is _ _ c.in_ok-get_num_bytes.ensures in
    rw (sound, ← c.sna32lte.ensures, c.if-sna32lte.true)

pub returns-in_err-get_num_bytes : goal.returns-in_err-get_num_bytes
unfolding applied_to_stream num_bytes
returns-in_err-get_num_bytes c f =
    let of = state_of c.args.queue.now c.args.table.now c.args.pool.now in
    let l = look_refused (unsound of) _ c.in_err-get_num_bytes.ensures in
    let e = err_from_is_err_and c.from_residual.result c.from_residual.ensures.1 in
    rw (e.1, e.2, l.0) (ap (λ (k : ℕ). after (says (refuse k) false) of) l.1)

pub returns : goal.returns
unfolding applied_to_stream num_bytes
returns c f =
    let of = state_of c.args.queue.now c.args.table.now c.args.pool.now in
    let sound : unsound of ≡ false = look_is _ _ c.in_ok-get_num_bytes.ensures in
    rw (sound, ← c.sna32lte.ensures, c.if-sna32lte.false, ← (c.skip_pairs.ensures f)) c.forward_tsn_for_unordered.ensures
