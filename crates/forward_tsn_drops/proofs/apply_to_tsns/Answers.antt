-- `forward_tsn_drops::apply_to_tsns` meets its contract: what is unsound is refused, an old point changes nothing, and else the TSNs up to it go.
use mathlib.Core.Path.{◌≡◌, ap}
use mathlib.Core.Bool.{false}
use Prim.Native.Nat.{ℕ}
use Rattle.std.proofs.lemmas.Result.{err_from_is_err_and}
use Rattle.wire_model.specs.Refusal.{refuse, says}
use Rattle.payload_model.specs.Queue.{after, unsound, counted}
use Rattle.payload_queue.specs.Queue.{queue_of}
use Rattle.forward_tsn_drops.specs.Drops.{applied_to_tsns}
use Rattle.forward_tsn_drops.proofs.Looks.{look_refused, look_is}
use Rattle.forward_tsn_drops.proofs.apply_to_tsns.Goals as goal

pub returns-then-sna32lte : goal.returns-then-sna32lte
unfolding applied_to_tsns counted
returns-then-sna32lte c =
    let of = let a = c.args in queue_of a.queue.now a.table.now in
    let sound : unsound of ≡ false = look_is _ _ c.in_ok-len.ensures in
    rw (sound, ← c.sna32lte.ensures, c.if-sna32lte.true)

pub returns-in_err-len : goal.returns-in_err-len
unfolding applied_to_tsns counted
returns-in_err-len c =
    let of = let a = c.args in queue_of a.queue.now a.table.now in
    let l = look_refused (unsound of) _ c.in_err-len.ensures in
    let e = err_from_is_err_and c.from_residual.result c.from_residual.ensures.1 in
    rw (e.1, e.2, l.0) (ap (λ (k : ℕ). after (says (refuse k) false) of) l.1)

pub returns : goal.returns
unfolding applied_to_tsns counted
returns c =
    let of = let a = c.args in queue_of a.queue.now a.table.now in
    let sound : unsound of ≡ false = look_is _ _ c.in_ok-len.ensures in
    rw (sound, ← c.sna32lte.ensures, c.if-sna32lte.false) c.pop_up_to.ensures
