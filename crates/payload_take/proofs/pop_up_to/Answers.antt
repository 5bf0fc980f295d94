-- `payload_take::pop_up_to` meets its contract: an unsound queue is refused, and else the rows that stay are counted and summed.
use mathlib.Core.Path.{◌≡◌, sym, ◌∙◌}
use native.Mathlib.Omega.{arith}
use lib.ListN.{length, length-take}
use Prim.Native.Nat.{◌≤◌}
use Rattle.table.specs.Rows.{kept, total, short_length}
use Rattle.payload_model.specs.Queue.{queue_of, held, stays_after, popped_up_to}
use Rattle.payload_model.proofs.Laws.{Sound, sound, kept_within, front-back}
use Rattle.payload_take.proofs.pop_up_to.Goals as goal

pub returns-then-unsound : goal.returns-then-unsound
unfolding popped_up_to
returns-then-unsound c = rw (sym c.unsound.ensures ∙ c.if-unsound.true)

pub keep_after-left-requires : goal.keep_after-left-requires
keep_after-left-requires c =
    let of = queue_of c.args.counts.now c.args.table.now in
    let ok : Sound of = sound of (sym c.unsound.ensures ∙ c.if-unsound.false) in
    omega (arith, ok.few)

pub sum_short-counts-requires : goal.sum_short-counts-requires
sum_short-counts-requires c =
    let of = queue_of c.args.counts.now c.args.table.now in
    let ok : Sound of = sound of (sym c.unsound.ensures ∙ c.if-unsound.false) in
    let long : length (held of) ≤ of.count = simp length-take (omega arith) in
    let within = kept_within (stays_after c.args.tsn) (held of) in
    record {
      size_bound = omega arith;
      table_len = omega arith;
      n_bound = omega (arith, c.keep_after-left.ensures.value, ok.few);
    }

pub returns : goal.returns
unfolding popped_up_to
returns c =
    let of = queue_of c.args.counts.now c.args.table.now in
    let stay = kept (stays_after c.args.tsn) (held of) in
    let rows = c.keep_after-left.ensures.table_after in
    let sum : c.sum_short-counts.result ≡ total short_length stay = c.sum_short-counts.ensures ∙ rw (rows, c.keep_after-left.ensures.value, front-back) in
    rw (sym c.unsound.ensures ∙ c.if-unsound.false, sum, rows, c.keep_after-left.ensures.value)
