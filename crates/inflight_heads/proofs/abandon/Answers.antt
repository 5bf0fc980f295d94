-- `inflight_heads::abandon` meets its contract: after i turns those of the first i rows are abandoned beside which the number stands.
use mathlib.Core.Path.{◌≡◌, sym, ap, ◌∙◌}
use mathlib.Core.Bool.{cond}
use native.Mathlib.Omega.{arith}
use lib.Dec.{eqb}
use lib.ListN.{length, get_or, take, length-set}
use lib.Seq.{length-take-le, get_or-take}
use Rattle.table.specs.Rows.{blank, rows_of}
use Rattle.table.proofs.Columns.{rows_long}
use Rattle.payload_model.specs.Limits.{tsns_most}
use Rattle.inflight_model.specs.Queue.{abandoned_head, abandoned_among, with_head}
use Rattle.inflight_model.proofs.Marks.{abandoned-long, abandoned-at}
use Rattle.inflight_model.proofs.Passes.{pass_none, head_read, head-turn, pass_done}
use Rattle.inflight_heads.proofs.abandon.Goals as goal

pub loop-i-init : goal.loop-i-init
loop-i-init c =
    let a = c.args in
    let rows = rows_of tsns_most a.table.now in
    let e = rows_long tsns_most a.table.now c.requires.table_len in
    let ms = a.messages.now in
    let r = length-take-le a.n rows (omega arith) in
    let l : length (abandoned_among a.message (take a.n rows) (take a.n ms)) ≡ a.n = abandoned-long a.message (take a.n rows) (take a.n ms) (length-take-le a.n ms (omega arith) ∙ sym r) ∙ r in
    (c.requires.table_len, l, pass_none rows (abandoned_among a.message (take a.n rows) (take a.n ms)) (omega arith))

pub loop-i-preserved : goal.loop-i-preserved
loop-i-preserved c =
    let a = c.args in
    let rows = rows_of tsns_most a.table.now in
    let i = c.loop-i.i in
    let n = c.loop-i.invariant.1 in
    let e = rows_long tsns_most a.table.now c.requires.table_len in
    let ms = a.messages.now in
    let r = length-take-le a.n rows (omega arith) in
    let row = abandoned-at a.message (take a.n rows) (take a.n ms) i (length-take-le a.n ms (omega arith) ∙ sym r) (omega arith) in
    let at = rw (get_or-take a.n rows i blank (omega arith), get_or-take a.n ms i 0 (omega arith)) at row in
    let head = c.abandoned_if.ensures ∙ ap (λ h. cond (eqb (get_or ms i 0) a.message) (abandoned_head h) h) (head_read tsns_most c.loop-i.table c.loop-i.invariant.0 c.loop-i.invariant.2 (omega arith) (omega arith)) in (
      simp length-set c.loop-i.invariant.0,
      n,
      head-turn tsns_most c.loop-i.table c.loop-i.invariant.0 c.loop-i.invariant.2 (omega arith) (omega arith) c.abandoned_if.result (ap (λ h. with_head h (get_or rows i blank)) head ∙ sym at),
    )

pub returns : goal.returns
returns c = pass_done c.loop-i.invariant.2 (omega (arith, c.loop-i.invariant.1, c.loop-i.invariant.2.within))
