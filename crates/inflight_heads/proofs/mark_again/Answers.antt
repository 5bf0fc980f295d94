-- `inflight_heads::mark_again` meets its contract: after i turns the first i rows are marked, of the table whose first n heads are the slice that is written.
use mathlib.Core.Path.{◌≡◌, sym, ap, ◌∙◌}
use Prim.Native.Nat.{◌<◌}
use native.Mathlib.Omega.{arith}
use lib.ListN.{length, get_or, take, drop, length-set, length-map, take-append-drop, get_or-append}
use lib.Seq.{length-take-le, get_or-take, set-append_left}
use Rattle.table.specs.Rows.{blank, rows_of}
use Rattle.table.proofs.Columns.{rows_long}
use Rattle.payload_model.specs.Limits.{tsns_most}
use Rattle.inflight_model.specs.Queue.{again_head, again_row, with_head}
use Rattle.inflight_model.proofs.Marks.{again-at}
use Rattle.inflight_model.proofs.Passes.{pass_none, head_read, head-turn, pass_done}
use Rattle.inflight_heads.proofs.mark_again.Invariants.{words, marks}
use Rattle.inflight_heads.proofs.mark_again.Goals as goal

pub loop-head-init : goal.loop-head-init
loop-head-init c =
    let a = c.args in
    let rows = rows_of tsns_most a.table.now in
    let e = rows_long tsns_most a.table.now c.requires.table_len in
    let l : length (marks a.table.now a.n) ≡ a.n = length-map (take a.n rows) again_row ∙ length-take-le a.n rows (omega arith) in
    rw (take-append-drop a.n a.table.now) (record { long = c.requires.table_len; all = l; passing = pass_none rows (marks a.table.now a.n) (omega arith) })

pub loop-head-preserved : goal.loop-head-preserved
loop-head-preserved c =
    let a = c.args in
    let heads = c.loop-head.head-items in
    let rows = rows_of tsns_most a.table.now in
    let i = c.loop-head.head-index in
    let k = c.loop-head.invariant in
    let e = rows_long tsns_most a.table.now c.requires.table_len in
    let n = length-take-le a.n a.table.now (omega arith) in
    let h : i < length heads = omega arith in
    let row : get_or (marks a.table.now a.n) i blank ≡ again_row (get_or rows i blank) =
    again-at (take a.n rows) i (rw (length-take-le a.n rows (omega arith)) (omega arith)) ∙ ap again_row (get_or-take a.n rows i blank (omega arith)) in
    let read = sym (get_or-append heads (drop a.n a.table.now) 0 i h) ∙ head_read tsns_most (words a.table.now a.n heads) k.long k.passing (omega arith) (omega arith) in
    let head = c.again_head.ensures ∙ ap again_head read in
    rw (← (set-append_left heads (drop a.n a.table.now) i c.again_head.result h))
    (record {
      long = simp length-set k.long;
      all = k.all;
      passing = head-turn tsns_most (words a.table.now a.n heads) k.long k.passing (omega arith) (omega arith) c.again_head.result (ap (λ h. with_head h (get_or rows i blank)) head ∙ sym row);
    })

pub returns : goal.returns
returns c = let n = length-take-le c.args.n c.args.table.now (omega arith) in pass_done c.loop-head.invariant.passing (omega (arith, c.loop-head.invariant.all, c.loop-head.invariant.passing.within))
