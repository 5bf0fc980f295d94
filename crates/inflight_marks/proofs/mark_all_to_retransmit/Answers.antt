-- `inflight_marks::mark_all_to_retransmit` meets its contract: an unsound queue is refused, and else every held record is marked.
use mathlib.Core.Path.{sym, ◌∙◌}
use mathlib.Core.List.{[]}
use native.Mathlib.Omega.{arith}
use Rattle.table.proofs.Columns.{rows_long}
use Rattle.payload_model.specs.Limits.{tsns_most}
use Rattle.inflight_model.specs.Queue.{queue_of, marked_all}
use Rattle.inflight_model.proofs.Laws.{sound}
use Rattle.inflight_model.proofs.Calls.{again-all}
use Rattle.inflight_marks.proofs.mark_all_to_retransmit.Goals as goal

pub returns-then-unsound : goal.returns-then-unsound
unfolding marked_all
returns-then-unsound c ms = rw (sym (c.unsound.ensures ms) ∙ c.if-unsound.true)

pub mark_again-requires : goal.mark_again-requires
mark_again-requires c =
    record {
      table_len = omega arith;
      n_le_tsns_most = (sound _ (sym (c.unsound.ensures []) ∙ c.if-unsound.false)).few;
    }

pub returns : goal.returns
returns c ms = again-all (queue_of c.args.counts c.args.table.now ms) (sym (c.unsound.ensures ms) ∙ c.if-unsound.false) (rows_long tsns_most c.args.table.now (omega arith)) c.mark_again.ensures
