-- `payload_look::get_gap_ack_blocks` meets its contract: an unsound queue is refused, and else the walk over the held records says.
use mathlib.Core.Path.{sym, ◌∙◌}
use native.Mathlib.Omega.{arith}
use Rattle.payload_model.specs.GapCall.{gap_report}
use Rattle.payload_model.proofs.Laws.{sound}
use Rattle.payload_look.proofs.get_gap_ack_blocks.Goals as goal

pub returns-then-unsound : goal.returns-then-unsound
unfolding gap_report
returns-then-unsound c = rw (sym c.unsound.ensures ∙ c.if-unsound.true)

pub report-requires : goal.report-requires
report-requires c =
    record {
      table_len = omega arith;
      n_le_size = (sound _ (sym c.unsound.ensures ∙ c.if-unsound.false)).few;
    }

pub returns : goal.returns
unfolding gap_report
returns c = rw (sym c.unsound.ensures ∙ c.if-unsound.false, ← c.report.ensures)
