-- `reassembly_forward::forward_tsn_for_unordered` meets its contract: an unsound queue is refused, and else its loose fragments are skipped.
use mathlib.Core.Path.{sym, ap, ◌∙◌}
use mathlib.Core.Bool.{true}
use native.Mathlib.Omega.{arith}
use Rattle.wire_model.specs.Refusal.{none, says}
use Rattle.reassembly_state.specs.State.{after, forward_unordered}
use Rattle.reassembly_forward.proofs.forward_tsn_for_unordered.Goals as goal

pub returns-then-unsound : goal.returns-then-unsound
unfolding forward_unordered
returns-then-unsound c = rw (sym c.unsound.ensures ∙ c.if-unsound.true)

pub skip_unordered-requires : goal.skip_unordered-requires
skip_unordered-requires c =
    record {
      table_len = omega arith;
      pool_value = sym c.unsound.ensures ∙ c.if-unsound.false;
    }

pub returns : goal.returns
unfolding forward_unordered
returns c = rw (sym c.unsound.ensures ∙ c.if-unsound.false) (ap (after (says none true)) c.skip_unordered.ensures)
