-- `reassembly_bounded::forward_tsn_for_ordered_bounded` meets its contract: an unsound queue is refused, and else its sets are skipped as far as the point reaches.
use mathlib.Core.Path.{sym, ap, ◌∙◌}
use mathlib.Core.Bool.{true}
use native.Mathlib.Omega.{arith}
use Rattle.wire_model.specs.Refusal.{none, says}
use Rattle.reassembly_state.specs.State.{after}
use Rattle.set_reach.specs.Bounded.{forward_bounded}
use Rattle.reassembly_bounded.proofs.forward_tsn_for_ordered_bounded.Goals as goal

pub returns-then-unsound : goal.returns-then-unsound
unfolding forward_bounded
returns-then-unsound c = rw (sym c.unsound.ensures ∙ c.if-unsound.true)

pub skip_bounded-requires : goal.skip_bounded-requires
skip_bounded-requires c =
    record {
      table_len = omega arith;
      pool_value = sym c.unsound.ensures ∙ c.if-unsound.false;
    }

pub returns : goal.returns
unfolding forward_bounded
returns c = rw (sym c.unsound.ensures ∙ c.if-unsound.false) (ap (after (says none true)) c.skip_bounded.ensures)
