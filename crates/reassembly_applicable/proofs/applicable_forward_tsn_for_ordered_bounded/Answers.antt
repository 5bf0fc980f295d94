-- `reassembly_applicable::applicable_forward_tsn_for_ordered_bounded` meets its contract: an unsound queue is refused, and else its sets are asked.
use mathlib.Core.Path.{sym, ◌∙◌}
use native.Mathlib.Omega.{arith}
use Rattle.reassembly_state.proofs.Laws.{sound}
use Rattle.set_reach.specs.Applicable.{found_in, applicable}
use Rattle.reassembly_applicable.proofs.applicable_forward_tsn_for_ordered_bounded.Goals as goal

pub returns-then-unsound : goal.returns-then-unsound
unfolding applicable found_in
returns-then-unsound c = rw (sym c.unsound.ensures ∙ c.if-unsound.true)

pub applies-requires : goal.applies-requires
applies-requires c =
    record {
      table_len = omega arith;
      counts_bound = (sound _ (sym c.unsound.ensures ∙ c.if-unsound.false)).few;
    }

pub returns : goal.returns
unfolding applicable
returns c = rw (sym c.unsound.ensures ∙ c.if-unsound.false) (c.applies.ensures c.args.pool.now)
