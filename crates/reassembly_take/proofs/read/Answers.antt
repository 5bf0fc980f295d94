-- `reassembly_take::read` meets its contract: an unsound queue is refused, and else the message in turn is taken.
use mathlib.Core.Path.{sym, ◌∙◌}
use native.Mathlib.Omega.{arith}
use Rattle.reassembly_state.specs.State.{read}
use Rattle.reassembly_take.proofs.read.Goals as goal

pub returns-then-unsound : goal.returns-then-unsound
unfolding read
returns-then-unsound c = rw (sym c.unsound.ensures ∙ c.if-unsound.true)

pub take-requires : goal.take-requires
take-requires c =
    record {
      table_len = omega arith;
      pool_value = sym c.unsound.ensures ∙ c.if-unsound.false;
    }

pub returns : goal.returns
unfolding read
returns c = rw (sym c.unsound.ensures ∙ c.if-unsound.false) c.take.ensures
