-- `reassembly_state::Counts::get_num_bytes` meets its contract: the byte count of a sound queue is the sum of the held lengths.
use mathlib.Core.Path.{sym, ◌∙◌}
use Rattle.reassembly_state.specs.State.{num_bytes}
use Rattle.reassembly_state.proofs.Laws.{sound, size-held}
use Rattle.reassembly_state.proofs.Counts.get_num_bytes.Goals as goal

pub returns-then-unsound : goal.returns-then-unsound
unfolding num_bytes
returns-then-unsound c = rw (sym c.unsound.ensures ∙ c.if-unsound.true)

pub returns : goal.returns
unfolding num_bytes
returns c =
    let e = sym c.unsound.ensures ∙ c.if-unsound.false in
    rw (e, size-held _ (sound _ e))
