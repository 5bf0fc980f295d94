-- `view` and `lay` are inverse both ways.
-- Assumes nothing.
use mathlib.Core.Path.{◌≡◌}
use mathlib.Core.Bool.{false}
use lib.ListN.{length}
use Rattle.fragments.proofs.Pool.{Fit}
use Rattle.reassembly_state.specs.Limits.{frags_most}
use Rattle.reassembly_state.specs.Model.{Queue, held}
use Rattle.reassembly_state.specs.State.{State, unsound, view, lay}
use Rattle.reassembly_state.proofs.Laws.{sound, lay-own}
use Rattle.reassembly_state.proofs.Laid.{view-lay}

-- on every sound state, forged ones too
pub laid_as_seen : (s : State) → unsound s ≡ false → length s.rows ≡ frags_most → lay (view s) s ≡ s
laid_as_seen s e full = lay-own s (sound s e) full

-- wherever what is laid fits: each of its fragments has fewer than 2^24 bytes
pub seen_as_laid : (m : Queue) (s : State) → Fit (held m) → view (lay m s) ≡ m
seen_as_laid m s fit = view-lay m s fit
