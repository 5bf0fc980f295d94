-- An ordered skip that a cumulative point bounds: document 02, M-110.
-- Assumes nothing.
use Rattle.std.specs.Prelude.{ℕ, Bool, true, false, not, ◌&&◌, cond, List}
use Rattle.std.proofs.Math.Option as option
use Rattle.wire_model.specs.Refusal.{none, says}
use Rattle.serial_model.specs.Serial.{next, before}
use Rattle.fragments.specs.Frag.{Frag}
use Rattle.fragment_sets.specs.Sets.{sets, set_up_to}
use Rattle.set_reach.specs.Reach.{reached}
use Rattle.set_reach.specs.Kept.{ssns_of, lowest, stays, incomplete_up_to}
use Rattle.reassembly_state.specs.Model.{Queue, queue}
use Rattle.reassembly_state.specs.State.{State, view, lay, After, after, soundly}

-- an incomplete set at or before s that the point t reaches: such sets go
abbrev pub abandoned : ℕ → ℕ → List Frag → Bool
abandoned s t l = incomplete_up_to s l && reached t l

-- "a set that the cumulative point does not reach", of those at or before s: such sets hold the expected SSN back
abbrev pub held_back : ℕ → ℕ → List Frag → Bool
held_back s t l = set_up_to s l && not (reached t l)

-- how far the expected SSN may move: to the lowest SSN of the sets that hold it back, else to s + 1
unfoldable pub limit : ℕ → ℕ → List Frag → ℕ
limit s t l = option.get_or (lowest 16 (ssns_of (held_back s t) (sets l))) (next 16 s)

-- and it moves there if it is before it
unfoldable pub moved_to : ℕ → ℕ → ℕ
moved_to expected n = cond (before 16 expected n) n expected

unfoldable pub skip_bounded : Queue → ℕ → ℕ → Queue
skip_bounded q s t = queue q.si (moved_to q.next (limit s t q.ordered)) q.max q.finished q.unordered (stays (abandoned s t) q.ordered)

unfoldable pub forward_bounded : State → ℕ → ℕ → After Bool
forward_bounded s ssn tsn = soundly false s (after (says none true) (lay (skip_bounded (view s) ssn tsn) s))
