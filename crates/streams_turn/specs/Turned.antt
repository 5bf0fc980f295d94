-- Where the message that is next to be taken of a stream stands among all that is held: what the calls' inner functions ask of each other. No promise of
-- a public call names these.
-- Assumes nothing.
use Rattle.std.specs.Prelude.{◌≡◌, cond, ℕ, ◌+◌, ◌-◌, ◌≤◌, ltb, length}
use Rattle.reassembly_state.specs.Model.{Queue, turn}
use Rattle.streams_model.specs.State.{State, own}
use Rattle.streams_model.specs.Among.{rows_before}

-- among a queue's own: a finished one is first of all, an ordered one first of the ordered ones
abbrev pub first_of : Queue → ℕ
first_of m = cond (ltb 0 (length m.finished)) 0 (length m.finished + length m.unordered)

pub record Turned (s : State) (j from to : ℕ) : Type 0 where
  pub from_is : from ≡ rows_before s j + first_of (own s j)
  pub upward : from ≤ to
  pub run_is : to - from ≡ length (turn (own s j)).frags
