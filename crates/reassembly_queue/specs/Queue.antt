-- The struct of the public calls, as the state below it.
-- Assumes nothing.
use Rattle.std.specs.Prelude.{ℕ, List}
use Rattle.reassembly_state.specs.State as state
use Rattle.reassembly_state.specs.State.{State}
use Rattle.reassembly_queue.specs.declared.ReassemblyQueue.{ReassemblyQueue}

-- a struct, and the words and bytes lent beside it
abbrev pub state_of : ReassemblyQueue → List ℕ → List ℕ → State
state_of q ws pool = state.state_of q.counts ws pool

-- a fresh queue expects SSN 0 and holds nothing
abbrev pub fresh : ℕ → ℕ → ReassemblyQueue
fresh si max =
    record { counts = record { si = si; next_ssn = 0; max_message_size = max; finished = 0; unordered = 0; ordered = 0; n_bytes = 0 } }
