-- What one stream is told does not depend on the others: with room for its pushes it is what its queue alone would tell, and within its own there
-- always is room. What stands in quotes is the request, phrase by phrase.
-- Assumes nothing.
use Rattle.std.specs.Prelude.{◌≡◌, List, ℕ, ◌*◌, ◌<◌, ◌≤◌, length}
use Rattle.reassembly_state.specs.Limits.{frags_most, bytes_most}
use Rattle.reassembly_state.specs.State as one
use Rattle.reassembly_queue.specs.Queue.{state_of, fresh}
use Rattle.streams_model.specs.Limits.{streams_most}
use Rattle.streams_model.specs.State.{State, own, num_bytes}
use Rattle.streams_theorems.specs.Runs.{Call, start, ran, calls_on, answers_on, EachOn, ran_alone, answers_alone, NotFull, OnItsOwn}

-- the words of a table and the bytes of a pool, as they may be lent: they hold anything
pub record Lent (ws pool : List ℕ) : Type 0 where
  pub words : length ws ≡ 4 * frags_most
  pub bytes : bytes_most ≤ length pool

-- a fresh queue of one stream, with a table and a pool of its own
abbrev pub start_alone : ℕ → ℕ → List ℕ → List ℕ → one.State
start_alone k max ws pool = state_of (fresh k max) ws pool

-- ── a stream as its queue alone ──

-- the calls on stream k, of a run on eight streams from s, and the same calls alone from t
pub record AsAlone (k : ℕ) (s : State) (t : one.State) (calls : List Call) : Type 0 where
  -- every answer, and with a take's answer its lent buffer
  pub answers : answers_on k s calls ≡ answers_alone t (calls_on k calls)
  -- what the stream holds at the end
  pub holds : own (ran s calls) k ≡ one.view (ran_alone t (calls_on k calls))
  -- its byte count
  pub count : num_bytes (ran s calls) k ≡ one.num_bytes (ran_alone t (calls_on k calls))

-- any run from fresh in which no push on the stream is refused with 8: this and document 01's room rule are the only difference
abbrev pub Alone : Type 0
Alone =
    (max k : ℕ) → k < streams_most
    → (ws pool : List ℕ) → Lent ws pool
    → (ws' pool' : List ℕ) → Lent ws' pool'
    → (calls : List Call) → EachOn k (NotFull k) (start max ws pool) calls
    → AsAlone k (start max ws pool) (start_alone k max ws' pool') calls

-- ── a stream within its own ──

-- two runs, and stream k
pub record SameOn (k : ℕ) (s s' : State) (calls calls' : List Call) : Type 0 where
  -- "its answers, taken bytes"
  pub answers : answers_on k s calls ≡ answers_on k s' calls'
  -- what it holds at the end
  pub holds : own (ran s calls) k ≡ own (ran s' calls') k
  -- "and byte count are the same"
  pub count : num_bytes (ran s calls) k ≡ num_bytes (ran s' calls') k

-- "In two runs from fresh, queue and pool handed on as in demand 3, with otherwise the same calls on one stream and any calls on the others, if each
-- of its pushes would leave it within its own 16 and 4,096, its answers, taken bytes and byte count are the same." The condition is asked of one run
abbrev pub Isolated : Type 0
Isolated =
    (max k : ℕ) → k < streams_most
    → (ws pool : List ℕ) → Lent ws pool
    → (ws' pool' : List ℕ) → Lent ws' pool'
    → (calls calls' : List Call) → calls_on k calls ≡ calls_on k calls'
    → EachOn k (OnItsOwn k) (start max ws pool) calls
    → SameOn k (start max ws pool) (start max ws' pool') calls calls'
