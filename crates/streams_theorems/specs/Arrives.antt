-- "Demand 3 holds per stream with this room rule": arrival order does not matter on a stream, whatever is called on the others. What stands in quotes
-- is demand 3, phrase by phrase; plans, orders and merges are those of crate `arrival`.
-- Assumes nothing.
use Rattle.std.specs.Prelude.{◌≡◌, true, false, cond, List, [], ◌∷◌, ◌++◌, map, ℕ, ◌<◌, ◌≤◌, length}
use Rattle.wire_model.specs.Refusal.{none, says}
use Rattle.fragments.specs.Words.{size}
use Rattle.reassembly_state.specs.Limits.{frags_most}
use Rattle.reassembly_state.specs.Model.{held, no_message, turn}
use Rattle.streams_model.specs.Limits.{streams_most}
use Rattle.streams_model.specs.State.{State, own, is_readable, reads, read, num_bytes}
use Rattle.arrival_plan.specs.Plan.{Order, Merge}
use Rattle.arrival.specs.Calls.{Chunk, Sent, chunks_of, Plan, Came, came, message, in_order}
use Rattle.streams_theorems.specs.Runs.{Act, Push, Take, IsReadable, NumBytes, SkipOrdered, SkipUnordered, SkipBounded, Applicable, Call, Answer, Says, Gives, Counts, Finds, refusal_of, start, ran, calls_on, answers_on, EachOn, Roomy}
use Rattle.streams_theorems.specs.Alone.{Lent}

-- ── the calls on the stream ──

-- "no skip"; a look may stand anywhere
abbrev pub NoSkip : List Act → Type 0
NoSkip [] = Unit {0}
NoSkip (Push c ∷ acts) = NoSkip acts
NoSkip (Take b ∷ acts) = NoSkip acts
NoSkip (IsReadable ∷ acts) = NoSkip acts
NoSkip (NumBytes ∷ acts) = NoSkip acts
NoSkip (SkipOrdered ssn ∷ acts) = ⊥
NoSkip (SkipUnordered tsn ∷ acts) = ⊥
NoSkip (SkipBounded ssn tsn ∷ acts) = ⊥
NoSkip (Applicable ssn tsn peer ∷ acts) = NoSkip acts

-- the chunks that are pushed
abbrev pub pushed : List Act → List Chunk
pushed [] = []
pushed (Push c ∷ acts) = c ∷ pushed acts
pushed (Take b ∷ acts) = pushed acts
pushed (IsReadable ∷ acts) = pushed acts
pushed (NumBytes ∷ acts) = pushed acts
pushed (SkipOrdered ssn ∷ acts) = pushed acts
pushed (SkipUnordered tsn ∷ acts) = pushed acts
pushed (SkipBounded ssn tsn ∷ acts) = pushed acts
pushed (Applicable ssn tsn peer ∷ acts) = pushed acts

-- "take buffers long enough": for the message in turn, if there is one
abbrev pub Long : ℕ → State → Act → Type 0
Long k s (Push c) = Unit {0}
Long k s (Take b) = is_readable s k ≡ says none true → size (turn (own s k)).frags ≤ length b
Long k s IsReadable = Unit {0}
Long k s NumBytes = Unit {0}
Long k s (SkipOrdered ssn) = Unit {0}
Long k s (SkipUnordered tsn) = Unit {0}
Long k s (SkipBounded ssn tsn) = Unit {0}
Long k s (Applicable ssn tsn peer) = Unit {0}

-- the calls on stream k, as the demand has them; those on the others are any
pub record RunOn (k : ℕ) (os us : List Sent) (s : State) (calls : List Call) : Type 0 where
  -- "Each chunk comes once, in any order, takes anywhere between"
  pub once : Order Chunk (pushed (calls_on k calls)) (chunks_of os ++ chunks_of us)
  -- "no skip"
  pub no_skip : NoSkip (calls_on k calls)
  -- "room never exceeded", by the rule of eight streams
  pub room : EachOn k (Roomy k) s calls
  -- "take buffers long enough"
  pub long : EachOn k (Long k) s calls

-- ── what comes out ──

-- the messages that takes gave, in the order in which they came: what the answer says, and as many bytes from the front of the lent buffer
abbrev pub came_in : List Answer → List Came
came_in [] = []
came_in (Says t ∷ rest) = came_in rest
came_in (Gives t b ∷ rest) = cond t.values.comes (came t.values b ∷ came_in rest) (came_in rest)
came_in (Counts t ∷ rest) = came_in rest
came_in (Finds t ∷ rest) = came_in rest

abbrev pub Unrefused : List Answer → Type 0
Unrefused [] = Unit {0}
Unrefused (x ∷ rest) = (refusal_of x ≡ none) × Unrefused rest

-- what the demand says of stream k
pub record ArrivedOn (k : ℕ) (os us : List Sent) (s : State) (calls : List Call) : Type 0 where
  -- "unordered ones in some order", "each once and byte for byte": an unordered message has SSN 0
  pub loose : List Came
  pub some_order : Order Came loose (map (message 0) us)
  -- "ordered messages came out in number order"
  pub merged : Merge Came (in_order 0 os) loose (came_in (answers_on k s calls))
  -- "nothing is held"
  pub nothing-held : held (own (ran s calls) k) ≡ []
  -- "the byte count is 0"
  pub no_bytes : num_bytes (ran s calls) k ≡ says none 0
  -- no call on the stream was refused
  pub unrefused : Unrefused (answers_on k s calls)
  -- one more take answers that nothing is there, and leaves all as it is
  pub no_more : (buffer : List ℕ) → read (ran s calls) k buffer ≡ reads (says none no_message) (ran s calls) buffer

-- ── the claims ──

-- "Start from a fresh queue"; "Take until nothing is readable"
abbrev pub Arrives : Type 0
Arrives =
    (max k base : ℕ) → k < streams_most
    → (os us : List Sent) → Plan k base max os us
    → (ws pool : List ℕ) → Lent ws pool
    → (calls : List Call) → RunOn k os us (start max ws pool) calls
    → is_readable (ran (start max ws pool) calls) k ≡ says none false
    → ArrivedOn k os us (start max ws pool) calls

-- "Take until nothing is readable" has an end: where the last calls on the stream are 512 takes, nothing is
abbrev pub Arrives_then_takes : Type 0
Arrives_then_takes =
    (max k base : ℕ) → k < streams_most
    → (os us : List Sent) → Plan k base max os us
    → (ws pool : List ℕ) → Lent ws pool
    → (calls : List Call) (acts : List Act) (buffers : List (List ℕ)) → calls_on k calls ≡ acts ++ map Take buffers → frags_most ≤ length buffers
    → RunOn k os us (start max ws pool) calls
    → ArrivedOn k os us (start max ws pool) calls
