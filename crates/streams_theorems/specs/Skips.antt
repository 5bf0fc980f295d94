-- The guarantee with skips, per stream: what crate `arrival_with_skips` says of one stream's queue holds of each of eight, with the room rule of
-- eight, whatever is called on the others. What stands in quotes is that request, phrase by phrase.
-- Assumes nothing.
use Rattle.std.specs.Prelude.{◌≡◌, false, List, [], ◌∷◌, ◌++◌, map, ℕ, ◌<◌, ◌≤◌, length, take, drop}
use Rattle.wire_model.specs.Refusal.{none, says}
use Rattle.reassembly_state.specs.Limits.{frags_most}
use Rattle.reassembly_state.specs.Model.{held, no_message}
use Rattle.streams_model.specs.Limits.{streams_most}
use Rattle.streams_model.specs.State.{State, own, is_readable, reads, read, num_bytes}
use Rattle.arrival_plan.specs.Plan.{Order, Merge}
use Rattle.arrival.specs.Calls.{Chunk, Sent, bytes_of, chunks_of, Plan, Came, message, in_order}
use Rattle.arrival_with_skips.specs.Skips as skips
use Rattle.arrival_with_skips.specs.Skips.{pushes, ssns, tsns, Named, AllInArc, up_to, Touched, AllNeedless, piece}
use Rattle.streams_theorems.specs.Runs.{Act, Push, Take, IsReadable, NumBytes, SkipOrdered, SkipUnordered, SkipBounded, Applicable, Call, start, ran, calls_on, answers_on, EachOn, Roomy}
use Rattle.streams_theorems.specs.Alone.{Lent}
use Rattle.streams_theorems.specs.Arrives.{Long, came_in, Unrefused}

-- ── the calls on the stream ──

-- no bounded skip, of which that request does not speak; a look may stand anywhere
abbrev pub Unbounded : List Act → Type 0
Unbounded [] = Unit {0}
Unbounded (Push c ∷ acts) = Unbounded acts
Unbounded (Take b ∷ acts) = Unbounded acts
Unbounded (IsReadable ∷ acts) = Unbounded acts
Unbounded (NumBytes ∷ acts) = Unbounded acts
Unbounded (SkipOrdered ssn ∷ acts) = Unbounded acts
Unbounded (SkipUnordered tsn ∷ acts) = Unbounded acts
Unbounded (SkipBounded ssn tsn ∷ acts) = ⊥
Unbounded (Applicable ssn tsn peer ∷ acts) = Unbounded acts

-- its pushes, takes and skips
abbrev pub asked : List Act → List skips.Call
asked [] = []
asked (Push c ∷ acts) = skips.Push c ∷ asked acts
asked (Take b ∷ acts) = skips.Take b ∷ asked acts
asked (IsReadable ∷ acts) = asked acts
asked (NumBytes ∷ acts) = asked acts
asked (SkipOrdered ssn ∷ acts) = skips.SkipOrdered ssn ∷ asked acts
asked (SkipUnordered tsn ∷ acts) = skips.SkipUnordered tsn ∷ asked acts
asked (SkipBounded ssn tsn ∷ acts) = asked acts
asked (Applicable ssn tsn peer ∷ acts) = asked acts

abbrev pub asked_on : ℕ → List Call → List skips.Call
asked_on k calls = asked (calls_on k calls)

-- the calls on stream k, as the guarantee has them; `never` are chunks that do not come
pub record RunOn (k base : ℕ) (os us : List Sent) (s : State) (calls : List Call) (never : List Chunk) : Type 0 where
  -- "Each chunk comes once, in any order"
  pub once : Order Chunk (pushes (asked_on k calls) ++ never) (chunks_of os ++ chunks_of us)
  pub unbounded : Unbounded (calls_on k calls)
  -- "room never exceeded", by the rule of eight streams
  pub room : EachOn k (Roomy k) s calls
  -- "take buffers long enough"
  pub long : EachOn k (Long k) s calls
  -- "Each ordered skip names an SSN of the plan"
  pub named : Named os (ssns (asked_on k calls))
  -- "each unordered one a TSN in the same arc"
  pub in_arc : AllInArc base (tsns (asked_on k calls))

-- ── what comes out ──

-- At any time, whatever has not come: "every message taken is a whole message of the plan, byte for byte"
pub record TakenOn (k : ℕ) (os us : List Sent) (s : State) (calls : List Call) : Type 0 where
  -- the ordered messages that came, and those that did not; "none comes twice"
  pub came : List Came
  pub lost : List Came
  pub numbered : Merge Came came lost (in_order 0 os)
  -- the unordered messages that came, in the order in which they came, and those that did not; "none comes twice"
  pub loose : List Sent
  pub gone : List Sent
  pub unnumbered : Order Sent (loose ++ gone) us
  -- "ordered ones come in number order"; an unordered message has SSN 0
  pub merged : Merge Came came (map (message 0) loose) (came_in (answers_on k s calls))
  -- no call on the stream was refused
  pub unrefused : Unrefused (answers_on k s calls)

-- "once taking ends"
pub record ArrivedOn (k : ℕ) (os us : List Sent) (s : State) (calls : List Call) : Type 0 where
  pub taken : TakenOn k os us s calls
  -- "every ordered message numbered after the highest skipped SSN comes out": behind those up to it that came; the others up to it are all that did not
  pub early : List Came
  pub numbered : Merge Came early taken.lost (in_order 0 (take (up_to (asked_on k calls)) os))
  pub behind : taken.came ≡ early ++ in_order (up_to (asked_on k calls)) (drop (up_to (asked_on k calls)) os)
  -- "every unordered message all of whose TSNs are after the highest skipped TSN does too": those that did not come are others
  pub touched : Touched (tsns (asked_on k calls)) taken.gone
  -- "What remains held may only be pieces of unordered messages touched by a skip": of their chunks some are held, the others are not
  pub pieces : List Chunk
  pub others : List Chunk
  pub parted : Merge Chunk pieces others (chunks_of taken.gone)
  pub holds : held (own (ran s calls) k) ≡ map piece pieces
  -- "and the byte count is their sum"
  pub bytes : num_bytes (ran s calls) k ≡ says none (length (bytes_of pieces))
  -- one more take answers that nothing is there, and leaves all as it is
  pub no_more : (buffer : List ℕ) → read (ran s calls) k buffer ≡ reads (says none no_message) (ran s calls) buffer

-- ── the claims ──

abbrev pub Always : Type 0
Always =
    (max k base : ℕ) → k < streams_most
    → (os us : List Sent) → Plan k base max os us
    → (ws pool : List ℕ) → Lent ws pool
    → (calls : List Call) (never : List Chunk) → RunOn k base os us (start max ws pool) calls never
    → TakenOn k os us (start max ws pool) calls

-- and where every chunk came, but for some that a skip makes needless: "Take until nothing is readable"
abbrev pub Arrives : Type 0
Arrives =
    (max k base : ℕ) → k < streams_most
    → (os us : List Sent) → Plan k base max os us
    → (ws pool : List ℕ) → Lent ws pool
    → (calls : List Call) (never : List Chunk) → RunOn k base os us (start max ws pool) calls never → AllNeedless (asked_on k calls) never
    → is_readable (ran (start max ws pool) calls) k ≡ says none false
    → ArrivedOn k os us (start max ws pool) calls

-- and taking ends: where the last calls on the stream are as many takes as the table has records, nothing is readable
abbrev pub Arrives_then_takes : Type 0
Arrives_then_takes =
    (max k base : ℕ) → k < streams_most
    → (os us : List Sent) → Plan k base max os us
    → (ws pool : List ℕ) → Lent ws pool
    → (calls : List Call) (acts : List Act) (buffers : List (List ℕ)) → calls_on k calls ≡ acts ++ map Take buffers → frags_most ≤ length buffers
    → (never : List Chunk) → RunOn k base os us (start max ws pool) calls never → AllNeedless (asked_on k calls) never
    → ArrivedOn k os us (start max ws pool) calls
