-- The room rule of eight streams, and what comes before it: what follows from the definitions. What stands in quotes is the request.
-- Assumes nothing.
use Rattle.std.specs.Prelude.{◌≡◌, true, false, List, map, ◌⊎◌, ℕ, ◌+◌, ◌<◌, ◌≤◌, length}
use Rattle.wire_model.specs.Refusal.{refuse}
use Rattle.fragments.specs.Frag.{Frag}
use Rattle.fragments.specs.Words.{size}
use Rattle.reassembly_state.specs.Limits.{frags_most, bytes_most}
use Rattle.reassembly_state.specs.Model.{Queue, held, room_for, push}
use Rattle.reassembly_state.specs.State.{fragment_of}
use Rattle.streams_model.specs.Limits.{streams_most, own_frags, own_bytes, common_frags, common_bytes}
use Rattle.streams_model.specs.Room.{draws, raised, frags_held, bytes_held, room_among}
use Rattle.streams_model.specs.State.{State, unsound, fragments, view, own, pushed}
use Rattle.arrival.specs.Calls.{Chunk}
use Rattle.streams_theorems.specs.Runs.{Act, Call, left, answer, refusal_of, start, ran, would_leave, WithinOwn}
use Rattle.streams_theorems.specs.Alone.{Lent}

abbrev pub frag_of : Chunk → Frag
frag_of c = fragment_of c.fields c.bytes

-- ── "Refusal 8 is given exactly when, after the push, the streams' draws would add to more than the common part, in either measure" ──

-- after a push on stream k the draws would add to more
abbrev pub Exceeds : List Queue → ℕ → Frag → Type 0
Exceeds qs k f = (common_frags < draws own_frags (raised k 1 (map frags_held qs))) ⊎ (common_bytes < draws own_bytes (raised k (length f.bytes) (map bytes_held qs)))

-- Room is asked for: without any, the queue refuses the push with 8. It is not asked for where document 01 answers before it: the chunk is of
-- another stream, too large, before the expected SSN, or its TSN is held
abbrev pub Asks : Queue → Chunk → Type 0
Asks q c = (push false q c.fields.stream_identifier c.fields.unordered (frag_of c)).told.refusal ≡ refuse 8

pub record Exactly (s : State) (k : ℕ) (c : Chunk) : Type 0 where
  pub exceeds : (pushed s k c.fields c.bytes).told.refusal ≡ refuse 8 → Exceeds (view s) k (frag_of c)
  pub asks : (pushed s k c.fields c.bytes).told.refusal ≡ refuse 8 → Asks (own s k) c
  pub given : Exceeds (view s) k (frag_of c) → Asks (own s k) c → (pushed s k c.fields c.bytes).told.refusal ≡ refuse 8

abbrev pub Full : Type 0
Full = (s : State) → unsound s ≡ false → (k : ℕ) → k < streams_most → (c : Chunk) → Exactly s k c

-- ── "Eight streams now share the 512 fragments and 65,536 bytes" ──

pub record Shared (s : State) (k : ℕ) (f : Frag) : Type 0 where
  -- all streams together hold no more with the push: 8 * 16 + 384 = 512 and 8 * 4,096 + 32,768 = 65,536
  pub frags : length (fragments s) + 1 ≤ frags_most
  pub bytes : size (fragments s) + length f.bytes ≤ bytes_most
  -- "the run-only case becomes 400 and 401 on one stream": a stream holds no more than its own and all that is common
  pub own-frags : length (held (own s k)) + 1 ≤ own_frags + common_frags
  pub own-bytes : size (held (own s k)) + length f.bytes ≤ own_bytes + common_bytes
  -- so document 01's rule has room too
  pub alone : room_for (own s k) f ≡ true

-- where the rule has room
abbrev pub Enough : Type 0
Enough =
    (s : State) → length s.queues ≡ streams_most → (k : ℕ) → k < streams_most
    → (f : Frag) → room_among (view s) k f ≡ true → Shared s k f

-- ── "Each is sure of 16 fragments and 4,096 bytes" ──

-- the draws do not add to more than the common part
pub record Drawn (qs : List Queue) : Type 0 where
  pub frags : draws own_frags (map frags_held qs) ≤ common_frags
  pub bytes : draws own_bytes (map bytes_held qs) ≤ common_bytes

-- so it is in any run from fresh, and a push that would leave a stream within its own is not refused with 8
pub record Sure (s : State) : Type 0 where
  pub drawn : Drawn (view s)
  pub sure : (k : ℕ) → k < streams_most → (c : Chunk) → WithinOwn (would_leave (own s k) c) → (pushed s k c.fields c.bytes).told.refusal ≡ refuse 8 → ⊥

abbrev pub Reserved : Type 0
Reserved = (max : ℕ) (ws pool : List ℕ) → Lent ws pool → (calls : List Call) → Sure (ran (start max ws pool) calls)

-- ── "A stream number of 8 or above is refusal 19, after 0 and before all else" ──

pub record Refused (n : ℕ) (s : State) (k : ℕ) (a : Act) : Type 0 where
  pub refusal : refusal_of (answer s k a) ≡ refuse n
  pub unchanged : left s k a ≡ s

abbrev pub Before_all : Type 0
Before_all = (s : State) → unsound s ≡ true → (k : ℕ) (a : Act) → Refused 0 s k a

abbrev pub No_stream : Type 0
No_stream = (s : State) → unsound s ≡ false → (k : ℕ) → streams_most ≤ k → (a : Act) → Refused 19 s k a

-- ── every call leaves sound streams sound ──

-- t is sound, has eight queues, and its table and pool are as long as before
pub record Stays (s t : State) : Type 0 where
  pub sound : unsound t ≡ false
  pub queues : length t.queues ≡ streams_most
  pub rows : length t.rows ≡ frags_most
  pub pool : length t.pool ≡ length s.pool

abbrev pub Sound_stays : Type 0
Sound_stays = (s : State) → unsound s ≡ false → length s.queues ≡ streams_most → length s.rows ≡ frags_most → (k : ℕ) (a : Act) → Stays s (left s k a)
