-- Isolation needs its condition: after two runs from fresh with the same 16 pushes on stream 7, one more is refused with 8 where stream 0 was pushed
-- 400 chunks, and stored where it was not. And one stream has room for 400 chunks and not for 401.
-- Assumes nothing.
use mathlib.Core.Path.{◌≡◌, refl, ap, subst, ◌∙◌}
use mathlib.Core.Bool.{Bool, true, false}
use mathlib.Core.List.{List, [], ◌∷◌, ◌++◌}
use mathlib.Core.Logic.{inl}
use Prim.Native.Nat.{ℕ, zero, suc, ◌+◌, ◌≤◌}
use native.Mathlib.Omega.{arith}
use borrow.Author.Tests.{eq-eqb}
use lib.ListN.{length, get_or, set, length-append, replicate, length-replicate, replicate-append-replicate}
use Rattle.wire_model.specs.Refusal.{none, refuse, says}
use Rattle.serial_model.specs.Serial.{ahead, distance, before}
use Rattle.data_fields.specs.Fields.{data_flags, data_sent}
use Rattle.moves_model.specs.Lists.{slice, gone}
use Rattle.fragments.specs.Frag.{Frag}
use Rattle.fragments.specs.Words.{size, any, find, placed}
use Rattle.loose_fragments.specs.Loose.{runs, run, reach, starts_by, scan}
use Rattle.reassembly_state.specs.Model.{Queue, queue, held, Given, gives, move_run, keep_loose, push_unordered, push}
use Rattle.reassembly_state.specs.State.{fragment_of}
use Rattle.streams_model.specs.Room.{draws, raised, room_among}
use Rattle.streams_model.specs.State.{State, no_queue}
use Rattle.arrival.specs.Calls.{Chunk}
use Rattle.streams_theorems.specs.Runs.{Push, Call, Says, left, answer, start, ran, calls_on}
use Rattle.streams_theorems.specs.Alone.{Lent}
use Rattle.streams_theorems.proofs.Room.{drawable_room, exceeds_no_room}
use Rattle.streams_theorems.proofs.Acts.{frag_of, pushes}
use Rattle.streams_theorems.proofs.Good.{changed}
use Rattle.streams_theorems.proofs.Stays.{Holds, left_holds, answer-is, fresh_holds}

-- ── the same empty message over and over, whole and unordered ──

abbrev pub bare : ℕ → Chunk
bare k =
    record {
      fields = record {
        unordered = true;
        beginning_fragment = true;
        ending_fragment = true;
        immediate_sack = false;
        tsn = 4;
        stream_identifier = k;
        stream_sequence_number = 0;
        payload_type = 50;
      };
      bytes = [];
    }

-- a queue that holds it n times
abbrev many : ℕ → ℕ → Queue
many k n = queue k 0 3 (replicate n (frag_of (bare k))) [] []

many-frags : (k n : ℕ) → length (held (many k n)) ≡ n
many-frags k n = length-append (replicate n (frag_of (bare k))) [] ∙ omega (arith, length-replicate n (frag_of (bare k)))

many-bytes : (k n : ℕ) → size (held (many k n)) ≡ 0
unfolding size fragment_of
many-bytes k zero = refl
many-bytes k (suc n) = let e = many-bytes k n in omega arith

-- with room it is stored once more
once_more : (k n : ℕ) → pushes true (many k n) (bare k) ≡ gives (says none true) (many k (n + 1))
unfolding push push_unordered keep_loose move_run placed any size reach run runs find scan starts_by ahead distance before slice gone fragment_of data_flags data_sent
once_more k n = rw (eq-eqb k k refl) (ap (λ (l : List Frag). gives (says none true) (queue k 0 3 l [] [])) (replicate-append-replicate n 1 (frag_of (bare k))))

-- and without it is refused
no_more : (k n : ℕ) → (pushes false (many k n) (bare k)).told ≡ says (refuse 8) false
unfolding push push_unordered any size reach run runs find ahead distance before fragment_of data_flags data_sent
no_more k n = rw (eq-eqb k k refl)

-- ── m on stream 0, n on stream 7 ──

abbrev crowd : ℕ → ℕ → List Queue
crowd m n =
    many 0 m ∷ queue 1 0 3 [] [] [] ∷ queue 2 0 3 [] [] [] ∷ queue 3 0 3 [] [] [] ∷ queue 4 0 3 [] [] [] ∷ queue 5 0 3 [] [] [] ∷ queue 6 0 3 [] [] [] ∷ many 7 n ∷ []

module _ (m n : ℕ) where
  room_0 : m + 1 ≤ 400 → n ≤ 16 → room_among (crowd m n) 0 (frag_of (bare 0)) ≡ true
  unfolding draws raised size fragment_of
  room_0 h l =
      let a = many-frags 0 m in
      let b = many-frags 7 n in
      let c = many-bytes 0 m in
      let d = many-bytes 7 n in
      drawable_room (crowd m n) 0 (frag_of (bare 0)) (record { frags = omega arith; bytes = omega arith })

  room_7 : m ≤ 400 → n + 1 ≤ 16 → room_among (crowd m n) 7 (frag_of (bare 7)) ≡ true
  unfolding draws raised size fragment_of
  room_7 h l =
      let a = many-frags 0 m in
      let b = many-frags 7 n in
      let c = many-bytes 0 m in
      let d = many-bytes 7 n in
      drawable_room (crowd m n) 7 (frag_of (bare 7)) (record { frags = omega arith; bytes = omega arith })

  -- one stream alone fills what is common
  full_0 : m ≡ 400 → room_among (crowd m n) 0 (frag_of (bare 0)) ≡ false
  unfolding draws raised
  full_0 h =
      let a = many-frags 0 m in
      let b = many-frags 7 n in
      exceeds_no_room (crowd m n) 0 (frag_of (bare 0)) (inl (omega arith))

  -- and then there is no room for a 17th on another
  full_7 : m ≡ 400 → n ≡ 16 → room_among (crowd m n) 7 (frag_of (bare 7)) ≡ false
  unfolding draws raised
  full_7 h l =
      let a = many-frags 0 m in
      let b = many-frags 7 n in
      exceeds_no_room (crowd m n) 7 (frag_of (bare 7)) (inl (omega arith))

  room_17 : m ≡ 0 → n ≡ 16 → room_among (crowd m n) 7 (frag_of (bare 7)) ≡ true
  unfolding draws raised size fragment_of
  room_17 h l =
      let a = many-frags 0 m in
      let b = many-frags 7 n in
      let c = many-bytes 0 m in
      let d = many-bytes 7 n in
      drawable_room (crowd m n) 7 (frag_of (bare 7)) (record { frags = omega arith; bytes = omega arith })

-- ── the runs ──

abbrev onto : ℕ → Call
onto k = record { stream = k; act = Push (bare k) }

-- the queue after a push that has room
stored_by : (qs : List Queue) (k n : ℕ) → get_or qs k no_queue ≡ many k n → room_among qs k (frag_of (bare k)) ≡ true → changed qs k (Push (bare k)) ≡ set qs k (many k (n + 1))
stored_by qs k n e room =
    let one = ap (λ (q : Queue). pushes (room_among qs k (frag_of (bare k))) q (bare k)) e in
    let two = ap (λ (b : Bool). pushes b (many k n) (bare k)) room in
    ap (λ (g : Given Bool). set qs k g.queue) (one ∙ two ∙ once_more k n)

module _ {p : ℕ} where
  fill_0 : (j m n : ℕ) {s : State} → Holds p s (crowd m n) → m + j ≤ 400 → n ≤ 16 → Holds p (ran s (replicate j (onto 0))) (crowd (m + j) n)
  fill_0 zero m n h l k = let e : m + 0 ≡ m = omega arith in rw e h
  fill_0 (suc j) m n {s} h l k =
      let e : m + suc j ≡ m + 1 + j = omega arith in
      let next = subst (Holds p (left s 0 (Push (bare 0)))) (stored_by (crowd m n) 0 m refl (room_0 m n (omega arith) k)) (left_holds h 0 (omega arith) (Push (bare 0))) in
      rw e (fill_0 j (m + 1) n next (omega arith) k)

  fill_7 : (j m n : ℕ) {s : State} → Holds p s (crowd m n) → m ≤ 400 → n + j ≤ 16 → Holds p (ran s (replicate j (onto 7))) (crowd m (n + j))
  fill_7 zero m n h l k = let e : n + 0 ≡ n = omega arith in rw e h
  fill_7 (suc j) m n {s} h l k =
      let e : n + suc j ≡ n + 1 + j = omega arith in
      let next = subst (Holds p (left s 7 (Push (bare 7)))) (stored_by (crowd m n) 7 n refl (room_7 m n l (omega arith))) (left_holds h 7 (omega arith) (Push (bare 7))) in
      rw e (fill_7 j m (n + 1) next l (omega arith))

ran_append : (s : State) (a b : List Call) → ran s (a ++ b) ≡ ran (ran s a) b
ran_append s [] b = refl
ran_append s (c ∷ a) b = ran_append (left s c.stream c.act) a b

-- m pushes on stream 0, then n on stream 7
abbrev pub calls : ℕ → ℕ → List Call
calls m n = replicate m (onto 0) ++ replicate n (onto 7)

-- the calls on stream 7 are the same
pub its-calls : (m n : ℕ) → calls_on 7 (calls m n) ≡ calls_on 7 (calls 0 n)
its-calls zero n = refl
its-calls (suc m) n = its-calls m n

module _ (ws pool : List ℕ) (lent : Lent ws pool) (m n : ℕ) where
  abbrev s : State
  s = start 3 ws pool

  crowded : m ≤ 400 → n ≤ 16 → Holds (length pool) (ran s (calls m n)) (crowd m n)
  crowded h l =
      let x : 0 + m ≡ m = omega arith in
      let y : 0 + n ≡ n = omega arith in
      let f = rw x at (fill_0 m 0 0 (fresh_holds 3 ws pool lent.words lent.bytes) (omega arith) (omega arith)) in
      rw (ran_append s (replicate m (onto 0)) (replicate n (onto 7))) (rw y at (fill_7 n m 0 f h (omega arith)))

  -- what the 17th on stream 7 is told: 8 after 400 on stream 0, and that it is whole after none
  pub refused : m ≡ 400 → n ≡ 16 → answer (ran s (calls m n)) 7 (Push (bare 7)) ≡ Says (says (refuse 8) false)
  refused h l = answer-is (crowded (omega arith) (omega arith)) 7 (omega arith) (Push (bare 7)) ∙ rw (full_7 m n h l, no_more 7 n)

  pub stored : m ≡ 0 → n ≡ 16 → answer (ran s (calls m n)) 7 (Push (bare 7)) ≡ Says (says none true)
  stored h l = answer-is (crowded (omega arith) (omega arith)) 7 (omega arith) (Push (bare 7)) ∙ rw (room_17 m n h l, once_more 7 n)

  -- "the run-only case becomes 400 and 401 on one stream"
  pub the_400th : m ≡ 399 → n ≡ 0 → answer (ran s (calls m n)) 0 (Push (bare 0)) ≡ Says (says none true)
  the_400th h l = answer-is (crowded (omega arith) (omega arith)) 0 (omega arith) (Push (bare 0)) ∙ rw (room_0 m n (omega arith) (omega arith), once_more 0 m)

  pub the_401st : m ≡ 400 → n ≡ 0 → answer (ran s (calls m n)) 0 (Push (bare 0)) ≡ Says (says (refuse 8) false)
  the_401st h l = answer-is (crowded (omega arith) (omega arith)) 0 (omega arith) (Push (bare 0)) ∙ rw (full_0 m n h, no_more 0 m)
