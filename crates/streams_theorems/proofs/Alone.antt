-- A stream with room for its pushes is as its queue alone, and one within its own has room: the claims of specs/Alone, proved.
-- Assumes nothing.
use mathlib.Core.Path.{◌≡◌, refl, sym, ap, subst, ◌∙◌}
use mathlib.Core.Bool.{Bool, true, false}
use mathlib.Core.List.{List, []}
use mathlib.Core.Logic.{◌⊎◌, inl, inr}
use Prim.Native.Nat.{ℕ, ◌<◌}
use native.Mathlib.Omega.{arith}
use borrow.Author.Tests.{lt-leb}
use lib.ListN.{length, get_or}
use Rattle.wire_model.specs.Refusal.{none, says}
use Rattle.fragments.specs.Words.{size}
use Rattle.reassembly_state.specs.Model.{Queue, queue, held, Given, room_for}
use Rattle.reassembly_state.specs.State as one
use Rattle.reassembly_state.proofs.Laws.{held-view}
use Rattle.streams_model.specs.Limits.{streams_most}
use Rattle.streams_model.specs.Room.{room_among}
use Rattle.streams_model.specs.State.{State, no_queue, own, num_bytes}
use Rattle.arrival.proofs.Bridge as bridge
use Rattle.arrival.specs.Calls.{Chunk}
use Rattle.streams_theorems.specs.Runs.{Act, Push, Call, Says, start, answer, ran, calls_on, EachOn, OfPush, NotFull, would_leave, WithinOwn, OnItsOwn}
use Rattle.streams_theorems.specs.Alone.{Lent, Alone, Isolated}
use Rattle.streams_theorems.specs.Rule.{Drawn}
use Rattle.streams_theorems.proofs.Room.{OneMore, room_alone, sure}
use Rattle.streams_theorems.proofs.Stored.{Grown}
use Rattle.streams_theorems.proofs.Acts.{frag_of, pushes, leaves, tells, room_of, full, alike, with_room}
use Rattle.streams_theorems.proofs.Stays.{Holds, answer-is, starts, fresh_holds, fresh-drawn, fresh-own}
use Rattle.streams_theorems.proofs.Follow.{ran_on, told_on, Each, Free, free_unless, Followed, follow, lower}
use Rattle.streams_theorems.proofs.Single as single
use Rattle.streams_theorems.proofs.Single.{FreeAlone}

-- ── a push that is not refused with 8 does as with room ──

free_push : (room : Bool) (q : Queue) (c : Chunk) → pushes room q c ≡ pushes true q c → Free room q (Push c)
free_push room q c e = record { leaves = ap (λ (g : Given Bool). g.queue) e; tells = ap (λ (g : Given Bool). Says g.told) e }

-- and so by another rule, that gives room where this one does
free_other : (room other : Bool) (q : Queue) (c : Chunk) → (room ≡ true → other ≡ true) → (full (pushes room q c) → ⊥) → Free other q (Push c)
free_other true other q c h f = free_push other q c (ap (λ (b : Bool). pushes b q c) (h refl))
free_other false true q c h f = record { leaves = refl; tells = refl }
free_other false false q c h f = free_push false q c (sym ((alike q c).is f))

-- a push that does the same with room and without
either_room : (q : Queue) (c : Chunk) → pushes true q c ≡ pushes false q c → (room : Bool) → pushes room q c ≡ pushes true q c
either_room q c e true = refl
either_room q c e false = sym e

-- a push within the stream's own, on the model
abbrev pub Small : Queue → Act → Type 0
Small q a = OfPush (λ (c : Chunk). WithinOwn (would_leave q c)) a

module _ (n k : ℕ) (below : k < streams_most) where
  not_full : (s : State) (qs : List Queue) → Holds n s qs → Drawn qs → (a : Act) → NotFull k s a
      → Free (room_of (room_among qs k) a) (get_or qs k no_queue) a × FreeAlone (get_or qs k no_queue) a
  not_full s qs h d a p = (
    free_unless (room_among qs k) q a (λ c e. free_push (room c) q c (with_room q c (room c) (refused c e))),
    free_unless (room_for q) q a (λ c e. free_other (room c) (room_for q (frag_of c)) q c (room_alone qs k (frag_of c) h.good.eight below) (refused c e)),
  )
    where
      q : Queue
      q = get_or qs k no_queue

      room : Chunk → Bool
      room c = room_among qs k (frag_of c)

      refused : (c : Chunk) → a ≡ Push c → full (pushes (room c) q c) → ⊥
      refused c e = p _ (ap (answer s k) e ∙ answer-is h k below (Push c))

  -- ── a push within the stream's own has room ──

  pub on-its-own : (s : State) (qs : List Queue) → Holds n s qs → Drawn qs → (a : Act) → OnItsOwn k s a
      → Free (room_of (room_among qs k) a) (get_or qs k no_queue) a × Small (get_or qs k no_queue) a
  on-its-own s qs h d a p =
      let w : Small (get_or qs k no_queue) a = rw h.seen at p in
      (free_unless (room_among qs k) (get_or qs k no_queue) a (λ c e. roomy c (subst (Small (get_or qs k no_queue)) e w)), w)
    where
      -- a chunk that would be stored leaves the queue with one more: so it has room
      roomy : (c : Chunk) → WithinOwn (would_leave (get_or qs k no_queue) c) → Free (room_among qs k (frag_of c)) (get_or qs k no_queue) (Push c)
      roomy c w = go (alike (get_or qs k no_queue) c).grows
        where
          go : (pushes true (get_or qs k no_queue) c ≡ pushes false (get_or qs k no_queue) c) ⊎ Grown (get_or qs k no_queue) (frag_of c) (would_leave (get_or qs k no_queue) c)
              → Free (room_among qs k (frag_of c)) (get_or qs k no_queue) (Push c)
          go (inl e) = free_push _ _ c (either_room (get_or qs k no_queue) c e (room_among qs k (frag_of c)))
          go (inr g) =
              let s : OneMore (get_or qs k no_queue) (frag_of c) = record { frags = omega (arith, g.frags, w.frags); bytes = omega (arith, g.bytes, w.bytes) } in
              free_push _ _ c (ap (λ (b : Bool). pushes b (get_or qs k no_queue) c) (sure qs k (frag_of c) h.good.eight below d s))

  pub small_own : (s : State) (qs : List Queue) → Holds n s qs → Drawn qs → (a : Act) → Small (get_or qs k no_queue) a
      → Free (room_of (room_among qs k) a) (get_or qs k no_queue) a × OnItsOwn k s a
  small_own s qs h d a p = let o : OnItsOwn k s a = rw h.seen p in ((on-its-own s qs h d a o).0, o)

-- ── the byte count ──

count-is : {n : ℕ} {s : State} {qs : List Queue} → Holds n s qs → (k : ℕ) → k < streams_most → num_bytes s k ≡ says none (size (held (get_or qs k no_queue)))
unfolding num_bytes
count-is h k below = rw (h.sound, lt-leb streams_most k below, h.seen)

pub count_alone : {t : one.State} {q : Queue} → bridge.Holds t q → one.num_bytes t ≡ says none (size (held q))
unfolding one.num_bytes
count_alone {t} h = rw (h.sound, ← (held-view t), h.seen)

-- ── from fresh ──

module _ (max k : ℕ) (below : k < streams_most) (ws pool : List ℕ) (lent : Lent ws pool) (calls : List Call) where
  abbrev s : State
  s = start max ws pool

  abbrev begins : Queue
  begins = queue k 0 max [] [] []

  holds : Holds (length pool) s (starts max)
  holds = fresh_holds max ws pool lent.words lent.bytes

  with_room_followed : EachOn k (NotFull k) s calls → Followed (length pool) k FreeAlone s begins calls
  with_room_followed e = rw (fresh-own max k below) at (follow (length pool) k below (NotFull k) FreeAlone (not_full (length pool) k below) holds (fresh-drawn max) calls e)

  pub own_followed : EachOn k (OnItsOwn k) s calls → Followed (length pool) k Small s begins calls
  own_followed e = rw (fresh-own max k below) at (follow (length pool) k below (OnItsOwn k) Small (on-its-own (length pool) k below) holds (fresh-drawn max) calls e)

  own-lower : Each Small begins (calls_on k calls) → EachOn k (OnItsOwn k) s calls
  own-lower e = lower (length pool) k below (OnItsOwn k) Small (small_own (length pool) k below) holds (fresh-drawn max) calls (rw (fresh-own max k below) e)

  -- what is followed: the queue at the end, and its byte count
  module _ {M : Queue → Act → Type 0} (f : Followed (length pool) k M s begins calls) where
    pub own_is : own (ran s calls) k ≡ ran_on begins (calls_on k calls)
    own_is = ap (λ (qs : List Queue). get_or qs k no_queue) f.holds.seen ∙ f.is

    pub own-count : num_bytes (ran s calls) k ≡ says none (size (held (ran_on begins (calls_on k calls))))
    own-count = count-is f.holds k below ∙ ap (λ (q : Queue). says none (size (held q))) f.is

-- ── the theorems ──

pub alone : Alone
alone max k below ws pool lent ws' pool' lent' calls e =
    let f = with_room_followed max k below ws pool lent calls e in
    let g = single.follow (bridge.fresh_holds k max ws' pool' lent'.words lent'.bytes) (calls_on k calls) f.each in
    record {
      answers = f.answers ∙ sym g.answers;
      holds = own_is max k below ws pool lent calls f ∙ sym g.holds.seen;
      count = own-count max k below ws pool lent calls f ∙ sym (count_alone g.holds);
    }

pub isolated : Isolated
isolated max k below ws pool lent ws' pool' lent' calls calls' same e =
    let f = own_followed max k below ws pool lent calls e in
    let e' = own-lower max k below ws' pool' lent' calls' (subst (Each Small (queue k 0 max [] [] [])) same f.each) in
    let f' = own_followed max k below ws' pool' lent' calls' e' in
    record {
      answers = f.answers ∙ ap (told_on (queue k 0 max [] [] [])) same ∙ sym f'.answers;
      holds = own_is max k below ws pool lent calls f ∙ ap (ran_on (queue k 0 max [] [] [])) same ∙ sym (own_is max k below ws' pool' lent' calls' f');
      count = own-count max k below ws pool lent calls f ∙ ap (λ (acts : List Act). says none (size (held (ran_on (queue k 0 max [] [] []) acts)))) same
          ∙ sym (own-count max k below ws' pool' lent' calls' f');
    }
