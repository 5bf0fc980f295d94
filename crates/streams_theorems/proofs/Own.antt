-- A stream whose pushes each find it with room for one more of its own meets the premises of every theorem, whatever is called on the others.
-- Assumes nothing.
use mathlib.Core.Path.{◌≡◌, subst}
use mathlib.Core.Bool.{true}
use mathlib.Core.List.{List, [], ◌∷◌}
use mathlib.Core.Logic.{inl, inr}
use Prim.Native.Nat.{ℕ, ◌<◌, ◌≤◌}
use native.Mathlib.Omega.{arith}
use lib.ListN.{length, get_or}
use Rattle.fragments.specs.Words.{size}
use Rattle.reassembly_state.specs.Model.{Queue, queue, turn}
use Rattle.streams_model.specs.Limits.{streams_most}
use Rattle.streams_model.specs.Room.{room_among}
use Rattle.streams_model.specs.State.{State, no_queue}
use Rattle.arrival.specs.Calls.{Chunk}
use Rattle.streams_theorems.specs.Runs.{Act, Push, Take, IsReadable, NumBytes, SkipOrdered, SkipUnordered, SkipBounded, Applicable, Call, left, start, calls_on, EachOn, Roomy, would_leave, WithinOwn, OnItsOwn}
use Rattle.streams_theorems.specs.Alone.{Lent}
use Rattle.streams_theorems.specs.Rule.{Drawn}
use Rattle.streams_theorems.specs.Arrives.{Long}
use Rattle.streams_theorems.proofs.Room.{OneMore, sure}
use Rattle.streams_theorems.proofs.Acts.{frag_of, room_of, Holding, after}
use Rattle.streams_theorems.proofs.Stays.{Holds, fresh_holds, fresh-drawn, fresh-own}
use Rattle.streams_theorems.proofs.Follow.{Each, Free, free_unless, lower}
use Rattle.streams_theorems.proofs.Alone.{Small, small_own}
use Rattle.streams_theorems.proofs.Fine.{roomed}

-- a push finds room for one more of the stream's own, and a take has a buffer long enough
abbrev pub Mine : Queue → Act → Type 0
Mine q (Push c) = OneMore q (frag_of c)
Mine q (Take b) = size (turn q).frags ≤ length b
Mine q IsReadable = Unit {0}
Mine q NumBytes = Unit {0}
Mine q (SkipOrdered ssn) = Unit {0}
Mine q (SkipUnordered tsn) = Unit {0}
Mine q (SkipBounded ssn tsn) = Unit {0}
Mine q (Applicable ssn tsn peer) = Unit {0}

-- so the push would leave the stream within its own
mine_small : (q : Queue) (a : Act) → Mine q a → Small q a
unfolding size
mine_small q (Push c) p = go (would_leave q c) (after true q (Push c))
  where
    go : (m : Queue) → Holding true q (frag_of c) m → WithinOwn m
    go m (inl w) = record { frags = omega (arith, w.few, p.frags); bytes = omega (arith, w.small, p.bytes) }
    go m (inr w) = record { frags = omega (arith, w.1.few, p.frags); bytes = omega (arith, w.1.small, p.bytes) }
mine_small q (Take b) p = tt
mine_small q IsReadable p = tt
mine_small q NumBytes p = tt
mine_small q (SkipOrdered ssn) p = tt
mine_small q (SkipUnordered tsn) p = tt
mine_small q (SkipBounded ssn tsn) p = tt
mine_small q (Applicable ssn tsn peer) p = tt

module _ (n k : ℕ) (below : k < streams_most) where
  mine_fine : (s : State) (qs : List Queue) → Holds n s qs → Drawn qs → (a : Act) → Mine (get_or qs k no_queue) a
      → Free (room_of (room_among qs k) a) (get_or qs k no_queue) a × (Roomy k s a × (Long k s a × OnItsOwn k s a))
  mine_fine s qs h d a p = (
    free_unless (room_among qs k) (get_or qs k no_queue) a (λ c e. roomed (room_among qs k (frag_of c)) (get_or qs k no_queue) c (room c (subst (Mine (get_or qs k no_queue)) e p))),
    (roomy a p, (long a p, (small_own n k below s qs h d a (mine_small (get_or qs k no_queue) a p)).1)),
  )
    where
      room : (c : Chunk) → OneMore (get_or qs k no_queue) (frag_of c) → room_among qs k (frag_of c) ≡ true
      room c m = sure qs k (frag_of c) h.good.eight below d m

      roomy : (a : Act) → Mine (get_or qs k no_queue) a → Roomy k s a
      roomy (Push c) p = rw h.seen (room c p)
      roomy (Take b) p = tt
      roomy IsReadable p = tt
      roomy NumBytes p = tt
      roomy (SkipOrdered ssn) p = tt
      roomy (SkipUnordered tsn) p = tt
      roomy (SkipBounded ssn tsn) p = tt
      roomy (Applicable ssn tsn peer) p = tt

      long : (a : Act) → Mine (get_or qs k no_queue) a → Long k s a
      long (Push c) p = tt
      long (Take b) p = λ r. rw h.seen p
      long IsReadable p = tt
      long NumBytes p = tt
      long (SkipOrdered ssn) p = tt
      long (SkipUnordered tsn) p = tt
      long (SkipBounded ssn tsn) p = tt
      long (Applicable ssn tsn peer) p = tt

-- of each of three the first, the second, the third
each_parts : (k : ℕ) (P Q R : State → Act → Type 0) (s : State) (calls : List Call) → EachOn k (λ (t : State) (a : Act). P t a × (Q t a × R t a)) s calls
    → EachOn k P s calls × (EachOn k Q s calls × EachOn k R s calls)
each_parts k P Q R s [] e = (tt, (tt, tt))
each_parts k P Q R s (c ∷ cs) e =
    let r = each_parts k P Q R (left s c.stream c.act) cs e.1 in
    ((λ j. (e.0 j).0, r.0), ((λ j. (e.0 j).1.0, r.1.0), (λ j. (e.0 j).1.1, r.1.1)))

-- from fresh
pub on-own : (max k : ℕ) → k < streams_most → (ws pool : List ℕ) → Lent ws pool → (calls : List Call) → Each Mine (queue k 0 max [] [] []) (calls_on k calls)
    → EachOn k (Roomy k) (start max ws pool) calls × (EachOn k (Long k) (start max ws pool) calls × EachOn k (OnItsOwn k) (start max ws pool) calls)
on-own max k below ws pool lent calls e =
    each_parts k (Roomy k) (Long k) (OnItsOwn k) (start max ws pool) calls
    (lower (length pool) k below (λ (s : State) (a : Act). Roomy k s a × (Long k s a × OnItsOwn k s a)) Mine (mine_fine (length pool) k below)
    (fresh_holds max ws pool lent.words lent.bytes) (fresh-drawn max) calls (rw (fresh-own max k below) e))
