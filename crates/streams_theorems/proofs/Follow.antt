-- The calls on one stream, followed along a run on eight: they do what its queue of the model does with room, if their pushes do.
-- Assumes nothing.
use mathlib.Core.Path.{◌≡◌, refl, sym, subst, ◌∙◌}
use mathlib.Core.Bool.{Bool, true, false, cond}
use mathlib.Core.List.{List, [], ◌∷◌}
use Prim.Native.Nat.{ℕ, ◌<◌}
use native.Mathlib.Omega.{arith}
use borrow.Author.Tests.{ltb-true, lt-ltb, eqb-true, eqb-false}
use lib.Dec.{ltb, eqb}
use lib.ListN.{get_or}
use lib.Seq.{get_or-set_same, get_or-set_other}
use Rattle.fragments.specs.Frag.{Frag}
use Rattle.reassembly_state.specs.Model.{Queue}
use Rattle.streams_model.specs.Limits.{streams_most}
use Rattle.streams_model.specs.Room.{room_among}
use Rattle.streams_model.specs.State.{State, no_queue}
use Rattle.arrival.specs.Calls.{Chunk}
use Rattle.streams_theorems.specs.Runs.{Act, Push, Take, IsReadable, NumBytes, SkipOrdered, SkipUnordered, SkipBounded, Applicable, Call, Answer, left, answer, ran, calls_on, answers_on, EachOn}
use Rattle.streams_theorems.specs.Rule.{Drawn}
use Rattle.streams_theorems.proofs.Acts.{frag_of, leaves, tells, room_of}
use Rattle.streams_theorems.proofs.Good.{changed, changed-drawn}
use Rattle.streams_theorems.proofs.Stays.{Holds, call_holds, answer-is}

-- ── the queue of the model, with room for all that is pushed ──

abbrev pub ran_on : Queue → List Act → Queue
ran_on q [] = q
ran_on q (a ∷ acts) = ran_on (leaves true q a) acts

abbrev pub told_on : Queue → List Act → List Answer
told_on q [] = []
told_on q (a ∷ acts) = tells true q a ∷ told_on (leaves true q a) acts

-- M holds of each act, and of the queue before it
abbrev pub Each : (Queue → Act → Type 0) → Queue → List Act → Type 0
Each M q [] = Unit {0}
Each M q (a ∷ acts) = M q a × Each M (leaves true q a) acts

-- an act that does as it does with room
pub record Free (room : Bool) (q : Queue) (a : Act) : Type 0 where
  pub leaves : leaves room q a ≡ leaves true q a
  pub tells : tells room q a ≡ tells true q a

-- what is not a push does so whatever the rule
pub free_unless : (room : Frag → Bool) (q : Queue) (a : Act) → ((c : Chunk) → a ≡ Push c → Free (room (frag_of c)) q (Push c)) → Free (room_of room a) q a
free_unless room q (Push c) h = h c refl
free_unless room q (Take b) h = record { leaves = refl; tells = refl }
free_unless room q IsReadable h = record { leaves = refl; tells = refl }
free_unless room q NumBytes h = record { leaves = refl; tells = refl }
free_unless room q (SkipOrdered ssn) h = record { leaves = refl; tells = refl }
free_unless room q (SkipUnordered tsn) h = record { leaves = refl; tells = refl }
free_unless room q (SkipBounded ssn tsn) h = record { leaves = refl; tells = refl }
free_unless room q (Applicable ssn tsn peer) h = record { leaves = refl; tells = refl }

-- ── one call ──

-- the queues after a call on a stream of any number
abbrev pub queues : List Queue → ℕ → Act → List Queue
queues qs j a = cond (ltb j streams_most) (changed qs j a) qs

module _ {n : ℕ} {s : State} {qs : List Queue} (h : Holds n s qs) where
  pub call_drawn : Drawn qs → (j : ℕ) (a : Act) → Drawn (queues qs j a)
  call_drawn d j a = go (ltb j streams_most) refl
    where
      go : (b : Bool) → ltb j streams_most ≡ b → Drawn (cond b (changed qs j a) qs)
      go true e = changed-drawn qs h.good.eight j (ltb-true j streams_most e) d a
      go false e = d

  module _ (k : ℕ) (below : k < streams_most) where
    -- on the stream: its queue is what the act leaves
    pub at_own : (j : ℕ) → j ≡ k → (a : Act) → get_or (queues qs j a) k no_queue ≡ leaves (room_of (room_among qs k) a) (get_or qs k no_queue) a
    at_own j e a = rw (e, lt-ltb k streams_most below) (get_or-set_same qs k _ no_queue (omega (arith, h.good.eight)))

    pub told-own : (j : ℕ) → j ≡ k → (a : Act) → answer s j a ≡ tells (room_of (room_among qs k) a) (get_or qs k no_queue) a
    told-own j e a = rw e (answer-is h k below a)

  -- on another: it stays
  pub at_other : (k j : ℕ) → (j ≡ k → ⊥) → (a : Act) → get_or (queues qs j a) k no_queue ≡ get_or qs k no_queue
  at_other k j ne a = go (ltb j streams_most)
    where
      go : (b : Bool) → get_or (cond b (changed qs j a) qs) k no_queue ≡ get_or qs k no_queue
      go true = get_or-set_other qs j k _ no_queue (λ e. ne (sym e))
      go false = refl

-- ── a run ──

pub record Followed (n k : ℕ) (M : Queue → Act → Type 0) (s : State) (q : Queue) (calls : List Call) : Type 0 where
  pub answers : answers_on k s calls ≡ told_on q (calls_on k calls)
  pub each : Each M q (calls_on k calls)
  pub queues : List Queue
  pub holds : Holds n (ran s calls) queues
  pub is : get_or queues k no_queue ≡ ran_on q (calls_on k calls)

-- what holds of the calls on stream k lets them do as with room, and says M of them
module _ (n k : ℕ) (below : k < streams_most) (P : State → Act → Type 0) (M : Queue → Act → Type 0)
    (says : (s : State) (qs : List Queue) → Holds n s qs → Drawn qs → (a : Act) → P s a → Free (room_of (room_among qs k) a) (get_or qs k no_queue) a × M (get_or qs k no_queue) a) where
  pub follow : {s : State} {qs : List Queue} → Holds n s qs → Drawn qs → (calls : List Call) → EachOn k P s calls → Followed n k M s (get_or qs k no_queue) calls
  follow {s = s} {qs = qs} h d [] e = record { answers = refl; each = tt; queues = qs; holds = h; is = refl }
  follow {s = s} {qs = qs} h d (c ∷ cs) e = go (follow {s = left s c.stream c.act} (call_holds h c.stream c.act) (call_drawn h d c.stream c.act) cs e.1) (eqb c.stream k) refl
    where
      go : Followed n k M (left s c.stream c.act) (get_or (queues qs c.stream c.act) k no_queue) cs → (b : Bool) → eqb c.stream k ≡ b → Followed n k M s (get_or qs k no_queue) (c ∷ cs)
      go rest true t =
          let j = eqb-true c.stream k t in
          let u = says s qs h d c.act (e.0 j) in
          let w = subst (λ (q : Queue). Followed n k M (left s c.stream c.act) q cs) (at_own h k below c.stream j c.act ∙ u.0.leaves) rest in
          record {
            answers = rw (t, told-own h k below c.stream j c.act, u.0.tells, w.answers);
            each = rw t (u.1, w.each);
            queues = w.queues;
            holds = w.holds;
            is = rw t w.is;
          }
      go rest false t =
          let w = subst (λ (q : Queue). Followed n k M (left s c.stream c.act) q cs) (at_other h k c.stream (eqb-false c.stream k t) c.act) rest in
          record { answers = rw t w.answers; each = rw t w.each; queues = w.queues; holds = w.holds; is = rw t w.is }

-- and the other way: what is said of the model's run holds of the calls on stream k, if it lets them do as with room
module _ (n k : ℕ) (below : k < streams_most) (P : State → Act → Type 0) (M : Queue → Act → Type 0)
    (says : (s : State) (qs : List Queue) → Holds n s qs → Drawn qs → (a : Act) → M (get_or qs k no_queue) a → Free (room_of (room_among qs k) a) (get_or qs k no_queue) a × P s a) where
  pub lower : {s : State} {qs : List Queue} → Holds n s qs → Drawn qs → (calls : List Call) → Each M (get_or qs k no_queue) (calls_on k calls) → EachOn k P s calls
  lower {s = s} h d [] e = tt
  lower {s = s} {qs = qs} h d (c ∷ cs) e = go (lower {s = left s c.stream c.act} (call_holds h c.stream c.act) (call_drawn h d c.stream c.act) cs) (eqb c.stream k) refl
    where
      go : (Each M (get_or (queues qs c.stream c.act) k no_queue) (calls_on k cs) → EachOn k P (left s c.stream c.act) cs)
          → (b : Bool) → eqb c.stream k ≡ b → EachOn k P s (c ∷ cs)
      go rest true t =
          let both = rw t at e in
          let u = says s qs h d c.act both.0 in
          (λ j. u.1, rest (subst (λ (q : Queue). Each M q (calls_on k cs)) (sym (at_own h k below c.stream (eqb-true c.stream k t) c.act ∙ u.0.leaves)) both.1))
      go rest false t =
          let other = eqb-false c.stream k t in
          (λ j. absurd (other j), rest (subst (λ (q : Queue). Each M q (calls_on k cs)) (sym (at_other h k c.stream other c.act)) (rw t at e)))
