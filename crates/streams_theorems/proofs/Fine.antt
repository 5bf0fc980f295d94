-- A stream whose pushes have room and whose takes have buffers long enough, beside its queue alone on the same table and pool: the answers, what is
-- held, the byte count, what is readable.
-- Assumes nothing.
use mathlib.Core.Path.{◌≡◌, sym, ap, subst, ◌∙◌}
use mathlib.Core.Bool.{Bool, true, false}
use mathlib.Core.List.{List, [], ◌∷◌}
use Prim.Native.Nat.{ℕ, ◌<◌, ◌≤◌}
use native.Mathlib.Omega.{arith}
use lib.ListN.{length, get_or, replicate, length-replicate}
use Rattle.wire_model.specs.Refusal.{none, Told, says}
use Rattle.fragments.specs.Words.{size}
use Rattle.reassembly_state.specs.Model.{Queue, queue, held, room_for, no_message, turn, readable}
use Rattle.reassembly_state.specs.State as one
use Rattle.reassembly_state.proofs.Laws.{held-view}
use Rattle.reassembly_theorems.proofs.Readable.{comes_as_told}
use Rattle.streams_model.specs.Limits.{streams_most}
use Rattle.streams_model.specs.Room.{room_among}
use Rattle.streams_model.specs.State.{State, no_queue, own, is_readable, reads, read, num_bytes}
use Rattle.arrival.specs.Calls.{Chunk}
use Rattle.arrival.proofs.Bridge as bridge
use Rattle.streams_theorems.specs.Runs.{Act, Push, Take, IsReadable, NumBytes, SkipOrdered, SkipUnordered, SkipBounded, Applicable, Call, start, left, ran, calls_on, answers_on, EachOn, Roomy, ran_alone, answers_alone}
use Rattle.streams_theorems.specs.Alone.{Lent, start_alone}
use Rattle.streams_theorems.specs.Rule.{Drawn}
use Rattle.streams_theorems.specs.Arrives.{Long}
use Rattle.streams_theorems.proofs.Room.{room_alone}
use Rattle.streams_theorems.proofs.Acts.{frag_of, leaves, tells, room_of}
use Rattle.streams_theorems.proofs.Stays.{Holds, readable-is, unreadable_nothing, fresh_holds, fresh-drawn, fresh-own}
use Rattle.streams_theorems.proofs.Follow.{ran_on, Each, Free, free_unless, Followed, follow}
use Rattle.streams_theorems.proofs.Single as single
use Rattle.streams_theorems.proofs.Single.{FreeAlone}
use Rattle.streams_theorems.proofs.Alone.{own_is, own-count, count_alone}

-- what the demand asks of a call, on the model
abbrev pub Fine : Queue → Act → Type 0
Fine q (Push c) = room_for q (frag_of c) ≡ true
Fine q (Take b) = readable q ≡ true → size (turn q).frags ≤ length b
Fine q IsReadable = Unit {0}
Fine q NumBytes = Unit {0}
Fine q (SkipOrdered ssn) = Unit {0}
Fine q (SkipUnordered tsn) = Unit {0}
Fine q (SkipBounded ssn tsn) = Unit {0}
Fine q (Applicable ssn tsn peer) = Unit {0}

pub roomed : (room : Bool) (q : Queue) (c : Chunk) → room ≡ true → Free room q (Push c)
roomed room q c e = record { leaves = ap (λ (b : Bool). leaves b q (Push c)) e; tells = ap (λ (b : Bool). tells b q (Push c)) e }

pub fine_free : (q : Queue) (a : Act) → Fine q a → FreeAlone q a
fine_free q a f = free_unless (room_for q) q a (λ c e. roomed (room_for q (frag_of c)) q c (subst (Fine q) e f))

fine_frees : (q : Queue) (acts : List Act) → Each Fine q acts → Each FreeAlone q acts
fine_frees q [] e = tt
fine_frees q (a ∷ acts) e = (fine_free q a e.0, fine_frees (leaves true q a) acts e.1)

-- ── among eight ──

module _ (n k : ℕ) (below : k < streams_most) where
  long_fine : {s : State} {qs : List Queue} → Holds n s qs → (b : List ℕ) → Long k s (Take b) → Fine (get_or qs k no_queue) (Take b)
  long_fine h b p r = rw h.seen at (p (readable-is h k below ∙ ap (says none) r))

  fine : (s : State) (qs : List Queue) → Holds n s qs → Drawn qs → (a : Act) → Roomy k s a × Long k s a → Free (room_of (room_among qs k) a) (get_or qs k no_queue) a × Fine (get_or qs k no_queue) a
  fine s qs h d a p = (free_unless (room_among qs k) (get_or qs k no_queue) a (λ c e. roomed (room_among qs k (frag_of c)) (get_or qs k no_queue) c (rw h.seen at (subst (Roomy k s) e p.0))), each a p)
    where
      each : (a : Act) → Roomy k s a × Long k s a → Fine (get_or qs k no_queue) a
      each (Push c) p = room_alone qs k (frag_of c) h.good.eight below (rw h.seen at p.0)
      each (Take b) p = long_fine h b p.1
      each IsReadable p = tt
      each NumBytes p = tt
      each (SkipOrdered ssn) p = tt
      each (SkipUnordered tsn) p = tt
      each (SkipBounded ssn tsn) p = tt
      each (Applicable ssn tsn peer) p = tt

each_both : (k : ℕ) (P Q : State → Act → Type 0) (s : State) (calls : List Call) → EachOn k P s calls → EachOn k Q s calls → EachOn k (λ (t : State) (a : Act). P t a × Q t a) s calls
each_both k P Q s [] p q = tt
each_both k P Q s (c ∷ cs) p q = (λ e. (p.0 e, q.0 e), each_both k P Q (left s c.stream c.act) cs p.1 q.1)

-- ── from fresh ──

module _ (max k : ℕ) (below : k < streams_most) (ws pool : List ℕ) (lent : Lent ws pool) (calls : List Call) (room : EachOn k (Roomy k) (start max ws pool) calls)
    (long : EachOn k (Long k) (start max ws pool) calls) where
  abbrev s : State
  s = start max ws pool

  abbrev t : one.State
  t = start_alone k max ws pool

  abbrev begins : Queue
  begins = queue k 0 max [] [] []

  abbrev acts : List Act
  acts = calls_on k calls

  pub followed : Followed (length pool) k Fine s begins calls
  followed =
      rw (fresh-own max k below)
      at (follow (length pool) k below (λ (s : State) (a : Act). Roomy k s a × Long k s a) Fine (fine (length pool) k below) (fresh_holds max ws pool lent.words lent.bytes) (fresh-drawn max) calls
      (each_both k (Roomy k) (Long k) s calls room long))

  alone : single.Followed t begins acts
  alone = single.follow (bridge.fresh_holds k max ws pool lent.words lent.bytes) acts (fine_frees begins acts followed.each)

  pub answers_are : answers_on k s calls ≡ answers_alone t acts
  answers_are = followed.answers ∙ sym alone.answers

  pub held-is : held (own (ran s calls) k) ≡ one.fragments (ran_alone t acts)
  held-is = ap (λ (q : Queue). held q) (own_is max k below ws pool lent calls followed ∙ sym alone.holds.seen) ∙ held-view (ran_alone t acts)

  pub bytes_are : num_bytes (ran s calls) k ≡ one.num_bytes (ran_alone t acts)
  bytes_are = own-count max k below ws pool lent calls followed ∙ sym (count_alone alone.holds)

  pub readable-same : is_readable (ran s calls) k ≡ one.is_readable (ran_alone t acts)
  readable-same = readable-is followed.holds k below ∙ ap (λ (q : Queue). says none (readable q)) followed.is ∙ sym (bridge.readable-is alone.holds)

  -- where a take on the queue alone gives nothing whatever its buffer, so does one on the stream
  pub no_more_on : ((buffer : List ℕ) → one.read (ran_alone t acts) buffer ≡ one.reads (says none no_message) (ran_alone t acts) buffer)
      → (buffer : List ℕ) → read (ran s calls) k buffer ≡ reads (says none no_message) (ran s calls) buffer
  no_more_on nothing = unreadable_nothing followed.holds k below (readable-same ∙ bridge.readable-is alone.holds ∙ ap (says none) unreadable)
    where
      unreadable : readable (ran_on begins acts) ≡ false
      unreadable =
          let n = size (turn (one.view (ran_alone t acts))).frags in
          let b : List ℕ = replicate n 0 in
          let c = comes_as_told (ran_alone t acts) alone.holds.sound b (omega (arith, length-replicate {A = ℕ} n 0)) in
          ap (λ (x : Told Bool). x.values) (sym (bridge.readable-is alone.holds)) ∙ sym c ∙ ap (λ (r : one.Read). r.told.values.comes) (nothing b)
