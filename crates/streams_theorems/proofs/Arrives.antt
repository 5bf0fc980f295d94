-- Demand 3 per stream: the calls on it do what they do on its queue alone, of which it is proved.
-- Assumes nothing.
use mathlib.Core.Path.{◌≡◌, refl, sym, ap, subst, ◌∙◌}
use mathlib.Core.Bool.{Bool}
use mathlib.Core.List.{List, [], ◌∷◌, ◌++◌, map}
use Prim.Native.Nat.{ℕ, ◌<◌}
use Rattle.wire_model.specs.Refusal.{Told}
use Rattle.reassembly_state.specs.Model.{Queue}
use Rattle.reassembly_state.specs.State as one
use Rattle.streams_model.specs.Limits.{streams_most}
use Rattle.streams_model.specs.State.{State, is_readable}
use Rattle.arrival.specs.Calls as arrival
use Rattle.arrival.specs.Calls.{Chunk, Sent, Plan}
use Rattle.arrival.proofs.Bridge as bridge
use Rattle.arrival.proofs.Theorem.{arrival_order, arrival_order_then_takes}
use Rattle.streams_theorems.specs.Runs.{Act, Push, Take, IsReadable, NumBytes, SkipOrdered, SkipUnordered, SkipBounded, Applicable, Call, refusal_of, start, ran, calls_on, Roomy, left_alone, ran_alone, answers_alone}
use Rattle.streams_theorems.specs.Alone.{Lent, start_alone}
use Rattle.streams_theorems.specs.Arrives.{RunOn, ArrivedOn, Arrives, Arrives_then_takes, NoSkip, pushed, Long, came_in, Unrefused}
use Rattle.streams_theorems.proofs.Acts.{pushes, leaves}
use Rattle.streams_theorems.proofs.Stays.{Holds, readable-is, fresh_holds}
use Rattle.streams_theorems.proofs.Follow.{Each}
use Rattle.streams_theorems.proofs.Fine.{Fine, fine_free, followed, answers_are, held-is, bytes_are, readable-same, no_more_on}
use Rattle.streams_theorems.proofs.Single as single
use Rattle.streams_theorems.proofs.Single.{alone_holds, alone_told}

-- ── the pushes and takes of a stream alone ──

abbrev asked : List Act → List arrival.Call
asked [] = []
asked (Push c ∷ acts) = arrival.Push c ∷ asked acts
asked (Take b ∷ acts) = arrival.Take b ∷ asked acts
asked (IsReadable ∷ acts) = asked acts
asked (NumBytes ∷ acts) = asked acts
asked (SkipOrdered ssn ∷ acts) = asked acts
asked (SkipUnordered tsn ∷ acts) = asked acts
asked (SkipBounded ssn tsn ∷ acts) = asked acts
asked (Applicable ssn tsn peer ∷ acts) = asked acts

asked-pushes : (acts : List Act) → arrival.pushes (asked acts) ≡ pushed acts
asked-pushes [] = refl
asked-pushes (Push c ∷ acts) = ap (λ (l : List Chunk). c ∷ l) (asked-pushes acts)
asked-pushes (Take b ∷ acts) = asked-pushes acts
asked-pushes (IsReadable ∷ acts) = asked-pushes acts
asked-pushes (NumBytes ∷ acts) = asked-pushes acts
asked-pushes (SkipOrdered ssn ∷ acts) = asked-pushes acts
asked-pushes (SkipUnordered tsn ∷ acts) = asked-pushes acts
asked-pushes (SkipBounded ssn tsn ∷ acts) = asked-pushes acts
asked-pushes (Applicable ssn tsn peer ∷ acts) = asked-pushes acts

-- the run alone, as crate `arrival` has it
record Walked (s : one.State) (acts : List Act) : Type 0 where
  ran-is : ran_alone s acts ≡ arrival.ran s (asked acts)
  roomy : arrival.Roomy s (asked acts)
  long : arrival.Long s (asked acts)
  out-is : came_in (answers_alone s acts) ≡ arrival.out s (asked acts)
  answered : arrival.Unrefused s (asked acts) → Unrefused (answers_alone s acts)

walk : {s : one.State} {q : Queue} → bridge.Holds s q → (acts : List Act) → NoSkip acts → Each Fine q acts → Walked s acts
walk {s = s} h [] n e = record { ran-is = refl; roomy = tt; long = tt; out-is = refl; answered = λ u. tt }
walk {s = s} {q = q} h (Push c ∷ acts) n e =
    let next = subst (bridge.Holds (left_alone s (Push c))) (fine_free q (Push c) e.0).leaves (alone_holds h (Push c)) in
    let w = walk {s = left_alone s (Push c)} next acts n e.1 in
    record { ran-is = w.ran-is; roomy = (rw h.seen e.0, w.roomy); long = w.long; out-is = w.out-is; answered = λ u. (u.0, w.answered u.1) }
walk {s = s} {q = q} h (Take b ∷ acts) n e =
    let w = walk {s = left_alone s (Take b)} (alone_holds h (Take b)) acts n e.1 in
    record {
      ran-is = w.ran-is;
      roomy = w.roomy;
      long = (λ r. rw h.seen (e.0 (ap (λ (t : Told Bool). t.values) (sym (bridge.readable-is h) ∙ r))), w.long);
      out-is = rw w.out-is;
      answered = λ u. (u.0, w.answered u.1);
    }
walk h (IsReadable ∷ acts) n e =
    let w = walk h acts n e.1 in
    record { ran-is = w.ran-is; roomy = w.roomy; long = w.long; out-is = w.out-is; answered = λ u. (ap refusal_of (alone_told h IsReadable), w.answered u) }
walk h (NumBytes ∷ acts) n e =
    let w = walk h acts n e.1 in
    record { ran-is = w.ran-is; roomy = w.roomy; long = w.long; out-is = w.out-is; answered = λ u. (ap refusal_of (alone_told h NumBytes), w.answered u) }
walk h (SkipOrdered ssn ∷ acts) n e = absurd n
walk h (SkipUnordered tsn ∷ acts) n e = absurd n
walk h (SkipBounded ssn tsn ∷ acts) n e = absurd n
walk h (Applicable ssn tsn peer ∷ acts) n e =
    let w = walk h acts n e.1 in
    record { ran-is = w.ran-is; roomy = w.roomy; long = w.long; out-is = w.out-is; answered = λ u. (ap refusal_of (alone_told h (Applicable ssn tsn peer)), w.answered u) }

-- ── from fresh ──

module _ (max k base : ℕ) (below : k < streams_most) (os us : List Sent) (plan : Plan k base max os us) (ws pool : List ℕ) (lent : Lent ws pool) (calls : List Call)
    (run : RunOn k os us (start max ws pool) calls) where
  abbrev s : State
  s = start max ws pool

  abbrev t : one.State
  t = start_alone k max ws pool

  abbrev acts : List Act
  acts = calls_on k calls

  walked : Walked t acts
  walked = walk (bridge.fresh_holds k max ws pool lent.words lent.bytes) acts run.no_skip (followed max k below ws pool lent calls run.room run.long).each

  run_alone : arrival.Run os us t (asked acts)
  run_alone = record { once = rw (asked-pushes acts) run.once; room = walked.roomy; long = walked.long }

  -- the demand, of the queue alone, is the demand of the stream
  arrived-on : arrival.Arrived os us t (asked acts) → ArrivedOn k os us s calls
  arrived-on a =
      record {
        loose = a.loose;
        some_order = a.some_order;
        merged = rw (answers_are max k below ws pool lent calls run.room run.long, walked.out-is) a.merged;
        nothing-held = held-is max k below ws pool lent calls run.room run.long ∙ ap (λ (u : one.State). one.fragments u) walked.ran-is ∙ a.nothing-held;
        no_bytes = bytes_are max k below ws pool lent calls run.room run.long ∙ ap one.num_bytes walked.ran-is ∙ a.no_bytes;
        unrefused = rw (answers_are max k below ws pool lent calls run.room run.long) (walked.answered a.unrefused);
        no_more = no_more_on max k below ws pool lent calls run.room run.long (rw walked.ran-is a.no_more);
      }

pub arrives : Arrives
arrives max k base below os us plan ws pool lent calls run until =
    let w = walked max k base below os us plan ws pool lent calls run in
    let nothing = sym (ap one.is_readable w.ran-is) ∙ sym (readable-same max k below ws pool lent calls run.room run.long) ∙ until in
    arrived-on max k base below os us plan ws pool lent calls run
    (arrival_order k base max os us plan ws pool lent.words lent.bytes (asked (calls_on k calls)) (run_alone max k base below os us plan ws pool lent calls run) nothing)

-- ── takes at the end ──

asked-takes : (acts : List Act) (buffers : List (List ℕ)) → asked (acts ++ map Take buffers) ≡ asked acts ++ map arrival.Take buffers
asked-takes [] [] = refl
asked-takes [] (b ∷ bs) = ap (λ (l : List arrival.Call). arrival.Take b ∷ l) (asked-takes [] bs)
asked-takes (Push c ∷ acts) bs = ap (λ (l : List arrival.Call). arrival.Push c ∷ l) (asked-takes acts bs)
asked-takes (Take b ∷ acts) bs = ap (λ (l : List arrival.Call). arrival.Take b ∷ l) (asked-takes acts bs)
asked-takes (IsReadable ∷ acts) bs = asked-takes acts bs
asked-takes (NumBytes ∷ acts) bs = asked-takes acts bs
asked-takes (SkipOrdered ssn ∷ acts) bs = asked-takes acts bs
asked-takes (SkipUnordered tsn ∷ acts) bs = asked-takes acts bs
asked-takes (SkipBounded ssn tsn ∷ acts) bs = asked-takes acts bs
asked-takes (Applicable ssn tsn peer ∷ acts) bs = asked-takes acts bs

pub arrives_then_takes : Arrives_then_takes
arrives_then_takes max k base below os us plan ws pool lent calls acts buffers is many run =
    let all = ap asked is ∙ asked-takes acts buffers in
    let t = start_alone k max ws pool in
    let r = subst (arrival.Run os us t) all (run_alone max k base below os us plan ws pool lent calls run) in
    let a = subst (arrival.Arrived os us t) (sym all) (arrival_order_then_takes k base max os us plan ws pool lent.words lent.bytes (asked acts) buffers many r) in
    arrived-on max k base below os us plan ws pool lent calls run a
