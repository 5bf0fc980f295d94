-- The guarantee with skips, per stream: the calls on it do what they do on its queue alone, of which it is proved.
-- Assumes nothing.
use mathlib.Core.Path.{◌≡◌, refl, sym, ap, subst, ◌∙◌}
use mathlib.Core.Bool.{Bool}
use mathlib.Core.List.{List, [], ◌∷◌, ◌++◌, map}
use Prim.Native.Nat.{ℕ, ◌<◌}
use Rattle.wire_model.specs.Refusal.{none, Told}
use Rattle.reassembly_state.specs.Model.{Queue}
use Rattle.reassembly_state.specs.State as one
use Rattle.streams_model.specs.Limits.{streams_most}
use Rattle.streams_model.specs.State.{State}
use Rattle.arrival.specs.Calls.{Chunk, Sent, Plan}
use Rattle.arrival.proofs.Bridge as bridge
use Rattle.arrival_with_skips.specs.Skips as skips
use Rattle.arrival_with_skips.specs.Skips.{AtEach, AllNeedless}
use Rattle.arrival_with_skips.proofs.Theorem.{whole_with_skips, arrival_with_skips, arrival_with_skips_then_takes}
use Rattle.streams_theorems.specs.Runs.{Act, Push, Take, IsReadable, NumBytes, SkipOrdered, SkipUnordered, SkipBounded, Applicable, Call, refusal_of, start, calls_on, left_alone, ran_alone, answers_alone}
use Rattle.streams_theorems.specs.Alone.{Lent, start_alone}
use Rattle.streams_theorems.specs.Arrives.{came_in, Unrefused}
use Rattle.streams_theorems.specs.Skips.{Unbounded, asked, asked_on, RunOn, TakenOn, ArrivedOn, Always, Arrives, Arrives_then_takes}
use Rattle.streams_theorems.proofs.Follow.{Each}
use Rattle.streams_theorems.proofs.Single.{alone_holds, alone_told}
use Rattle.streams_theorems.proofs.Fine.{Fine, fine_free, followed, answers_are, held-is, bytes_are, readable-same, no_more_on}

-- ── the run alone, as crate `arrival_with_skips` has it ──

-- a call is not refused
abbrev Quiet : one.State → skips.Call → Type 0
Quiet t c = skips.refusal t c ≡ none

record Walked (s : one.State) (acts : List Act) : Type 0 where
  ran-is : ran_alone s acts ≡ skips.ran s (asked acts)
  roomy : AtEach skips.Roomy s (asked acts)
  long : AtEach skips.Long s (asked acts)
  out-is : came_in (answers_alone s acts) ≡ skips.out s (asked acts)
  answered : AtEach Quiet s (asked acts) → Unrefused (answers_alone s acts)

walk : {s : one.State} {q : Queue} → bridge.Holds s q → (acts : List Act) → Unbounded acts → Each Fine q acts → Walked s acts
walk {s = s} h [] n e = record { ran-is = refl; roomy = tt; long = tt; out-is = refl; answered = λ u. tt }
walk {s = s} {q = q} h (Push c ∷ acts) n e =
    let next = subst (bridge.Holds (left_alone s (Push c))) (fine_free q (Push c) e.0).leaves (alone_holds h (Push c)) in
    let w = walk {s = left_alone s (Push c)} next acts n e.1 in
    record { ran-is = w.ran-is; roomy = (rw h.seen e.0, w.roomy); long = (tt, w.long); out-is = w.out-is; answered = λ u. (u.0, w.answered u.1) }
walk {s = s} {q = q} h (Take b ∷ acts) n e =
    let w = walk {s = left_alone s (Take b)} (alone_holds h (Take b)) acts n e.1 in
    record {
      ran-is = w.ran-is;
      roomy = (tt, w.roomy);
      long = (λ r. rw h.seen (e.0 (ap (λ (t : Told Bool). t.values) (sym (bridge.readable-is h) ∙ r))), w.long);
      out-is = rw w.out-is;
      answered = λ u. (u.0, w.answered u.1);
    }
walk h (IsReadable ∷ acts) n e =
    let w = walk h acts n e.1 in
    record { ran-is = w.ran-is; roomy = w.roomy; long = w.long; out-is = w.out-is; answered = λ u. (ap refusal_of (alone_told h IsReadable), w.answered u) }
walk h (NumBytes ∷ acts) n e =
    let w = walk h acts n e.1 in
    record { ran-is = w.ran-is; roomy = w.roomy; long = w.long; out-is = w.out-is; answered = λ u. (ap refusal_of (alone_told h NumBytes), w.answered u) }
walk h (SkipOrdered ssn ∷ acts) n e =
    let w = walk (alone_holds h (SkipOrdered ssn)) acts n e.1 in
    record { ran-is = w.ran-is; roomy = (tt, w.roomy); long = (tt, w.long); out-is = w.out-is; answered = λ u. (u.0, w.answered u.1) }
walk h (SkipUnordered tsn ∷ acts) n e =
    let w = walk (alone_holds h (SkipUnordered tsn)) acts n e.1 in
    record { ran-is = w.ran-is; roomy = (tt, w.roomy); long = (tt, w.long); out-is = w.out-is; answered = λ u. (u.0, w.answered u.1) }
walk h (SkipBounded ssn tsn ∷ acts) n e = absurd n
walk h (Applicable ssn tsn peer ∷ acts) n e =
    let w = walk h acts n e.1 in
    record { ran-is = w.ran-is; roomy = w.roomy; long = w.long; out-is = w.out-is; answered = λ u. (ap refusal_of (alone_told h (Applicable ssn tsn peer)), w.answered u) }

-- ── from fresh ──

module _ (max k base : ℕ) (below : k < streams_most) (os us : List Sent) (plan : Plan k base max os us) (ws pool : List ℕ) (lent : Lent ws pool) (calls : List Call)
    (never : List Chunk) (run : RunOn k base os us (start max ws pool) calls never) where
  abbrev s : State
  s = start max ws pool

  abbrev t : one.State
  t = start_alone k max ws pool

  abbrev acts : List Act
  acts = calls_on k calls

  walked : Walked t acts
  walked = walk (bridge.fresh_holds k max ws pool lent.words lent.bytes) acts run.unbounded (followed max k below ws pool lent calls run.room run.long).each

  run_alone : skips.Run base os us t (asked acts) never
  run_alone = record { once = run.once; room = walked.roomy; long = walked.long; named = run.named; in_arc = run.in_arc }

  -- what the guarantee says of the queue alone it says of the stream
  taken-on : skips.Taken os us t (asked acts) → TakenOn k os us s calls
  taken-on a =
      record {
        came = a.came;
        lost = a.lost;
        numbered = a.numbered;
        loose = a.loose;
        gone = a.gone;
        unnumbered = a.unnumbered;
        merged = rw (answers_are max k below ws pool lent calls run.room run.long, walked.out-is) a.merged;
        unrefused = rw (answers_are max k below ws pool lent calls run.room run.long) (walked.answered a.unrefused);
      }

  arrived-on : skips.Arrived os us t (asked acts) → ArrivedOn k os us s calls
  unfolding taken-on
  arrived-on a =
      record {
        taken = taken-on a.taken;
        early = a.early;
        numbered = a.numbered;
        behind = a.behind;
        touched = a.touched;
        pieces = a.pieces;
        others = a.others;
        parted = a.parted;
        holds = held-is max k below ws pool lent calls run.room run.long ∙ ap (λ (u : one.State). one.fragments u) walked.ran-is ∙ a.held;
        bytes = bytes_are max k below ws pool lent calls run.room run.long ∙ ap one.num_bytes walked.ran-is ∙ a.bytes;
        no_more = no_more_on max k below ws pool lent calls run.room run.long (rw walked.ran-is a.no_more);
      }

pub always : Always
always max k base below os us plan ws pool lent calls never run =
    taken-on max k base below os us plan ws pool lent calls never run
    (whole_with_skips k base max os us plan ws pool lent.words lent.bytes (asked_on k calls) never (run_alone max k base below os us plan ws pool lent calls never run))

pub arrives : Arrives
arrives max k base below os us plan ws pool lent calls never run needless until =
    let w = walked max k base below os us plan ws pool lent calls never run in
    let nothing = sym (ap one.is_readable w.ran-is) ∙ sym (readable-same max k below ws pool lent calls run.room run.long) ∙ until in
    arrived-on max k base below os us plan ws pool lent calls never run
    (arrival_with_skips k base max os us plan ws pool lent.words lent.bytes (asked_on k calls) never (run_alone max k base below os us plan ws pool lent calls never run) needless nothing)

-- ── takes at the end ──

asked-takes : (acts : List Act) (buffers : List (List ℕ)) → asked (acts ++ map Take buffers) ≡ asked acts ++ map skips.Take buffers
asked-takes [] [] = refl
asked-takes [] (b ∷ bs) = ap (λ (l : List skips.Call). skips.Take b ∷ l) (asked-takes [] bs)
asked-takes (Push c ∷ acts) bs = ap (λ (l : List skips.Call). skips.Push c ∷ l) (asked-takes acts bs)
asked-takes (Take b ∷ acts) bs = ap (λ (l : List skips.Call). skips.Take b ∷ l) (asked-takes acts bs)
asked-takes (IsReadable ∷ acts) bs = asked-takes acts bs
asked-takes (NumBytes ∷ acts) bs = asked-takes acts bs
asked-takes (SkipOrdered ssn ∷ acts) bs = ap (λ (l : List skips.Call). skips.SkipOrdered ssn ∷ l) (asked-takes acts bs)
asked-takes (SkipUnordered tsn ∷ acts) bs = ap (λ (l : List skips.Call). skips.SkipUnordered tsn ∷ l) (asked-takes acts bs)
asked-takes (SkipBounded ssn tsn ∷ acts) bs = asked-takes acts bs
asked-takes (Applicable ssn tsn peer ∷ acts) bs = asked-takes acts bs

pub arrives_then_takes : Arrives_then_takes
arrives_then_takes max k base below os us plan ws pool lent calls acts buffers is many never run needless =
    let all = ap asked is ∙ asked-takes acts buffers in
    let t = start_alone k max ws pool in
    let r = subst (λ (l : List skips.Call). skips.Run base os us t l never) all (run_alone max k base below os us plan ws pool lent calls never run) in
    let n = subst (λ (l : List skips.Call). AllNeedless l never) all needless in
    let a = arrival_with_skips_then_takes k base max os us plan ws pool lent.words lent.bytes (asked acts) buffers many never r n in
    arrived-on max k base below os us plan ws pool lent calls never run (subst (skips.Arrived os us t) (sym all) a)
