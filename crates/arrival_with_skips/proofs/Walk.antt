-- The calls beside the model's events: each leads to a state that holds what the event leaves, and answers what that answers.
-- Assumes nothing.
use mathlib.Core.Path.{◌≡◌, refl, ap, ◌∙◌}
use mathlib.Core.Bool.{Bool, true}
use mathlib.Core.List.{List, [], ◌∷◌, map}
use Prim.Native.Nat.{ℕ, ◌≤◌}
use lib.ListN.{length}
use Rattle.wire_model.specs.Refusal.{none, Told, says}
use Rattle.fragments.specs.Words.{size}
use Rattle.reassembly_state.specs.Model.{Queue, turn, skip_ordered, skip_unordered}
use Rattle.reassembly_state.specs.State.{State, lay, After, after, Read, read, forward_ordered, forward_unordered}
use Rattle.reassembly_theorems.proofs.Stays.{skip_ordered_good, skip_unordered_good}
use Rattle.arrival_plan.specs.Plan.{Carried}
use Rattle.arrival.specs.Calls.{Came, given}
use Rattle.arrival_plan.proofs.Maps.{Each}
use Rattle.arrival.proofs.Planned.{frag_of, piece_of, Of}
use Rattle.arrival.proofs.Bridge.{Holds, push-own, take_own, laid_holds, push_holds, push-told, read_is, told, given_is, take_unrefused, long_for, take_holds}
use Rattle.arrival_with_skips.specs.Skips.{Call, Push, Take, SkipOrdered, SkipUnordered, refusal, ran, out, AtEach, pushes, Roomy, Long, left}
use Rattle.skips_plan.proofs.Runs as model

-- ── a skip ──

module _ {s : State} {q : Queue} (h : Holds s q) (k : ℕ) where
  ordered-is : forward_ordered s k ≡ after (says none true) (lay (skip_ordered q k) s)
  unfolding forward_ordered
  ordered-is = rw (h.sound, h.seen)

  unordered-is : forward_unordered s k ≡ after (says none true) (lay (skip_unordered q k) s)
  unfolding forward_unordered
  unordered-is = rw (h.sound, h.seen)

  ordered_holds : Holds (forward_ordered s k).state (skip_ordered q k)
  ordered_holds = rw ordered-is (laid_holds h (skip_ordered q k) (skip_ordered_good h.good k))

  unordered_holds : Holds (forward_unordered s k).state (skip_unordered q k)
  unordered_holds = rw unordered-is (laid_holds h (skip_unordered q k) (skip_unordered_good h.good k))

module _ (q : Queue) (k : ℕ) where
  ordered-own : (skip_ordered q k).si ≡ q.si
  unfolding skip_ordered
  ordered-own = refl

  unordered-own : (skip_unordered q k).si ≡ q.si
  unfolding skip_unordered
  unordered-own = refl

-- ── a run ──

abbrev pub events : List Call → List model.Event
events [] = []
events (Push c ∷ cs) = model.Push (piece_of c) ∷ events cs
events (Take b ∷ cs) = model.Take ∷ events cs
events (SkipOrdered k ∷ cs) = model.SkipOrdered k ∷ events cs
events (SkipUnordered k ∷ cs) = model.SkipUnordered k ∷ events cs

pub event_pushes : (calls : List Call) → model.pushes (events calls) ≡ map piece_of (pushes calls)
event_pushes [] = refl
event_pushes (Push c ∷ cs) = ap (λ (l : List Carried). piece_of c ∷ l) (event_pushes cs)
event_pushes (Take b ∷ cs) = event_pushes cs
event_pushes (SkipOrdered k ∷ cs) = event_pushes cs
event_pushes (SkipUnordered k ∷ cs) = event_pushes cs

abbrev pub Unrefused : State → Call → Type 0
Unrefused s c = refusal s c ≡ none

pub record Walked (s : State) (q : Queue) (calls : List Call) : Type 0 where
  pub holds : Holds (ran s calls) (model.final q (events calls))
  pub roomy : model.AtEach model.Room q (events calls)
  pub came : out s calls ≡ map told (model.out q (events calls))
  pub answered : model.AtEach model.Quiet q (events calls) → AtEach Unrefused s calls

pub follow : {s : State} {q : Queue} → Holds s q → (calls : List Call) → Each (Of q.si) (pushes calls) → AtEach Roomy s calls → AtEach Long s calls → Walked s q calls
follow {s = s} h [] o r l = record { holds = h; roomy = tt; came = refl; answered = λ u. tt }
follow {s = s} {q = q} h (Push c ∷ cs) o r l =
    let w = follow {s = left s (Push c)} (push_holds h c o.0) cs (rw (push-own q _ (frag_of c) q.si c.fields.unordered).is o.1) r.1 l.1 in
    record {
      holds = w.holds;
      roomy = (rw h.seen at r.0, w.roomy);
      came = w.came;
      answered = λ u. (ap (λ (t : Told Bool). t.refusal) (push-told h c o.0) ∙ u.0, w.answered u.1);
    }
follow {s = s} {q = q} h (Take b ∷ cs) o r l =
    let k = long_for h b l.0 in
    let w = follow {s = left s (Take b)} (take_holds h b k) cs (rw (take_own q).is o) r.1 l.1 in
    let later = model.out (model.after q model.Take) (events cs) in
    record {
      holds = w.holds;
      roomy = (tt, w.roomy);
      came = ap (λ (ms : List Came). given (read s b) ms) w.came ∙ ap (λ (g : Read). given g (map told later)) (read_is h b) ∙ given_is q b k s later;
      answered = λ u. (ap (λ (g : Read). g.told.refusal) (read_is h b) ∙ take_unrefused q b k, w.answered u.1);
    }
follow {s = s} {q = q} h (SkipOrdered k ∷ cs) o r l =
    let w = follow {s = left s (SkipOrdered k)} (ordered_holds h k) cs (rw (ordered-own q k) o) r.1 l.1 in
    record {
      holds = w.holds;
      roomy = (tt, w.roomy);
      came = w.came;
      answered = λ u. (ap (λ (a : After Bool). a.told.refusal) (ordered-is h k), w.answered u.1);
    }
follow {s = s} {q = q} h (SkipUnordered k ∷ cs) o r l =
    let w = follow {s = left s (SkipUnordered k)} (unordered_holds h k) cs (rw (unordered-own q k) o) r.1 l.1 in
    record {
      holds = w.holds;
      roomy = (tt, w.roomy);
      came = w.came;
      answered = λ u. (ap (λ (a : After Bool). a.told.refusal) (unordered-is h k), w.answered u.1);
    }

-- ── and back: what the model's run meets, the calls meet ──

abbrev pub Long_on : Queue → List Call → Type 0
Long_on q [] = Unit {0}
Long_on q (Push c ∷ cs) = Long_on (model.after q (model.Push (piece_of c))) cs
Long_on q (Take b ∷ cs) = (size (turn q).frags ≤ length b) × Long_on (model.after q model.Take) cs
Long_on q (SkipOrdered k ∷ cs) = Long_on (skip_ordered q k) cs
Long_on q (SkipUnordered k ∷ cs) = Long_on (skip_unordered q k) cs

pub back : {s : State} {q : Queue} → Holds s q → (calls : List Call) → Each (Of q.si) (pushes calls) → model.AtEach model.Room q (events calls) → Long_on q calls
    → AtEach Roomy s calls × AtEach Long s calls
back {s = s} h [] o r l = (tt, tt)
back {s = s} {q = q} h (Push c ∷ cs) o r l =
    let k = back {s = left s (Push c)} (push_holds h c o.0) cs (rw (push-own q _ (frag_of c) q.si c.fields.unordered).is o.1) r.1 l in
    ((rw h.seen r.0, k.0), (tt, k.1))
back {s = s} {q = q} h (Take b ∷ cs) o r l =
    let k = back {s = left s (Take b)} (take_holds h b (λ e. l.0)) cs (rw (take_own q).is o) r.1 l.1 in
    ((tt, k.0), (λ e. rw h.seen l.0, k.1))
back {s = s} {q = q} h (SkipOrdered n ∷ cs) o r l = let k = back {s = left s (SkipOrdered n)} (ordered_holds h n) cs (rw (ordered-own q n) o) r.1 l in ((tt, k.0), (tt, k.1))
back {s = s} {q = q} h (SkipUnordered n ∷ cs) o r l = let k = back {s = left s (SkipUnordered n)} (unordered_holds h n) cs (rw (unordered-own q n) o) r.1 l in ((tt, k.0), (tt, k.1))
