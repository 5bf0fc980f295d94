-- One stream alone, on its own table and pool: its calls do what its queue of the model does with room, if their pushes do.
-- Assumes nothing.
use mathlib.Core.Path.{◌≡◌, refl, sym, ap, subst, ◌∙◌}
use mathlib.Core.Bool.{false}
use mathlib.Core.List.{List, [], ◌∷◌}
use native.Mathlib.Omega.{arith}
use Rattle.reassembly_state.specs.Limits.{bytes_most}
use Rattle.reassembly_state.specs.Model.{Queue, room_for, taken}
use Rattle.reassembly_state.specs.State.{State, lay, After, soundly, pushed, is_readable, Read, forward_ordered, forward_unordered, num_bytes}
use Rattle.reassembly_state.proofs.Laws.{held-view}
use Rattle.reassembly_bounded.specs.Bounded.{forward_bounded}
use Rattle.reassembly_applicable.specs.Applicable.{applicable}
use Rattle.reassembly_theorems.proofs.Stays.{Good, push_good, taken_good, skip_ordered_good, skip_unordered_good, skip_bounded_good}
use Rattle.arrival.proofs.Bridge.{Holds, laid_holds, read_is}
use Rattle.streams_theorems.specs.Runs.{Act, Push, Take, IsReadable, NumBytes, SkipOrdered, SkipUnordered, SkipBounded, Applicable, left_alone, answer_alone, ran_alone, answers_alone}
use Rattle.streams_theorems.proofs.Acts.{frag_of, leaves, tells, room_of}
use Rattle.streams_theorems.proofs.Follow.{ran_on, told_on, Each, Free}

-- ── one call ──

module _ {s : State} {q : Queue} (h : Holds s q) where
  -- what an act leaves fits
  after_good : (a : Act) → Good bytes_most (leaves (room_of (room_for q) a) q a)
  after_good (Push c) = push_good h.good (omega arith) (frag_of c) c.fields.stream_identifier c.fields.unordered
  after_good (Take b) = taken_good h.good b
  after_good IsReadable = h.good
  after_good NumBytes = h.good
  after_good (SkipOrdered ssn) = skip_ordered_good h.good ssn
  after_good (SkipUnordered tsn) = skip_unordered_good h.good tsn
  after_good (SkipBounded ssn tsn) = skip_bounded_good h.good ssn tsn
  after_good (Applicable ssn tsn peer) = h.good

  laid-after : (a : Act) → Holds (lay (leaves (room_of (room_for q) a) q a) s) (leaves (room_of (room_for q) a) q a)
  laid-after a = laid_holds h _ (after_good a)

  laid-over : {A : Type 0} (z : A) (x : After A) {m : Queue} → x.state ≡ lay m s → Holds (lay m s) m → Holds (soundly z s x).state m
  laid-over {A} z x {m} e g = subst (λ (t : State). Holds t m) (sym (ap (λ (y : After A). y.state) (sound_is z x) ∙ e)) g
    where
      sound_is : (z : A) (x : After A) → soundly z s x ≡ x
      sound_is z x = rw h.sound

  pub alone_holds : (a : Act) → Holds (left_alone s a) (leaves (room_of (room_for q) a) q a)
  unfolding pushed forward_ordered forward_unordered forward_bounded
  alone_holds (Push c) = laid-over false _ (rw h.seen) (laid-after (Push c))
  alone_holds (Take b) = subst (λ (r : Read). Holds r.state (taken q b).queue) (sym (read_is h b)) (laid-after (Take b))
  alone_holds IsReadable = h
  alone_holds NumBytes = h
  alone_holds (SkipOrdered ssn) = laid-over false _ (rw h.seen) (laid-after (SkipOrdered ssn))
  alone_holds (SkipUnordered tsn) = laid-over false _ (rw h.seen) (laid-after (SkipUnordered tsn))
  alone_holds (SkipBounded ssn tsn) = laid-over false _ (rw h.seen) (laid-after (SkipBounded ssn tsn))
  alone_holds (Applicable ssn tsn peer) = h

  pub alone_told : (a : Act) → answer_alone s a ≡ tells (room_of (room_for q) a) q a
  unfolding pushed is_readable num_bytes forward_ordered forward_unordered forward_bounded applicable
  alone_told (Push c) = rw (h.sound, h.seen)
  alone_told (Take b) = rw (read_is h b)
  alone_told IsReadable = rw (h.sound, h.seen)
  alone_told NumBytes = rw (h.sound, ← (held-view s), h.seen)
  alone_told (SkipOrdered ssn) = rw h.sound
  alone_told (SkipUnordered tsn) = rw h.sound
  alone_told (SkipBounded ssn tsn) = rw h.sound
  alone_told (Applicable ssn tsn peer) = rw (h.sound, h.seen)

-- ── a run ──

-- document 01's room rule lets an act do as with room
abbrev pub FreeAlone : Queue → Act → Type 0
FreeAlone q a = Free (room_of (room_for q) a) q a

pub record Followed (s : State) (q : Queue) (acts : List Act) : Type 0 where
  pub answers : answers_alone s acts ≡ told_on q acts
  pub holds : Holds (ran_alone s acts) (ran_on q acts)

pub follow : {s : State} {q : Queue} → Holds s q → (acts : List Act) → Each FreeAlone q acts → Followed s q acts
follow {s = s} h [] e = record { answers = refl; holds = h }
follow {s = s} {q = q} h (a ∷ acts) e =
    let w = follow {s = left_alone s a} (subst (Holds (left_alone s a)) e.0.leaves (alone_holds h a)) acts e.1 in
    record { answers = rw (alone_told h a, e.0.tells, w.answers); holds = w.holds }
