-- The room rule, and what comes before it: the claims of specs/Rule, proved.
-- Assumes nothing.
use mathlib.Core.Path.{◌≡◌, sym, ap, ◌∙◌}
use mathlib.Core.Bool.{Bool, false}
use mathlib.Core.List.{List, [], ◌∷◌}
use Prim.Native.Nat.{ℕ, ◌<◌}
use lib.ListN.{length, get_or}
use Rattle.wire_model.specs.Refusal.{refuse, Told}
use Rattle.reassembly_state.specs.Model.{Queue}
use Rattle.streams_model.specs.Limits.{streams_most}
use Rattle.streams_model.specs.Room.{room_among}
use Rattle.streams_model.specs.State.{State, unsound, view, no_queue, own, After, refused, pushed}
use Rattle.streams_model.proofs.Laws.{held-view, split-length}
use Rattle.arrival.specs.Calls.{Chunk}
use Rattle.streams_theorems.specs.Runs.{Push, Call, refusal_of, ran, left}
use Rattle.streams_theorems.specs.Rule.{frag_of, Full, Enough, Drawn, Sure, Reserved, Before_all, No_stream, Sound_stays}
use Rattle.streams_theorems.proofs.Room.{no_room, exceeds_no_room, all-frags, all-bytes, own-frags, own-bytes, room_alone}
use Rattle.streams_theorems.proofs.Acts.{pushes, full, alike, full_exactly}
use Rattle.streams_theorems.proofs.Stays.{Holds, unless_none, asked, numbered, left-refused, answer-refused, call_holds, holds_own, queues_eight, fresh_holds, fresh-drawn}
use Rattle.streams_theorems.proofs.Follow.{call_drawn}
use Rattle.streams_theorems.proofs.Alone.{on-its-own}

-- what a push on a stream is told
told_is : (s : State) → unsound s ≡ false → (k : ℕ) → k < streams_most → (c : Chunk)
    → (pushed s k c.fields c.bytes).told ≡ (pushes (room_among (view s) k (frag_of c)) (own s k) c).told
unfolding pushed
told_is s e k below c = ap (λ (y : After Bool). y.told) (unless_none (asked s e k below) _ _)

pub full_exactly_when : Full
full_exactly_when s e k below c =
    record {
      exceeds = λ h. no_room (view s) k (frag_of c) (full_exactly (own s k) c _ (was h)).0;
      asks = λ h. (full_exactly (own s k) c _ (was h)).1;
      given = λ x a. rw (told_is s e k below c, exceeds_no_room (view s) k (frag_of c) x) a;
    }
  where
    was : (pushed s k c.fields c.bytes).told.refusal ≡ refuse 8 → full (pushes (room_among (view s) k (frag_of c)) (own s k) c)
    was h = rw (told_is s e k below c) at h

view_eight : (s : State) → length s.queues ≡ streams_most → length (view s) ≡ streams_most
unfolding view
view_eight s e = split-length s.queues _ ∙ e

pub enough : Enough
enough s eight k below f room =
    let e = view_eight s eight in
    record {
      frags = rw (held-view s) at (all-frags (view s) k f e below room);
      bytes = rw (held-view s) at (all-bytes (view s) k f e below room);
      own-frags = own-frags (view s) k f e below room;
      own-bytes = own-bytes (view s) k f e below room;
      alone = room_alone (view s) k f e below room;
    }

-- ── in a run from fresh ──

sure_of : {n : ℕ} {s : State} {qs : List Queue} → Holds n s qs → Drawn qs → Sure s
sure_of {n} {s} {qs} h d =
    record {
      drawn = rw h.seen d;
      sure = λ k below c w f.
          let free = (on-its-own n k below s qs h d (Push c) w).0 in
          let q = get_or qs k no_queue in
          let here = ap (λ (t : Told Bool). t.refusal) (told_is s h.sound k below c) in
          (alike q c).not (sym (ap refusal_of free.tells) ∙ sym (rw h.seen at here) ∙ f);
    }

ran_sure : {n : ℕ} {s : State} {qs : List Queue} → Holds n s qs → Drawn qs → (calls : List Call) → Sure (ran s calls)
ran_sure {n = n} {s = s} {qs = qs} h d [] = sure_of h d
ran_sure {n = n} {s = s} {qs = qs} h d (c ∷ cs) = ran_sure {s = left s c.stream c.act} (call_holds h c.stream c.act) (call_drawn h d c.stream c.act) cs

pub reserved : Reserved
reserved max ws pool lent calls = ran_sure (fresh_holds max ws pool lent.words lent.bytes) (fresh-drawn max) calls

-- ── what comes before ──

pub before-all : Before_all
before-all s e k a = let r : refused s k ≡ refuse 0 = rw e in record { refusal = answer-refused s k 0 r a; unchanged = left-refused s k 0 r a }

pub no_stream : No_stream
no_stream s e k beyond a = let r = numbered s e k beyond in record { refusal = answer-refused s k 19 r a; unchanged = left-refused s k 19 r a }

pub sound_stays : Sound_stays
sound_stays s e eight full k a =
    let h = call_holds (holds_own s e full eight) k a in
    record { sound = h.sound; queues = queues_eight h; rows = h.rows; pool = h.pool }
