-- What is asked of a stream, done by its queue of the model, with room for a push or without: what it leaves and answers; what it holds after it; and
-- when a push does not depend on room.
-- Assumes nothing.
use mathlib.Core.Path.{◌≡◌, refl, sym}
use mathlib.Core.Bool.{Bool, true, false, cond}
use mathlib.Core.List.{List, ◌∷◌}
use mathlib.Core.Logic.{◌⊎◌, inl, inr}
use Prim.Native.Nat.{ℕ, ◌+◌}
use native.Mathlib.Omega.{arith}
use lib.Dec.{ltb, eqb}
use lib.ListN.{length}
use Rattle.wire_model.specs.Refusal.{Refusal, none, refuse, says}
use Rattle.serial_model.specs.Serial.{before}
use Rattle.fragments.specs.Frag.{Frag, ssn_of, has_tsn, tsn_before}
use Rattle.fragments.specs.Words.{size, any, placed}
use Rattle.fragment_sets.specs.Sets.{set_of}
use Rattle.loose_fragments.specs.Loose.{reach, scanned}
use Rattle.reassembly_state.specs.Model.{Queue, held, Given, gives, keep_ordered, move_run, keep_loose, push_ordered, push_unordered, push, turn, readable, Took, taken, skip_ordered, skip_unordered}
use Rattle.reassembly_state.specs.State.{fragment_of}
use Rattle.reassembly_bounded.specs.Bounded.{skip_bounded}
use Rattle.reassembly_applicable.specs.Applicable.{found_in, applies}
use Rattle.reassembly_theorems.proofs.Within.{Within, ordered_within, loose_within, turn_within, skip_ordered_within, skip_unordered_within, skip_bounded_within}
use Rattle.arrival.specs.Calls.{Chunk}
use Rattle.streams_theorems.specs.Runs.{Act, Push, Take, IsReadable, NumBytes, SkipOrdered, SkipUnordered, SkipBounded, Applicable, Answer, Says, Gives, Counts, Finds}
use Rattle.streams_theorems.proofs.Stored.{Grown, ordered-grown, loose-grown}

-- ── the queue of the model ──

abbrev pub frag_of : Chunk → Frag
frag_of c = fragment_of c.fields c.bytes

abbrev pub pushes : Bool → Queue → Chunk → Given Bool
pushes room q c = push room q c.fields.stream_identifier c.fields.unordered (frag_of c)

abbrev pub leaves : Bool → Queue → Act → Queue
leaves room q (Push c) = (pushes room q c).queue
leaves room q (Take b) = (taken q b).queue
leaves room q IsReadable = q
leaves room q NumBytes = q
leaves room q (SkipOrdered ssn) = skip_ordered q ssn
leaves room q (SkipUnordered tsn) = skip_unordered q tsn
leaves room q (SkipBounded ssn tsn) = skip_bounded q ssn tsn
leaves room q (Applicable ssn tsn peer) = q

abbrev pub tells : Bool → Queue → Act → Answer
tells room q (Push c) = Says (pushes room q c).told
tells room q (Take b) = Gives (taken q b).told (taken q b).buffer
tells room q IsReadable = Says (says none (readable q))
tells room q NumBytes = Counts (says none (size (held q)))
tells room q (SkipOrdered ssn) = Says (says none true)
tells room q (SkipUnordered tsn) = Says (says none true)
tells room q (SkipBounded ssn tsn) = Says (says none true)
tells room q (Applicable ssn tsn peer) = Finds (says none (found_in (applies q ssn tsn peer)))

-- room for an act: asked of a push alone
abbrev pub room_of : (Frag → Bool) → Act → Bool
room_of room (Push c) = room (frag_of c)
room_of room (Take b) = true
room_of room IsReadable = true
room_of room NumBytes = true
room_of room (SkipOrdered ssn) = true
room_of room (SkipUnordered tsn) = true
room_of room (SkipBounded ssn tsn) = true
room_of room (Applicable ssn tsn peer) = true

-- ── what is held after it ──

-- no more than before, or one fragment more for which there was room
abbrev pub Holding : Bool → Queue → Frag → Queue → Type 0
Holding room q f m = Within (held q) (held m) ⊎ ((room ≡ true) × Within (f ∷ held q) (held m))

no_more : (q : Queue) → Within (held q) (held q)
no_more q = record { fits = λ h. h; few = omega arith; small = omega arith }

choose : {A : Type 0} (P : A → Type 0) (b : Bool) {x y : A} → (b ≡ true → P x) → P y → P (cond b x y)
choose P true h k = h refl
choose P false h k = k

module _ (room : Bool) (q : Queue) (f : Frag) where
  abbrev Kept : Given Bool → Type 0
  Kept g = Holding room q f g.queue

  ordered_holds : Kept (push_ordered room q f)
  unfolding push_ordered
  ordered_holds =
      choose Kept (ltb q.max (size (set_of (ssn_of f) q.ordered) + length f.bytes)) (λ e. inl (no_more q))
      (choose Kept (before 16 (ssn_of f) q.next) (λ e. inl (no_more q))
      (choose Kept (any (has_tsn f.tsn) (set_of (ssn_of f) q.ordered)) (λ e. inl (no_more q)) (choose Kept room (λ e. inr (e, ordered_within q f)) (inl (no_more q)))))

  unordered_holds : Kept (push_unordered room q f)
  unfolding push_unordered
  unordered_holds =
      choose Kept (ltb q.max (reach f q.unordered)) (λ e. inl (no_more q))
      (choose Kept (any (has_tsn f.tsn) q.unordered) (λ e. inl (no_more q)) (choose Kept room (λ e. inr (e, loose_within q f)) (inl (no_more q))))

  push_holds : (stream : ℕ) (u : Bool) → Kept (push room q stream u f)
  unfolding push
  push_holds stream u = choose Kept (eqb stream q.si) (λ e. choose Kept u (λ k. unordered_holds) ordered_holds) (inl (no_more q))

taken_within : (q : Queue) (b : List ℕ) → Within (held q) (held (taken q b).queue)
unfolding taken
taken_within q b =
    choose (λ (t : Took). Within (held q) (held t.queue)) (readable q)
    (λ e. choose (λ (t : Took). Within (held q) (held t.queue)) (ltb (length b) (size (turn q).frags)) (λ f. no_more q) (turn_within q))
    (no_more q)

-- an act leaves no more than before, or is a push that had room
abbrev pub After : Bool → Queue → Act → Queue → Type 0
After room q (Push c) m = Holding room q (frag_of c) m
After room q (Take b) m = Within (held q) (held m)
After room q IsReadable m = Within (held q) (held m)
After room q NumBytes m = Within (held q) (held m)
After room q (SkipOrdered ssn) m = Within (held q) (held m)
After room q (SkipUnordered tsn) m = Within (held q) (held m)
After room q (SkipBounded ssn tsn) m = Within (held q) (held m)
After room q (Applicable ssn tsn peer) m = Within (held q) (held m)

pub after : (room : Bool) (q : Queue) (a : Act) → After room q a (leaves room q a)
after room q (Push c) = push_holds room q (frag_of c) c.fields.stream_identifier c.fields.unordered
after room q (Take b) = taken_within q b
after room q IsReadable = no_more q
after room q NumBytes = no_more q
after room q (SkipOrdered ssn) = skip_ordered_within q ssn
after room q (SkipUnordered tsn) = skip_unordered_within q tsn
after room q (SkipBounded ssn tsn) = skip_bounded_within q ssn tsn
after room q (Applicable ssn tsn peer) = no_more q

-- ── a push that is not refused with 8 ──

abbrev pub full : Given Bool → Type 0
full g = g.told.refusal ≡ refuse 8

-- answers with room, and without: they differ only where room is asked for
pub record Alike (q : Queue) (f : Frag) (x y : Given Bool) : Type 0 where
  -- without room the answer is 8, or as with room
  pub is : (full y → ⊥) → x ≡ y
  -- with room it never is 8
  pub not : full x → ⊥
  -- and where they differ the fragment is stored
  pub grows : (x ≡ y) ⊎ Grown q f x.queue

other : {n : ℕ} {r : Refusal} → r ≡ refuse n → (n ≡ 8 → ⊥) → r ≡ refuse 8 → ⊥
other e ne h = ne (cc)

unrefused : {r : Refusal} → r ≡ none → r ≡ refuse 8 → ⊥
unrefused e h = let z : ◌≡◌ {A = ℕ} 0 1 = cc in omega arith

module _ (q : Queue) (f : Frag) where
  same : (g : Given Bool) → (full g → ⊥) → Alike q f g g
  same g h = record { is = λ k. refl; not = h; grows = inl refl }

  pick : (b : Bool) {x y u v : Given Bool} → Alike q f x y → Alike q f u v → Alike q f (cond b x u) (cond b y v)
  pick true h k = h
  pick false h k = k

  answered : (t : Bool) → Alike q f (gives (says none t) q) (gives (says none t) q)
  answered t = same (gives (says none t) q) (unrefused refl)

  too_large : Alike q f (gives (says (refuse 6) false) q) (gives (says (refuse 6) false) q)
  too_large = same (gives (says (refuse 6) false) q) (other refl (λ e. omega arith))

  stored : (g : Given Bool) → g.told.refusal ≡ none → Grown q f g.queue → Alike q f g (gives (says (refuse 8) false) q)
  stored g e m = record { is = λ k. absurd (k refl); not = unrefused e; grows = inr m }

  kept-ordered : (keep_ordered q f).told.refusal ≡ none
  unfolding keep_ordered
  kept-ordered = refl

  kept-loose : (keep_loose q f).told.refusal ≡ none
  unfolding keep_loose move_run
  kept-loose = let l = placed (tsn_before f.tsn) f q.unordered in choose (λ (g : Given Bool). g.told.refusal ≡ none) (ltb (scanned l).from (scanned l).to) (λ e. refl) refl

  ordered_alike : Alike q f (push_ordered true q f) (push_ordered false q f)
  unfolding push_ordered
  ordered_alike =
      pick (ltb q.max (size (set_of (ssn_of f) q.ordered) + length f.bytes)) too_large
      (pick (before 16 (ssn_of f) q.next) (answered false)
      (pick (any (has_tsn f.tsn) (set_of (ssn_of f) q.ordered)) (answered false) (stored (keep_ordered q f) kept-ordered (ordered-grown q f))))

  unordered_alike : Alike q f (push_unordered true q f) (push_unordered false q f)
  unfolding push_unordered
  unordered_alike =
      pick (ltb q.max (reach f q.unordered)) too_large
      (pick (any (has_tsn f.tsn) q.unordered) (answered false) (stored (keep_loose q f) kept-loose (loose-grown q f)))

  push_alike : (stream : ℕ) (u : Bool) → Alike q f (push true q stream u f) (push false q stream u f)
  unfolding push
  push_alike stream u = pick (eqb stream q.si) (pick u unordered_alike ordered_alike) (answered false)

module _ (q : Queue) (c : Chunk) where
  pub alike : Alike q (frag_of c) (pushes true q c) (pushes false q c)
  alike = push_alike q (frag_of c) c.fields.stream_identifier c.fields.unordered

  -- where it is not refused with 8, it answers and leaves what it does with room
  pub with_room : (room : Bool) → (full (pushes room q c) → ⊥) → pushes room q c ≡ pushes true q c
  with_room true h = refl
  with_room false h = sym (alike.is h)

  -- refused with 8 exactly where there is no room and room is asked for: a push without room would be
  pub full_exactly : (room : Bool) → full (pushes room q c) → (room ≡ false) × full (pushes false q c)
  full_exactly true h = absurd (alike.not h)
  full_exactly false h = (refl, h)
