-- A push that no test turns away: what it stores, and what it moves.
-- Assumes nothing.
use mathlib.Core.Path.{◌≡◌, refl, ap, ◌∙◌}
use mathlib.Core.Bool.{Bool, true, false}
use mathlib.Core.List.{List, ◌++◌}
use Prim.Native.Nat.{◌+◌, ◌-◌, ◌<◌}
use native.Mathlib.Omega.{arith}
use lib.Dec.{ltb}
use lib.ListN.{length}
use lib.Seq.{take_at, drop_at, take-append-add, drop-append-add}
use borrow.Author.Tests.{lt-ltb, eq-eqb}
use Rattle.wire_model.specs.Refusal.{none, says}
use Rattle.serial_model.specs.Serial.{before}
use Rattle.moves_model.specs.Lists.{slice, gone}
use Rattle.fragments.specs.Frag.{Frag, ssn_of, has_tsn, tsn_before}
use Rattle.fragments.specs.Words.{size, any, placed}
use Rattle.fragment_sets.specs.Sets.{set_of, complete, grown_set, stored}
use Rattle.loose_fragments.specs.Loose.{reach}
use Rattle.reassembly_state.specs.Model.{Queue, queue, room_for, Given, gives, with_ordered, keep_ordered, push_ordered, move_run, keep_loose, push_unordered, push}
use Rattle.arrival_plan.specs.Plan.{Carried, chunk, after_push}
use Rattle.arrival_plan.proofs.Scans.{Scan, nothing, found, seek, spanned, scan_seeks}

-- the push of a chunk of the queue's stream
abbrev pushed : Queue → Carried → Given Bool
pushed q c = push (room_for q c.frag) q q.si c.unordered c.frag

-- it is not refused, and leaves k
pub record Enters (q : Queue) (c : Carried) (k : Queue) : Type 0 where
  pub quiet : (pushed q c).told.refusal ≡ none
  pub after : after_push q c ≡ k

enters : (q : Queue) (c : Carried) (t : Bool) (k : Queue) → pushed q c ≡ gives (says none t) k → Enters q c k
enters q c t k e = record { quiet = ap (λ (g : Given Bool). g.told.refusal) e; after = ap (λ (g : Given Bool). g.queue) e }

-- ── an ordered chunk ──

module _ (q : Queue) (f : Frag) where
  pub set-push : (l : List Frag) → ltb q.max (size (set_of (ssn_of f) q.ordered) + length f.bytes) ≡ false → before 16 (ssn_of f) q.next ≡ false
      → any (has_tsn f.tsn) (set_of (ssn_of f) q.ordered) ≡ false → room_for q f ≡ true → stored f q.ordered ≡ l
      → Enters q (chunk false f) (with_ordered q l)
  unfolding push push_ordered keep_ordered
  set-push l t s d r e = enters q (chunk false f) (complete (grown_set f q.ordered)) (with_ordered q l) (rw (eq-eqb q.si q.si refl, t, s, d, r, e))

  -- its number is before the expected one
  pub set-old : ltb q.max (size (set_of (ssn_of f) q.ordered) + length f.bytes) ≡ false → before 16 (ssn_of f) q.next ≡ true → Enters q (chunk false f) q
  unfolding push push_ordered
  set-old t s = enters q (chunk false f) false q (rw (eq-eqb q.si q.si refl, t, s))

-- ── an unordered chunk ──

module _ {A : Type 0} (a m b : List A) where
  slice_at : slice (length a) (length a + length m) (a ++ (m ++ b)) ≡ m
  unfolding slice
  slice_at = rw (take-append-add a (m ++ b) (length m), take_at m b (length m) refl) (drop_at a m (length a) refl)

  gone_at : gone (length a) (length a + length m - length a) (a ++ (m ++ b)) ≡ a ++ b
  unfolding gone
  gone_at =
      let e : length a + length m - length a ≡ length m = omega arith in
      rw (e, take_at a (m ++ b) (length a) refl, drop-append-add a (m ++ b) (length m), drop_at m b (length m) refl)

module _ (q : Queue) (f : Frag) where
  -- the unordered list with the chunk in it, then one scan
  loose-push : (l : List Frag) (s : Scan) → ltb q.max (reach f q.unordered) ≡ false → any (has_tsn f.tsn) q.unordered ≡ false → room_for q f ≡ true
      → placed (tsn_before f.tsn) f q.unordered ≡ l → seek l ≡ s → pushed q (chunk true f) ≡ move_run q l (spanned s)
  unfolding push push_unordered keep_loose
  loose-push l s t d r e g = rw (eq-eqb q.si q.si refl, t, d, r, e, scan_seeks l, g)

  module _ (l : List Frag) (t : ltb q.max (reach f q.unordered) ≡ false) (d : any (has_tsn f.tsn) q.unordered ≡ false) (r : room_for q f ≡ true)
      (e : placed (tsn_before f.tsn) f q.unordered ≡ l) where
    pub loose-stays : seek l ≡ nothing → Enters q (chunk true f) (queue q.si q.next q.max q.finished l q.ordered)
    unfolding move_run
    loose-stays g = enters q (chunk true f) false _ (loose-push l nothing t d r e g)

    pub loose_moves : (a m b : List Frag) → l ≡ a ++ (m ++ b) → 0 < length m → seek l ≡ found a m b
        → Enters q (chunk true f) (queue q.si q.next q.max (q.finished ++ m) (a ++ b) q.ordered)
    unfolding move_run
    loose_moves a m b k h g =
        enters q (chunk true f) true _
        (loose-push l (found a m b) t d r e g ∙ rw (k, lt-ltb (length a) (length a + length m) (omega arith), slice_at a m b, gone_at a m b))
