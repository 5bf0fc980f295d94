-- Every call leaves a sound queue sound, so that its byte count is the sum of the held lengths again.
-- Assumes nothing.
use mathlib.Core.Path.{◌≡◌, refl, sym, ◌∙◌}
use mathlib.Core.Bool.{Bool, true, false, cond, ◌&&◌, true≢false}
use mathlib.Core.List.{List, ◌∷◌, map}
use Prim.Native.Nat.{ℕ, ◌+◌, ◌≤◌}
use native.Mathlib.Omega.{arith}
use borrow.Author.Tests.{leb-true, le-ltb}
use lib.Dec.{ltb, leb, eqb}
use lib.ListN.{length, length-map}
use Rattle.wire_model.specs.Facts.{over-length}
use Rattle.wire_model.specs.Refusal.{none, says}
use Rattle.serial_model.specs.Serial.{before}
use Rattle.data_fields.specs.declared.ChunkPayloadData.{ChunkPayloadData}
use Rattle.table.specs.Rows.{total}
use Rattle.fragments.specs.Frag.{Frag, ssn_of, has_tsn, row_of}
use Rattle.fragments.specs.Words.{size, joined, any}
use Rattle.fragment_sets.specs.Sets.{set_of}
use Rattle.loose_fragments.specs.Loose.{reach}
use Rattle.fragments.proofs.Pool.{Fit, fit_cut, joined_length}
use Rattle.reassembly_state.specs.Limits.{frags_most, bytes_most}
use Rattle.reassembly_state.specs.Model.{Queue, held, Given, room_for, keep_ordered, keep_loose, push_ordered, push_unordered, push, turn, readable, Took, taken, skip_ordered, skip_unordered}
use Rattle.reassembly_state.specs.State.{State, fragments, unsound, view, lay, fragment_of, pushed, read, forward_ordered, forward_unordered, num_bytes}
use Rattle.reassembly_bounded.specs.Bounded.{skip_bounded, forward_bounded}
use Rattle.reassembly_queue.specs.Queue.{state_of, fresh}
use Rattle.reassembly_state.proofs.Laws.{Sound, sound, held-view, fragments-length, size-held}
use Rattle.reassembly_state.proofs.Laid.{sound_lay}
use Rattle.reassembly_theorems.proofs.Within.{Within, ordered_within, loose_within, turn_within, skip_ordered_within, skip_unordered_within, skip_bounded_within}

-- ── a queue that has room in its table and in a pool of n bytes ──

pub record Good (n : ℕ) (q : Queue) : Type 0 where
  pub fit : Fit (held q)
  pub few : length (held q) ≤ frags_most
  pub small : size (held q) ≤ n

both : (a b : Bool) → a && b ≡ true → (a ≡ true) × (b ≡ true)
both true b e = (refl, e)
both false b e = absurd (true≢false (sym e))

choose : {A : Type 0} (P : A → Type 0) (b : Bool) {x y : A} → (b ≡ true → P x) → P y → P (cond b x y)
choose P true h k = h refl
choose P false h k = k

module _ {n : ℕ} {q : Queue} (g : Good n q) where
  no_more : (m : Queue) → Within (held q) (held m) → Good n m
  no_more m w = record { fit = w.fits g.fit; few = omega (arith, w.few, g.few); small = omega (arith, w.small, g.small) }

  pub taken_good : (buffer : List ℕ) → Good n (taken q buffer).queue
  unfolding taken
  taken_good buffer =
      choose (λ (t : Took). Good n t.queue) (readable q)
      (λ e. choose (λ (t : Took). Good n t.queue) (ltb (length buffer) (size (turn q).frags)) (λ f. g) (no_more (turn q).queue (turn_within q)))
      g

  pub skip_ordered_good : (s : ℕ) → Good n (skip_ordered q s)
  skip_ordered_good s = no_more (skip_ordered q s) (skip_ordered_within q s)

  pub skip_unordered_good : (t : ℕ) → Good n (skip_unordered q t)
  skip_unordered_good t = no_more (skip_unordered q t) (skip_unordered_within q t)

  pub skip_bounded_good : (s t : ℕ) → Good n (skip_bounded q s t)
  skip_bounded_good s t = no_more (skip_bounded q s t) (skip_bounded_within q s t)

  module _ (long : bytes_most ≤ n) (f : Frag) where
    one_more : (m : Queue) → Within (f ∷ held q) (held m) → room_for q f ≡ true → Good n m
    unfolding room_for size
    one_more m w e =
        let b = both (leb (length (held q) + 1) frags_most) _ e in
        let few = leb-true (length (held q) + 1) frags_most b.0 in
        let small = leb-true (size (held q) + length f.bytes) bytes_most b.1 in
        record { fit = w.fits (omega arith, g.fit); few = omega (arith, w.few); small = omega (arith, w.small) }

    abbrev Kept : Given Bool → Type 0
    Kept a = Good n a.queue

    ordered_good : Kept (push_ordered (room_for q f) q f)
    unfolding push_ordered
    ordered_good =
        choose Kept (ltb q.max (size (set_of (ssn_of f) q.ordered) + length f.bytes)) (λ e. g)
        (choose Kept (before 16 (ssn_of f) q.next) (λ e. g)
        (choose Kept (any (has_tsn f.tsn) (set_of (ssn_of f) q.ordered)) (λ e. g)
        (choose Kept (room_for q f) (one_more (keep_ordered q f).queue (ordered_within q f)) g)))

    unordered_good : Kept (push_unordered (room_for q f) q f)
    unfolding push_unordered
    unordered_good =
        choose Kept (ltb q.max (reach f q.unordered)) (λ e. g)
        (choose Kept (any (has_tsn f.tsn) q.unordered) (λ e. g)
        (choose Kept (room_for q f) (one_more (keep_loose q f).queue (loose_within q f)) g))

    pub push_good : (stream : ℕ) (unordered : Bool) → Kept (push (room_for q f) q stream unordered f)
    unfolding push
    push_good stream unordered = choose Kept (eqb stream q.si) (λ e. choose Kept unordered (λ k. unordered_good) ordered_good) g

-- ── the lent queue ──

-- t is sound, and its table and pool are as long as before
pub record Stays (s t : State) : Type 0 where
  pub sound : unsound t ≡ false
  pub rows : length t.rows ≡ frags_most
  pub pool : length t.pool ≡ length s.pool

module _ (s : State) (e : unsound s ≡ false) (full : length s.rows ≡ frags_most) where
  abbrev k : Sound s
  k = sound s e

  good_view : Good (length s.pool) (view s)
  good_view =
      record {
        fit = rw (held-view s) (fit_cut _ s.pool);
        few = rw (held-view s, fragments-length s k.few full) k.few;
        small = rw (held-view s) (omega (arith, size-held s k, k.sums, k.within));
      }

  stays-laid : (m : Queue) → Good (length s.pool) m → Stays s (lay m s)
  unfolding lay
  stays-laid m g =
      record {
        sound = sound_lay m s g.fit g.few g.small k.long;
        rows = over-length s.rows (map row_of (held m)) (rw (length-map (held m) row_of, full) g.few) ∙ full;
        pool = over-length s.pool (joined (held m)) (rw (joined_length (held m)) g.small);
      }

  pub push-keeps : (p : ChunkPayloadData) (bytes : List ℕ) → Stays s (pushed s p bytes).state
  unfolding pushed
  push-keeps p bytes = rw e (stays-laid _ (push_good good_view k.long (fragment_of p bytes) p.stream_identifier p.unordered))

  pub read_keeps : (buffer : List ℕ) → Stays s (read s buffer).state
  unfolding read
  read_keeps buffer = rw e (stays-laid _ (taken_good good_view buffer))

  pub ordered_keeps : (ssn : ℕ) → Stays s (forward_ordered s ssn).state
  unfolding forward_ordered
  ordered_keeps ssn = rw e (stays-laid _ (skip_ordered_good good_view ssn))

  pub unordered-keeps : (tsn : ℕ) → Stays s (forward_unordered s tsn).state
  unfolding forward_unordered
  unordered-keeps tsn = rw e (stays-laid _ (skip_unordered_good good_view tsn))

  pub bounded_keeps : (ssn tsn : ℕ) → Stays s (forward_bounded s ssn tsn).state
  unfolding forward_bounded
  bounded_keeps ssn tsn = rw e (stays-laid _ (skip_bounded_good good_view ssn tsn))

  -- "The byte count is the sum of held lengths.": after every call again

  pub push-stays : (p : ChunkPayloadData) (bytes : List ℕ) → unsound (pushed s p bytes).state ≡ false
  push-stays p bytes = (push-keeps p bytes).sound

  pub read_stays : (buffer : List ℕ) → unsound (read s buffer).state ≡ false
  read_stays buffer = (read_keeps buffer).sound

  pub ordered-stays : (ssn : ℕ) → unsound (forward_ordered s ssn).state ≡ false
  ordered-stays ssn = (ordered_keeps ssn).sound

  pub unordered-stays : (tsn : ℕ) → unsound (forward_unordered s tsn).state ≡ false
  unordered-stays tsn = (unordered-keeps tsn).sound

  pub bounded_stays : (ssn tsn : ℕ) → unsound (forward_bounded s ssn tsn).state ≡ false
  bounded_stays ssn tsn = (bounded_keeps ssn tsn).sound

pub fresh_sound : (si max : ℕ) (ws pool : List ℕ) → bytes_most ≤ length pool → unsound (state_of (fresh si max) ws pool) ≡ false
unfolding unsound total
fresh_sound si max ws pool h = rw (le-ltb (length pool) bytes_most h, le-ltb (length pool) 0 (omega arith))

pub bytes-told : (s : State) → unsound s ≡ false → num_bytes s ≡ says none (size (fragments s))
unfolding num_bytes
bytes-told s e = rw e
