-- The room rule: with room for a push, all that is held stays within the table and the pool, since 8 * 16 + 384 = 512 and
-- 8 * 4,096 + 32,768 = 65,536, and the stream alone has room; and a push within the stream's own has room.
-- Assumes nothing.
use mathlib.Core.Path.{◌≡◌, refl, sym, ◌∙◌}
use mathlib.Core.Bool.{Bool, true, false, ◌&&◌, true≢false}
use mathlib.Core.List.{List, map}
use mathlib.Core.Logic.{◌⊎◌, inl, inr}
use Prim.Native.Nat.{ℕ, ◌+◌, ◌-◌, ◌*◌, ◌<◌, ◌≤◌}
use native.Mathlib.Omega.{arith}
use borrow.Author.Tests.{leb-true, leb-false, le-leb}
use lib.Dec.{leb}
use lib.ListN.{length, get_or, set, length-set, length-map}
use Rattle.fragments.specs.Frag.{Frag}
use Rattle.fragments.specs.Words.{size}
use Rattle.reassembly_state.specs.Limits.{frags_most, bytes_most}
use Rattle.reassembly_state.specs.Model.{Queue, held, room_for}
use Rattle.streams_model.specs.Limits.{streams_most, own_frags, own_bytes, common_frags, common_bytes}
use Rattle.streams_model.specs.Room.{draws, raised, frags_held, bytes_held, room_among}
use Rattle.streams_model.specs.State.{held_by, no_queue}
use Rattle.streams_theorems.specs.Rule.{Exceeds, Drawn}
use Rattle.streams_model.proofs.Totals.{added, added-set, draws-set, draws-one, added-draws, frags-added, bytes-added, frags-at, bytes-at}

pub both : (a b : Bool) → a && b ≡ true → (a ≡ true) × (b ≡ true)
both true b e = (refl, e)
both false b e = absurd (true≢false (sym e))

either : (a b : Bool) → a && b ≡ false → (a ≡ false) ⊎ (b ≡ false)
either true b e = inr e
either false b e = inl refl

-- ── one measure ──

module _ (own : ℕ) (ns : List ℕ) (k n : ℕ) (below : k < length ns) where
  -- the draws after a push, by the draws before it
  raised-draws : draws own (raised k n ns) + (get_or ns k 0 - own) ≡ draws own ns + (get_or ns k 0 + n - own)
  unfolding raised
  raised-draws = draws-set own ns k (get_or ns k 0 + n) below

  raised_all : added ns + n ≤ draws own (raised k n ns) + own * length ns
  unfolding raised
  raised_all =
      let v = get_or ns k 0 + n in
      let e = added-set ns k v below in
      let d = rw (length-set ns k v) at (added-draws own (set ns k v)) in
      omega arith

  raised-one : get_or ns k 0 + n - own ≤ draws own (raised k n ns)
  raised-one = let e = raised-draws in let d = draws-one own ns k in omega arith

  raised_within : get_or ns k 0 + n ≤ own → draws own (raised k n ns) ≤ draws own ns
  raised_within h = let e = raised-draws in omega arith

-- ── the rule ──

-- a queue with a fragment more is within its own
pub record OneMore (q : Queue) (f : Frag) : Type 0 where
  pub frags : length (held q) + 1 ≤ own_frags
  pub bytes : size (held q) + length f.bytes ≤ own_bytes

-- the draws would not add to more than the common part after a push on stream k
pub record Drawable (qs : List Queue) (k : ℕ) (f : Frag) : Type 0 where
  pub frags : draws own_frags (raised k 1 (map frags_held qs)) ≤ common_frags
  pub bytes : draws own_bytes (raised k (length f.bytes) (map bytes_held qs)) ≤ common_bytes

module _ (qs : List Queue) (k : ℕ) (f : Frag) where
  pub room_drawable : room_among qs k f ≡ true → Drawable qs k f
  unfolding room_among
  room_drawable e = let b = both (leb (draws own_frags (raised k 1 (map frags_held qs))) common_frags) _ e in record { frags = leb-true _ _ b.0; bytes = leb-true _ _ b.1 }

  pub drawable_room : Drawable qs k f → room_among qs k f ≡ true
  unfolding room_among
  drawable_room d = rw (le-leb _ _ d.frags, le-leb _ _ d.bytes)

  -- no room: the draws would add to more than the common part, in one measure or the other
  pub no_room : room_among qs k f ≡ false → Exceeds qs k f
  unfolding room_among
  no_room e = go (either (leb (draws own_frags (raised k 1 (map frags_held qs))) common_frags) _ e)
    where
      go : (leb (draws own_frags (raised k 1 (map frags_held qs))) common_frags ≡ false) ⊎ (leb (draws own_bytes (raised k (length f.bytes) (map bytes_held qs))) common_bytes ≡ false) → Exceeds qs k f
      go (inl x) = inl (leb-false _ _ x)
      go (inr x) = inr (leb-false _ _ x)

  pub exceeds_no_room : Exceeds qs k f → room_among qs k f ≡ false
  exceeds_no_room x = go (room_among qs k f) refl x
    where
      go : (b : Bool) → room_among qs k f ≡ b → Exceeds qs k f → b ≡ false
      go false e x = refl
      go true e (inl x) = absurd (omega (arith, (room_drawable e).frags))
      go true e (inr x) = absurd (omega (arith, (room_drawable e).bytes))

  module _ (eight : length qs ≡ streams_most) (below : k < streams_most) where
    abbrev q : Queue
    q = get_or qs k no_queue

    frags-long : length (map frags_held qs) ≡ 8
    frags-long = length-map qs frags_held ∙ eight

    bytes-long : length (map bytes_held qs) ≡ 8
    bytes-long = length-map qs bytes_held ∙ eight

    frags_below : k < length (map frags_held qs)
    frags_below = let e = frags-long in omega arith

    bytes_below : k < length (map bytes_held qs)
    bytes_below = let e = bytes-long in omega arith

    module _ (room : room_among qs k f ≡ true) where
      -- all streams together stay within the table and the pool
      pub all-frags : length (held_by qs) + 1 ≤ frags_most
      all-frags =
          let d = (room_drawable room).frags in
          let e = raised_all own_frags (map frags_held qs) k 1 frags_below in
          let l = frags-long in
          rw (frags-added qs) (omega arith)

      pub all-bytes : size (held_by qs) + length f.bytes ≤ bytes_most
      all-bytes =
          let d = (room_drawable room).bytes in
          let e = raised_all own_bytes (map bytes_held qs) k (length f.bytes) bytes_below in
          let l = bytes-long in
          rw (bytes-added qs) (omega arith)

      -- "the run-only case becomes 400 and 401 on one stream": a stream holds at most its own and all that is common
      pub own-frags : length (held q) + 1 ≤ own_frags + common_frags
      own-frags =
          let d = (room_drawable room).frags in
          let e = raised-one own_frags (map frags_held qs) k 1 frags_below in
          let a = frags-at qs k in
          omega arith

      pub own-bytes : size (held q) + length f.bytes ≤ own_bytes + common_bytes
      own-bytes =
          let d = (room_drawable room).bytes in
          let e = raised-one own_bytes (map bytes_held qs) k (length f.bytes) bytes_below in
          let a = bytes-at qs k in
          omega arith

      -- so the queue alone has room by document 01's rule
      pub room_alone : room_for q f ≡ true
      unfolding room_for
      room_alone = let a = own-frags in let b = own-bytes in rw (le-leb (length (held q) + 1) frags_most (omega arith), le-leb (size (held q) + length f.bytes) bytes_most (omega arith))

    -- "Each is sure of 16 fragments and 4,096 bytes"
    pub sure : Drawn qs → OneMore q f → room_among qs k f ≡ true
    sure d w =
        let a = raised_within own_frags (map frags_held qs) k 1 frags_below (rw (frags-at qs k) w.frags) in
        let b = raised_within own_bytes (map bytes_held qs) k (length f.bytes) bytes_below (rw (bytes-at qs k) w.bytes) in
        drawable_room (record { frags = omega (arith, d.frags); bytes = omega (arith, d.bytes) })
