-- Eight queues that fit the table and a pool of n bytes go on fitting, whatever one stream is asked, and their draws go on fitting the common part.
-- Assumes nothing.
use mathlib.Core.Path.{◌≡◌, ◌∙◌}
use mathlib.Core.Bool.{true}
use mathlib.Core.List.{List, ◌∷◌, map}
use mathlib.Core.Logic.{inl, inr}
use Prim.Native.Nat.{ℕ, ◌+◌, ◌<◌, ◌≤◌}
use native.Mathlib.Omega.{arith}
use lib.ListN.{length, get_or, set, length-set, length-map}
use Rattle.fragments.specs.Frag.{Frag}
use Rattle.fragments.specs.Words.{size}
use Rattle.fragments.proofs.Pool.{Fit}
use Rattle.reassembly_state.specs.Limits.{frags_most, bytes_most}
use Rattle.reassembly_state.specs.Model.{Queue, held}
use Rattle.reassembly_theorems.proofs.Within.{Within}
use Rattle.streams_model.specs.Limits.{streams_most, own_frags, own_bytes}
use Rattle.streams_model.specs.Room.{draws, raised, frags_held, bytes_held, room_among}
use Rattle.streams_model.specs.State.{held_by, no_queue}
use Rattle.streams_theorems.specs.Runs.{Act, Push, Take, IsReadable, NumBytes, SkipOrdered, SkipUnordered, SkipBounded, Applicable}
use Rattle.streams_model.proofs.Totals.{added-set, draws-set, map-set, frags-added, bytes-added, frags-at, bytes-at, fit_one, fit_set}
use Rattle.streams_theorems.specs.Rule.{Drawn}
use Rattle.streams_theorems.proofs.Room.{room_drawable, all-frags, all-bytes}
use Rattle.streams_theorems.proofs.Acts.{frag_of, leaves, room_of, Holding, after}

pub record Good (n : ℕ) (qs : List Queue) : Type 0 where
  pub eight : length qs ≡ streams_most
  pub fit : Fit (held_by qs)
  pub few : length (held_by qs) ≤ frags_most
  pub small : size (held_by qs) ≤ n

-- the queues after an act on stream k, with room for a push where the rule has it
abbrev pub changed : List Queue → ℕ → Act → List Queue
changed qs k a = set qs k (leaves (room_of (room_among qs k) a) (get_or qs k no_queue) a)

-- a stream that holds less draws no more
draws_up : (own : ℕ) (ns : List ℕ) (k v w : ℕ) → k < length ns → v ≤ w → draws own (set ns k v) ≤ draws own (set ns k w)
draws_up own ns k v w below h = let a = draws-set own ns k v below in let b = draws-set own ns k w below in omega arith

draws_down : (own : ℕ) (ns : List ℕ) (k v : ℕ) → k < length ns → v ≤ get_or ns k 0 → draws own (set ns k v) ≤ draws own ns
draws_down own ns k v below h = let a = draws-set own ns k v below in omega arith

module _ (qs : List Queue) (eight : length qs ≡ streams_most) (k : ℕ) (below : k < streams_most) where
  abbrev q : Queue
  q = get_or qs k no_queue

  frags_below : k < length (map frags_held qs)
  frags_below = let e = length-map qs frags_held ∙ eight in omega arith

  bytes_below : k < length (map bytes_held qs)
  bytes_below = let e = length-map qs bytes_held ∙ eight in omega arith

  module _ (m : Queue) where
    -- what all hold, with another queue of the stream
    set-frags : length (held_by (set qs k m)) + length (held q) ≡ length (held_by qs) + length (held m)
    set-frags =
        let e = added-set (map frags_held qs) k (frags_held m) frags_below in
        let a = frags-at qs k in
        rw (frags-added (set qs k m), frags-added qs, map-set frags_held qs k m) (omega arith)

    set-bytes : size (held_by (set qs k m)) + size (held q) ≡ size (held_by qs) + size (held m)
    set-bytes =
        let e = added-set (map bytes_held qs) k (bytes_held m) bytes_below in
        let a = bytes-at qs k in
        rw (bytes-added (set qs k m), bytes-added qs, map-set bytes_held qs k m) (omega arith)

    drawn_less : Drawn qs → Within (held q) (held m) → Drawn (set qs k m)
    drawn_less d w =
        let a = draws_down own_frags (map frags_held qs) k (frags_held m) frags_below (rw (frags-at qs k) w.few) in
        let b = draws_down own_bytes (map bytes_held qs) k (bytes_held m) bytes_below (rw (bytes-at qs k) w.small) in
        record { frags = rw (map-set frags_held qs k m) (omega (arith, d.frags)); bytes = rw (map-set bytes_held qs k m) (omega (arith, d.bytes)) }

    drawn-more : (f : Frag) → room_among qs k f ≡ true → Within (f ∷ held q) (held m) → Drawn (set qs k m)
    unfolding raised size
    drawn-more f room w =
        let d = room_drawable qs k f room in
        let a = draws_up own_frags (map frags_held qs) k (frags_held m) (get_or (map frags_held qs) k 0 + 1) frags_below (rw (frags-at qs k) (omega (arith, w.few))) in
        let b = draws_up own_bytes (map bytes_held qs) k (bytes_held m) (get_or (map bytes_held qs) k 0 + length f.bytes) bytes_below (rw (bytes-at qs k) (omega (arith, w.small))) in
        record { frags = rw (map-set frags_held qs k m) (omega (arith, d.frags)); bytes = rw (map-set bytes_held qs k m) (omega (arith, d.bytes)) }

  -- an act leaves no more, or is a push with room
  by_act : (P : Queue → Type 0) → ((m : Queue) → Within (held q) (held m) → P m)
      → ((f : Frag) (m : Queue) → room_among qs k f ≡ true → Within (f ∷ held q) (held m) → P m)
      → (a : Act) → P (leaves (room_of (room_among qs k) a) q a)
  by_act P less more (Push c) = go _ (after _ q (Push c))
    where
      go : (m : Queue) → Holding (room_among qs k (frag_of c)) q (frag_of c) m → P m
      go m (inl w) = less m w
      go m (inr w) = more (frag_of c) m w.0 w.1
  by_act P less more (Take b) = less _ (after true q (Take b))
  by_act P less more IsReadable = less _ (after true q IsReadable)
  by_act P less more NumBytes = less _ (after true q NumBytes)
  by_act P less more (SkipOrdered ssn) = less _ (after true q (SkipOrdered ssn))
  by_act P less more (SkipUnordered tsn) = less _ (after true q (SkipUnordered tsn))
  by_act P less more (SkipBounded ssn tsn) = less _ (after true q (SkipBounded ssn tsn))
  by_act P less more (Applicable ssn tsn peer) = less _ (after true q (Applicable ssn tsn peer))

  pub changed-drawn : Drawn qs → (a : Act) → Drawn (changed qs k a)
  changed-drawn d a = by_act (λ (m : Queue). Drawn (set qs k m)) (λ m w. drawn_less m d w) (λ f m room w. drawn-more m f room w) a

module _ {n : ℕ} {qs : List Queue} (g : Good n qs) (k : ℕ) (below : k < streams_most) where
  set_less : (m : Queue) → Within (held (get_or qs k no_queue)) (held m) → Good n (set qs k m)
  set_less m w =
      let a = set-frags qs g.eight k below m in
      let b = set-bytes qs g.eight k below m in
      record {
        eight = length-set qs k m ∙ g.eight;
        fit = fit_set qs k m g.fit (w.fits (fit_one qs k g.fit));
        few = omega (arith, w.few, g.few);
        small = omega (arith, w.small, g.small);
      }

  set_more : bytes_most ≤ n → (f : Frag) (m : Queue) → room_among qs k f ≡ true → Within (f ∷ held (get_or qs k no_queue)) (held m) → Good n (set qs k m)
  unfolding size
  set_more long f m room w =
      let a = set-frags qs g.eight k below m in
      let b = set-bytes qs g.eight k below m in
      let most = all-bytes qs k f g.eight below room in
      record {
        eight = length-set qs k m ∙ g.eight;
        fit = fit_set qs k m g.fit (w.fits (omega arith, fit_one qs k g.fit));
        few = omega (arith, w.few, all-frags qs k f g.eight below room);
        small = omega (arith, w.small);
      }

  pub changed_good : bytes_most ≤ n → (a : Act) → Good n (changed qs k a)
  changed_good long a = by_act qs g.eight k below (λ (m : Queue). Good n (set qs k m)) set_less (set_more long) a
