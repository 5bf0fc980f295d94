-- Room among the streams, by their counts; and that there is room for one more in the table and the pool then.
-- Assumes nothing.
use mathlib.Core.Path.{◌≡◌, refl, ap}
use mathlib.Core.Bool.{Bool, true, ◌&&◌}
use mathlib.Core.List.{List, [], ◌∷◌, map}
use Prim.Native.Nat.{ℕ, ◌+◌, ◌*◌, ◌<◌, ◌≤◌}
use native.Mathlib.Omega.{arith}
use borrow.Author.Tests.{leb-true}
use lib.Dec.{leb}
use lib.ListN.{length, get_or, set, length-set, length-map}
use Rattle.fragments.specs.Frag.{Frag}
use Rattle.reassembly_state.specs.Limits.{frags_most, bytes_most}
use Rattle.reassembly_state.specs.Model.{Queue}
use Rattle.reassembly_state.specs.State.{count, counts}
use Rattle.reassembly_state.specs.declared.Counts.{Counts}
use Rattle.reassembly_state.proofs.Laid.{counts-count}
use Rattle.streams_model.specs.Limits.{streams_most, own_frags, own_bytes, common_frags, common_bytes}
use Rattle.streams_model.specs.Room.{draws, raised, frags_held, bytes_held, room_among}
use Rattle.streams_model.specs.State.{State, summed, rows_held, bytes_of, bytes_said, view}
use Rattle.streams_model.proofs.Laws.{Sound, both, counts-own}
use Rattle.streams_model.proofs.Totals.{added, added-set, added-draws}

-- room, by what the counts say
abbrev pub room_by : List Counts → ℕ → ℕ → Bool
room_by qs k more = leb (draws own_frags (raised k 1 (map count qs))) common_frags && leb (draws own_bytes (raised k more (map bytes_of qs))) common_bytes

frags-counted : (ms : List Queue) → map frags_held ms ≡ map count (map counts ms)
frags-counted [] = refl
frags-counted (m ∷ ms) = rw (← (counts-count m), frags-counted ms)

bytes_counted : (ms : List Queue) → map bytes_held ms ≡ map bytes_of (map counts ms)
unfolding counts
bytes_counted [] = refl
bytes_counted (m ∷ ms) = rw (bytes_counted ms)

pub room_by_lem : (s : State) → Sound s → length s.rows ≡ frags_most → (k : ℕ) (f : Frag) → room_by s.queues k (length f.bytes) ≡ room_among (view s) k f
unfolding room_among
room_by_lem s o full k f = rw (frags-counted (view s), bytes_counted (view s), counts-own s o full)

summed-added : (f : Counts → ℕ) (qs : List Counts) → summed f qs ≡ added (map f qs)
summed-added f [] = refl
summed-added f (q ∷ qs) = ap (λ (n : ℕ). f q + n) (summed-added f qs)

-- all that is held with n more is drawn on the common part, or some stream's own
raised_all : (own : ℕ) (ns : List ℕ) (k n : ℕ) → k < length ns → added ns + n ≤ draws own (raised k n ns) + own * length ns
unfolding raised
raised_all own ns k n h =
    let v = get_or ns k 0 + n in
    let e = added-set ns k v h in
    let d = rw (length-set ns k v) at (added-draws own (set ns k v)) in
    omega (arith, e, d)

pub room_fits : (qs : List Counts) → length qs ≡ streams_most → (k more : ℕ) → k < streams_most → room_by qs k more ≡ true → (rows_held qs < frags_most) × (bytes_said qs + more ≤ bytes_most)
room_fits qs eight k more h e =
    let b = both (leb (draws own_frags (raised k 1 (map count qs))) common_frags) _ e in
    let few = leb-true (draws own_frags (raised k 1 (map count qs))) common_frags b.0 in
    let small = leb-true (draws own_bytes (raised k more (map bytes_of qs))) common_bytes b.1 in
    let rows = raised_all own_frags (map count qs) k 1 (rw (length-map qs count) (omega arith)) in
    let bytes = raised_all own_bytes (map bytes_of qs) k more (rw (length-map qs bytes_of) (omega arith)) in
    (omega (arith, few, rows, summed-added count qs, length-map qs count), omega (arith, small, bytes, summed-added bytes_of qs, length-map qs bytes_of))
