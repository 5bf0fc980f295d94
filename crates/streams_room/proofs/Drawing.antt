-- The pass over the eight counts that asks for room: what the streams draw on the common part, after so many.
-- Assumes nothing.
use mathlib.Core.Path.{◌≡◌, refl, sym, ap, ◌∙◌}
use mathlib.Core.Bool.{Bool, true, false, ◌&&◌, cond, true≢false}
use mathlib.Core.List.{List, [], ◌∷◌, ◌++◌, map}
use Prim.Native.Nat.{ℕ, zero, suc, ◌+◌, ◌-◌, ◌*◌, ◌≤◌, ◌<◌}
use native.Mathlib.Omega.{arith}
use borrow.Author.Tests.{lt-leb, eq-eqb, eqb-true, le-leb}
use lib.Dec.{leb, eqb}
use lib.ListN.{length, take, get_or, length-set, length-map, get_or-map}
use lib.Seq.{take-suc, take_all, get_or-set_same, get_or-set_other}
use Rattle.reassembly_state.specs.Limits.{frags_most, bytes_most}
use Rattle.reassembly_state.specs.State.{count}
use Rattle.reassembly_state.specs.declared.Counts.{Counts}
use Rattle.streams_model.specs.Limits.{own_frags, own_bytes, common_frags, common_bytes}
use Rattle.streams_model.specs.Shape.{no_counts}
use Rattle.streams_model.specs.Room.{draws, raised}
use Rattle.streams_model.specs.State.{bytes_of}
use Rattle.streams_model.proofs.Rooms.{room_by}

pub draws-append : (own : ℕ) (xs ys : List ℕ) → draws own (xs ++ ys) ≡ draws own xs + draws own ys
unfolding draws
draws-append own [] ys = omega arith
draws-append own (x ∷ xs) ys = omega (arith, draws-append own xs ys)

-- each draws no more than all
draws_least : (own k : ℕ) (ns : List ℕ) → k < length ns → get_or ns k 0 - own ≤ draws own ns
unfolding draws
draws_least own k [] h = absurd (omega arith)
draws_least own zero (n ∷ ns) h = omega arith
draws_least own (suc k) (n ∷ ns) h = let l = draws_least own k ns (omega arith) in omega (arith, l)

module _ (f : Counts → ℕ) (qs : List Counts) (k n : ℕ) (none : f no_counts ≡ 0) where
  abbrev with_more : List ℕ
  with_more = raised k n (map f qs)

  raised-length : length with_more ≡ length qs
  unfolding raised
  raised-length = length-set (map f qs) k _ ∙ length-map qs f

  at : (i : ℕ) → get_or (map f qs) i 0 ≡ f (get_or qs i no_counts)
  at i = ap (get_or (map f qs) i) (sym none) ∙ get_or-map f qs i no_counts

  pub raised-same : k < length qs → get_or with_more k 0 ≡ f (get_or qs k no_counts) + n
  unfolding raised
  raised-same h = get_or-set_same (map f qs) k _ 0 (rw (length-map qs f) h) ∙ ap (λ (m : ℕ). m + n) (at k)

  pub raised_other : (i : ℕ) → (i ≡ k → ⊥) → get_or with_more i 0 ≡ f (get_or qs i no_counts)
  unfolding raised
  raised_other i h = get_or-set_other (map f qs) k i _ 0 h ∙ at i

  -- either way
  pub raised_at : (i : ℕ) → i < length qs → get_or with_more i 0 ≡ cond (eqb i k) (f (get_or qs i no_counts) + n) (f (get_or qs i no_counts))
  raised_at i h = go (eqb i k) refl
    where
      go : (b : Bool) → eqb i k ≡ b → get_or with_more i 0 ≡ cond b (f (get_or qs i no_counts) + n) (f (get_or qs i no_counts))
      go true e = let same = eqb-true i k e in rw same (raised-same (rw same at h))
      go false e = raised_other i (λ same. absurd (true≢false (sym (eq-eqb i k same) ∙ e)))

  -- the draws of the first i
  abbrev pub drawn : ℕ → ℕ → ℕ
  drawn own i = draws own (take i with_more)

  pub drawn-more : (own i : ℕ) → i < length qs → drawn own (i + 1) ≡ drawn own i + (get_or with_more i 0 - own)
  unfolding draws
  drawn-more own i h =
      let e : i + 1 ≡ suc i = omega arith in
      let next = take-suc with_more i 0 (omega (arith, raised-length)) in
      let both = ap (draws own) next ∙ draws-append own (take i with_more) (get_or with_more i 0 ∷ []) in
      rw e (omega (arith, both))

  pub drawn-all : (own i : ℕ) → i ≡ length qs → drawn own i ≡ draws own with_more
  drawn-all own i e = ap (draws own) (take_all i with_more (omega (arith, e, raised-length)))

  pub drawn_much : (own : ℕ) → k < length qs → n - own ≤ draws own with_more
  drawn_much own h = omega (arith, draws_least own k with_more (omega (arith, raised-length)), raised-same h)

-- after i turns the draws are those of the first i
pub record Drawn (qs : List Counts) (k more frags bytes i : ℕ) : Type 0 where
  pub high : i ≤ length qs
  pub frags_are : frags ≡ drawn count qs k 1 refl own_frags i
  pub bytes_are : bytes ≡ drawn bytes_of qs k more refl own_bytes i
  pub frags_few : frags ≤ i * (frags_most + 1)
  pub bytes_few : bytes ≤ i * (16777216 * frags_most + bytes_most)

module _ (qs : List Counts) (k more : ℕ) where
  pub drawn_none : Drawn qs k more 0 0 0
  unfolding draws
  drawn_none = record { high = omega arith; frags_are = refl; bytes_are = refl; frags_few = omega arith; bytes_few = omega arith }

  module _ {frags bytes i : ℕ} (d : Drawn qs k more frags bytes i) (l : i < length qs) {q : Counts} (e : q ≡ get_or qs i no_counts) where
    module _ {n size : ℕ} (a : n ≡ cond (eqb i k) (count q + 1) (count q)) (b : size ≡ cond (eqb i k) (bytes_of q + more) (bytes_of q)) where
      pub drawn-next : n ≤ frags_most + 1 → size ≤ 16777216 * frags_most + bytes_most → Drawn qs k more (frags + (n - own_frags)) (bytes + (size - own_bytes)) (i + 1)
      drawn-next f g =
          let at_n : get_or (raised k 1 (map count qs)) i 0 ≡ n = raised_at count qs k 1 refl i l ∙ sym (rw e at a) in
          let at_size : get_or (raised k more (map bytes_of qs)) i 0 ≡ size = raised_at bytes_of qs k more refl i l ∙ sym (rw e at b) in
          let frags-more = drawn-more count qs k 1 refl own_frags i l in
          let bytes-more = drawn-more bytes_of qs k more refl own_bytes i l in
          record {
            high = omega arith;
            frags_are = omega (arith, d.frags_are, frags-more, at_n);
            bytes_are = omega (arith, d.bytes_are, bytes-more, at_size);
            frags_few = omega (arith, d.frags_few);
            bytes_few = omega (arith, d.bytes_few);
          }

  pub too_much : k < length qs → bytes_most < more → false ≡ room_by qs k more
  too_much l h =
      let much = drawn_much bytes_of qs k more refl own_bytes l in
      sym (ap (λ (b : Bool). leb (draws own_frags (raised k 1 (map count qs))) common_frags && b) (lt-leb (draws own_bytes (raised k more (map bytes_of qs))) common_bytes (omega (arith, much))) ∙ and-false (leb (draws own_frags (raised k 1 (map count qs))) common_frags))
    where
      and-false : (b : Bool) → b && false ≡ false
      and-false true = refl
      and-false false = refl

  module _ {frags bytes i : ℕ} (d : Drawn qs k more frags bytes i) (e : i ≡ length qs) where
    all-frags : frags ≡ draws own_frags (raised k 1 (map count qs))
    all-frags = d.frags_are ∙ drawn-all count qs k 1 refl own_frags i e

    all-bytes : bytes ≡ draws own_bytes (raised k more (map bytes_of qs))
    all-bytes = d.bytes_are ∙ drawn-all bytes_of qs k more refl own_bytes i e

    pub no_room : common_frags < frags → false ≡ room_by qs k more
    no_room h = rw (← all-frags, lt-leb frags common_frags h)

    pub room_decides : frags ≤ common_frags → leb bytes common_bytes ≡ room_by qs k more
    room_decides h = rw (← all-frags, ← all-bytes, le-leb frags common_frags h)
