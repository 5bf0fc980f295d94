-- The piece rule: for m of 1 or more, n bytes come out in exactly max(1, n/m rounded up) pieces, then none, and the pieces in a row are the message.
-- Assumes nothing.
use mathlib.Core.Path.{◌≡◌, refl, sym, ap, ◌∙◌}
use mathlib.Core.Bool.{Bool, true, false, not, ◌||◌, ◌&&◌, or-false}
use mathlib.Core.List.{List, ◌++◌, append-nil}
use mathlib.Core.Logic.{⊎_elim, ◌⊎◌, inl, inr}
use Prim.Native.Nat.{ℕ, zero, suc, ◌+◌, ◌-◌, ◌*◌, ◌/◌, ◌<◌, ◌≤◌, min}
use native.Mathlib.Nat.{div-lt_iff_lt-mul, suc-mul}
use native.Mathlib.Decide.{dec_le}
use native.Mathlib.Omega.{arith}
use borrow.Author.Tests.{eq-eqb, ne_eqb, le-ltb}
use lib.Dec.{eqb}
use lib.ListN.{length, take}
use lib.Seq.{take-add, take-take}
use Rattle.wire_model.specs.Refusal.{none, Told, says}
use Rattle.chunks.specs.Message.{Place, place, no_place, unsound, finished, moved, next_piece, After, after, bytes}
use Rattle.chunks.specs.Pieces.{after_calls, answer_of, bytes_at, handed, pieces_of}
use Rattle.chunks.specs.declared.Chunks.{Chunks}

-- a message that no piece was read of yet, beside its buffer
pub record Fresh (m : Chunks) (buffer : List ℕ) : Type 0 where
  pub start : m.position ≡ 0
  pub ungiven : m.given ≡ false
  pub lent : m.size ≤ length buffer

absorb : (x e : Bool) → (x && e) || e ≡ e
absorb true true = refl
absorb true false = refl
absorb false e = refl

module _ (buffer : List ℕ) (most : ℕ) (one : 1 ≤ most) (m : Chunks) (f : Fresh m buffer) where
  -- after k calls: the position, and whether an empty message's piece was given
  record At (k : ℕ) (c : Chunks) : Type 0 where
    size : c.size ≡ m.size
    position : c.position ≡ min (k * most) m.size
    given : c.given ≡ (not (eqb k 0) && eqb m.size 0)

  module _ {k : ℕ} {c : Chunks} (a : At k c) where
    is_sound : unsound c buffer ≡ false
    unfolding unsound
    is_sound =
        let lent : c.size ≤ length buffer = omega (arith, a.size, f.lent) in
        let within : c.position ≤ c.size = omega (arith, a.size, a.position) in
        rw (le-ltb _ _ lent, le-ltb _ _ within)

    -- all was given
    is-done : 1 ≤ k → m.size ≤ k * most → finished c ≡ true
    unfolding finished
    is-done h l =
        let p : c.position ≡ c.size = omega (arith, a.size, a.position) in
        let k0 : k ≡ 0 → ⊥ = λ z. omega arith in
        rw (eq-eqb _ _ p, a.size, a.given, ne_eqb k 0 k0) (either (eqb m.size 0))
      where
        either : (b : Bool) → true && (not b || (true && b)) ≡ true
        either true = refl
        either false = refl

    -- something is left, be it an empty message's one piece
    is-left : k * most < m.size → finished c ≡ false
    unfolding finished
    is-left h = let p : c.position ≡ c.size → ⊥ = λ z. omega (arith, a.size, a.position) in rw (ne_eqb _ _ p)

    is-first : k ≡ 0 → m.size ≡ 0 → finished c ≡ false
    unfolding finished
    is-first h n =
        let p : c.position ≡ c.size = omega (arith, a.size, a.position) in
        rw (eq-eqb _ _ p, a.size, a.given, eq-eqb _ _ h, eq-eqb _ _ n)

    -- then the next call gives what is left, at most so much
    gives : finished c ≡ false → next_piece c buffer most ≡ after (says none (place c.position (min most (c.size - c.position)))) (moved c (min most (c.size - c.position)))
    unfolding next_piece
    gives e = rw (is_sound, e)

    ends : finished c ≡ true → next_piece c buffer most ≡ after (says none no_place) c
    unfolding next_piece
    ends e = rw (is_sound, e)

    step_gives : finished c ≡ false → At (suc k) (next_piece c buffer most).message
    unfolding moved
    step_gives e =
        rw (gives e)
        (record {
          size = a.size;
          position = rw suc-mul (omega (arith, a.position, a.size));
          given = rw (a.given, a.size, ne_eqb (suc k) 0 (λ z. omega arith)) (absorb (not (eqb k 0)) (eqb m.size 0));
        })

    step-ends : 1 ≤ k → m.size ≤ k * most → At (suc k) (next_piece c buffer most).message
    step-ends h l =
        rw (ends (is-done h l))
        (record {
          size = a.size;
          position = rw suc-mul (omega (arith, a.position));
          given = a.given ∙ rw (ne_eqb k 0 (λ z. omega arith), ne_eqb (suc k) 0 (λ z. omega arith));
        })

  -- whether call number k gives a piece
  data More (k : ℕ) : Type 0 where
    empty : k ≡ 0 → m.size ≡ 0 → More k
    left : k * most < m.size → More k
    over : 1 ≤ k → m.size ≤ k * most → More k

  more : (k : ℕ) → More k
  more zero = go (dec_le 1 m.size)
    where
      go : Dec (1 ≤ m.size) → More 0
      go (yes h) = left (let z : 0 * most ≡ 0 = omega arith in rw z h)
      go (no h) = empty refl (omega arith)
  more (suc k) = go (dec_le m.size (suc k * most))
    where
      go : Dec (m.size ≤ suc k * most) → More (suc k)
      go (yes h) = over (omega arith) h
      go (no h) = left (omega arith)

  at : (k : ℕ) → At k (after_calls buffer most k m)
  unfolding after_calls
  at zero = record { size = refl; position = let z : 0 * most ≡ 0 = omega arith in omega (arith, f.start); given = f.ungiven }
  at (suc k) = go (at k) (more k)
    where
      go : At k (after_calls buffer most k m) → More k → At (suc k) (next_piece (after_calls buffer most k m) buffer most).message
      go a (empty h n) = step_gives a (is-first a h n)
      go a (left h) = step_gives a (is-left a h)
      go a (over h l) = step-ends a h l

  -- ── the piece rule ──

  -- call number k gives the k-th run of so many bytes, or what is left of the last
  pub piece : (k : ℕ) → (k ≡ 0) ⊎ (k * most < m.size) → answer_of buffer most k m ≡ says none (place (min (k * most) m.size) (min most (m.size - min (k * most) m.size)))
  piece k h = go (more k) h
    where
      told : {c : Chunks} → At k c → finished c ≡ false → (next_piece c buffer most).told ≡ says none (place (min (k * most) m.size) (min most (m.size - min (k * most) m.size)))
      told a e = rw (gives a e, a.position, a.size)

      go : More k → (k ≡ 0) ⊎ (k * most < m.size) → answer_of buffer most k m ≡ says none (place (min (k * most) m.size) (min most (m.size - min (k * most) m.size)))
      go (empty z n) w = told (at k) (is-first (at k) z n)
      go (left l) w = told (at k) (is-left (at k) l)
      go (over u v) w = absurd (⊎_elim (λ z. omega arith) (λ z. omega arith) w)

  -- and from there on none
  pub no_piece : (k : ℕ) → 1 ≤ k → m.size ≤ k * most → answer_of buffer most k m ≡ says none no_place
  no_piece k h l = ap (λ (x : After). x.told) (ends (at k) (is-done (at k) h l))

  -- so they are exactly so many: call number k gives a piece where k is below max(1, n/m rounded up), and none from there on
  below : (k : ℕ) → (m.size + (most - 1)) / most ≤ k → m.size ≤ k * most
  below k h =
      let q = (div-lt_iff_lt-mul {k = most} {x = m.size + (most - 1)} {y = suc k} (omega arith)).0 (omega arith) in
      omega (arith, rw suc-mul at q)

  above : (k : ℕ) → k < (m.size + (most - 1)) / most → k * most < m.size
  above k h = go (dec_le m.size (k * most))
    where
      go : Dec (m.size ≤ k * most) → k * most < m.size
      go (no l) = omega arith
      go (yes l) =
          let s = suc-mul k most in
          let q = (div-lt_iff_lt-mul {k = most} {x = m.size + (most - 1)} {y = suc k} (omega arith)).1 (omega arith) in
          absurd (omega arith)

  pub exactly : (k : ℕ) → (k < pieces_of m.size most → (answer_of buffer most k m).values.comes ≡ true) × (pieces_of m.size most ≤ k → answer_of buffer most k m ≡ says none no_place)
  exactly k = ((λ h. ap (λ (t : Told Place). t.values.comes) (piece k (first h (dec_le 1 k)))), (λ h. no_piece k (omega arith) (below k (omega arith))))
    where
      first : k < pieces_of m.size most → Dec (1 ≤ k) → (k ≡ 0) ⊎ (k * most < m.size)
      first h (yes l) = inr (above k (omega arith))
      first h (no l) = inl (omega arith)

  -- the first k pieces in a row are the front of the message
  pub in_a_row : (k : ℕ) → handed buffer most k m ≡ take (min (k * most) m.size) (bytes m buffer)
  unfolding handed
  in_a_row zero = let z : min (0 * most) m.size ≡ 0 = let y : 0 * most ≡ 0 = omega arith in omega arith in rw z
  in_a_row (suc k) = go (more k) (in_a_row k)
    where
      gained : (k ≡ 0) ⊎ (k * most < m.size) → handed buffer most k m ≡ take (min (k * most) m.size) (bytes m buffer) → handed buffer most k m ++ bytes_at buffer most m (answer_of buffer most k m).values ≡ take (min (suc k * most) m.size) (bytes m buffer)
      gained w e =
          let n = min most (m.size - min (k * most) m.size) in
          let s : min (suc k * most) m.size ≡ min (k * most) m.size + n = rw suc-mul (omega arith) in
          rw (e, piece k w, s) (sym (take-add (min (k * most) m.size) n (bytes m buffer)))

      go : More k → handed buffer most k m ≡ take (min (k * most) m.size) (bytes m buffer) → handed buffer most k m ++ bytes_at buffer most m (answer_of buffer most k m).values ≡ take (min (suc k * most) m.size) (bytes m buffer)
      go (empty z n) e = gained (inl z) e
      go (left l) e = gained (inr l) e
      go (over u v) e =
          let s : min (suc k * most) m.size ≡ min (k * most) m.size = rw suc-mul (omega arith) in
          rw (e, no_piece k u v, s, append-nil)

  -- and all of them are the message
  pub whole : handed buffer most (pieces_of m.size most) m ≡ bytes m buffer
  whole =
      let b = below (pieces_of m.size most) (omega arith) in
      let n : min (pieces_of m.size most * most) m.size ≡ m.size = omega arith in
      in_a_row (pieces_of m.size most) ∙ rw n (take-take m.size m.size buffer (omega arith))

-- at m = 0 with bytes left the piece is empty and nothing moves
pub none_moves : (m : Chunks) (buffer : List ℕ) → unsound m buffer ≡ false → m.position < m.size → next_piece m buffer 0 ≡ after (says none (place m.position 0)) m
unfolding next_piece finished moved
none_moves m buffer s h =
    let p : m.position ≡ m.size → ⊥ = λ z. omega arith in
    let n : m.size ≡ 0 → ⊥ = λ z. omega arith in
    let z : min 0 (m.size - m.position) ≡ 0 = omega arith in
    let q : m.position + 0 ≡ m.position = omega arith in
    rw (s, ne_eqb _ _ p, z, q, ne_eqb _ _ n, or-false)
