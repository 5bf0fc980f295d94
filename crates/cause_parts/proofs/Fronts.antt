-- The cause at a place and the chunk in a value: what their tests say of the definitions.
-- Assumes nothing.
use mathlib.Core.Path.{◌≡◌, refl, sym, ap, ◌∙◌}
use mathlib.Core.List.{List, [], ◌∷◌}
use Prim.Native.Nat.{ℕ, zero, suc, ◌+◌, ◌*◌, ◌/◌, ◌%◌, ◌<◌, ◌≤◌}
use native.Mathlib.Nat.{suc-add}
use native.Mathlib.Omega.{arith}
use borrow.Author.Tests.{lt-ltb, le-ltb, eq-eqb, ne_eqb}
use lib.ListN.{length, get_or, take, drop, length-drop}
use lib.Seq.{get_or-take, get_or-drop, take-nil, drop-drop}
use Rattle.wire_model.specs.BigEndian.{big_endian}
use Rattle.wire_model.specs.Refusal.{none, refuse, first}
use Rattle.chunk.specs.Layout.{Header, header}
use Rattle.packet_parts.specs.Fronts.{front_header, front_size, front_checks, left_checks}
use Rattle.packet_parts.proofs.Fronts.{passed-front}
use Rattle.cause_parts.specs.Causes.{cause_code, cause_size, cause_checks, chunk_causes}
use Rattle.cause_parts.specs.Fronts.{CausesThere}

-- ── the cause at a place ──

-- the number of two bytes that is read at its place is the one that stands there
number_read : (raw : List ℕ) (at k n : ℕ) → n < 65536 → take 2 (drop (at + k) raw) ≡ big_endian 2 n → n ≡ get_or (drop at raw) k 0 * 256 + get_or (drop at raw) (k + 1) 0
unfolding big_endian
number_read raw at k n h e =
    let high : get_or (drop at raw) k 0 ≡ n / 256 % 256 = get_or-drop at raw k 0 ∙ sym (byte 0 (at + k) (omega arith) (omega arith)) ∙ ap (λ (z : List ℕ). get_or z 0 0) e in
    let low : get_or (drop at raw) (k + 1) 0 ≡ n % 256 = get_or-drop at raw (k + 1) 0 ∙ sym (byte 1 (at + (k + 1)) (omega arith) (omega arith)) ∙ ap (λ (z : List ℕ). get_or z 1 0) e in
    omega arith
  where
    byte : (i place : ℕ) → i < 2 → at + k + i ≡ place → get_or (take 2 (drop (at + k) raw)) i 0 ≡ get_or raw place 0
    byte i place l p = get_or-take 2 (drop (at + k) raw) i 0 l ∙ get_or-drop (at + k) raw i 0 ∙ ap (λ (j : ℕ). get_or raw j 0) p

pub code_read : (raw : List ℕ) (at n : ℕ) → n < 65536 → take 2 (drop at raw) ≡ big_endian 2 n → n ≡ cause_code (drop at raw)
unfolding cause_code
code_read raw at n h e = let z : at + 0 ≡ at = omega arith in number_read raw at 0 n h (rw z e)

pub size-read : (raw : List ℕ) (at n : ℕ) → n < 65536 → take 2 (drop (at + 2) raw) ≡ big_endian 2 n → n ≡ cause_size (drop at raw)
unfolding cause_size
size-read raw at n h e = number_read raw at 2 n h e

module _ (bytes : List ℕ) where
  pub too_few : length bytes < 4 → first (cause_checks bytes) ≡ refuse 16
  too_few h = rw (lt-ltb (length bytes) 4 h)

  pub too_small : 4 ≤ length bytes → cause_size bytes < 4 → first (cause_checks bytes) ≡ refuse 16
  too_small h l = rw (le-ltb (length bytes) 4 h, lt-ltb (cause_size bytes) 4 l)

  pub too_long : 4 ≤ length bytes → 4 ≤ cause_size bytes → length bytes < cause_size bytes → first (cause_checks bytes) ≡ refuse 16
  too_long h l m = rw (le-ltb (length bytes) 4 h, le-ltb (cause_size bytes) 4 l, lt-ltb (length bytes) (cause_size bytes) m)

  pub cause_passes : 4 ≤ length bytes → 4 ≤ cause_size bytes → cause_size bytes ≤ length bytes → first (cause_checks bytes) ≡ none
  cause_passes h l m = rw (le-ltb (length bytes) 4 h, le-ltb (cause_size bytes) 4 l, le-ltb (length bytes) (cause_size bytes) m)

-- ── the chunk in a value ──

pub some_left : (bytes : List ℕ) → 0 < length bytes → left_checks bytes ≡ front_checks bytes
some_left [] h = absurd (omega arith)
some_left (b ∷ bytes) h = refl

-- a part of what is left is what is left of a part
pub take-drop : (m k : ℕ) (l : List ℕ) → take k (drop m l) ≡ drop m (take (m + k) l)
take-drop zero k l = let e : 0 + k ≡ k = omega arith in rw e
take-drop (suc m) k [] = rw (take-nil, take-nil)
take-drop (suc m) k (a ∷ l) = rw suc-add (take-drop m k l)

module _ (raw : List ℕ) (at : ℕ) (h : at < length raw) where
  left-some : 0 < length (drop at raw)
  left-some = rw length-drop (omega arith)

  pub chunk-refused : {k : ℕ} → first (front_checks (drop at raw)) ≡ refuse k → first (left_checks (drop at raw)) ≡ refuse k
  chunk-refused e = rw (some_left (drop at raw) left-some) e

  module _ (kind flags size : ℕ) (p : first (front_checks (drop at raw)) ≡ none) (f : header kind flags size ≡ front_header (drop at raw)) where
    of_kind : (front_header (drop at raw)).kind ≡ kind
    of_kind = sym (ap (λ (x : Header). x.kind) f)

    of_size : (front_header (drop at raw)).size ≡ size
    of_size = sym (ap (λ (x : Header). x.size) f)

    chunk_passes : first (left_checks (drop at raw)) ≡ none
    chunk_passes = rw (some_left (drop at raw) left-some) p

    followed : drop 4 (take (front_size (drop at raw)) (drop at raw)) ≡ chunk_causes (drop at raw) → CausesThere raw at (at + size)
    followed e =
        let room = passed-front (drop at raw) p in
        let long = length-drop at raw in
        record {
          passes = chunk_passes;
          are = sym e ∙ ap (λ (n : ℕ). drop 4 (take n (drop at raw))) of_size ∙ ap (drop 4) (take-drop at size raw) ∙ drop-drop 4 at (take (at + size) raw);
          four = omega (arith, room.0, of_size);
          within = omega (arith, room.1, of_size, long);
        }

    pub error_followed : kind ≡ 9 → CausesThere raw at (at + size)
    error_followed e = followed (rw (eq-eqb (front_header (drop at raw)).kind 9 (of_kind ∙ e)))

    pub abort_followed : (kind ≡ 9 → ⊥) → kind ≡ 6 → CausesThere raw at (at + size)
    abort_followed n e = followed (rw (ne_eqb (front_header (drop at raw)).kind 9 (λ q. n (sym of_kind ∙ q)), eq-eqb (front_header (drop at raw)).kind 6 (of_kind ∙ e)))

    pub not_followed : (kind ≡ 9 → ⊥) → (kind ≡ 6 → ⊥) → (first (left_checks (drop at raw)) ≡ none) × (chunk_causes (drop at raw) ≡ [])
    not_followed n m = (chunk_passes, rw (ne_eqb (front_header (drop at raw)).kind 9 (λ q. n (sym of_kind ∙ q)), ne_eqb (front_header (drop at raw)).kind 6 (λ q. m (sym of_kind ∙ q))))

-- "an empty value holds none"
pub empty_holds_none : (value : List ℕ) → value ≡ [] → (first (left_checks value) ≡ none) × (chunk_causes value ≡ [])
unfolding front_header
empty_holds_none value e = rw e (refl, refl)
