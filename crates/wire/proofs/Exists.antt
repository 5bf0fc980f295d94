-- Whatever bytes are lent, fields stand at their front: the numbers exist.
-- Assumes nothing.
use mathlib.Core.Path.{◌≡◌, refl, sym, ap, ◌∙◌}
use mathlib.Core.List.{List, ◌++◌}
use Prim.Native.Nat.{ℕ, zero, suc, ◌+◌, ◌-◌, ◌*◌, ◌^◌, ◌<◌, ◌≤◌}
use native.Mathlib.Decide.{dec_le}
use native.Mathlib.Nat.{pow-suc, mul-le-mul_right}
use native.Mathlib.Omega.{arith}
use lib.ListN.{length, get_or, take, drop, replicate, length-append, length-replicate, get_or-replicate, get_or-append, get_or-eq_default}
use lib.Seq.{take-suc, take-add, take_all, take_at, take-take, take-append-le, get_or-drop, get_or-append-add}
use Rattle.wire_model.specs.BigEndian.{big_endian}
use Rattle.wire_model.specs.Facts.{big_endian-more}

-- every element is a byte
abbrev pub Bytes : List ℕ → Type 0
Bytes raw = (i : ℕ) → get_or raw i 0 < 256

-- the number of the first k bytes
number : List ℕ → ℕ → ℕ
number raw zero = 0
number raw (suc k) = number raw k * 256 + get_or raw k 0

number_lt : (raw : List ℕ) → Bytes raw → (k : ℕ) → number raw k < 256 ^ k
unfolding number
number_lt raw b zero = omega arith
number_lt raw b (suc k) =
    let h : number raw k + 1 ≤ 256 ^ k = omega (arith, number_lt raw b k) in
    let m = mul-le-mul_right 256 h in
    rw pow-suc (omega (arith, b k, m))

number_is : (raw : List ℕ) → Bytes raw → (k : ℕ) → k ≤ length raw → take k raw ≡ big_endian k (number raw k)
unfolding number big_endian
number_is raw b zero h = refl
number_is raw b (suc k) h =
    let l : k < length raw = omega arith in
    rw (take-suc raw k 0 l, number_is raw b k (omega arith)) (sym (big_endian-more k (number raw k) (get_or raw k 0) (b k)))

-- ── fields one behind the other ──

-- a number that fits k bytes, and is those at the front
pub record Piece (raw : List ℕ) (k : ℕ) : Type 0 where
  pub value : ℕ
  pub fits : value < 256 ^ k
  pub is : take k raw ≡ big_endian k value

pub piece : (raw : List ℕ) → Bytes raw → (k : ℕ) → k ≤ length raw → Piece raw k
piece raw b k h = record { value = number raw k; fits = number_lt raw b k; is = number_is raw b k h }

-- a field, and what is left
pub cut : (raw : List ℕ) (k m : ℕ) (p : Piece raw k) {rest : List ℕ} → take m (drop k raw) ≡ rest → take (k + m) raw ≡ big_endian k p.value ++ rest
cut raw k m p {rest} e = rw (take-add k m raw, p.is, e)

pub bytes_drop : (raw : List ℕ) (k : ℕ) → Bytes raw → Bytes (drop k raw)
bytes_drop raw k b i = rw get_or-drop (b (k + i))

-- ── bytes that are too few, made enough ──

pub padded : ℕ → List ℕ → List ℕ
padded n raw = raw ++ replicate n 0

pub padded-long : (n : ℕ) (raw : List ℕ) → n ≤ length (padded n raw)
unfolding padded
padded-long n raw = simp (length-append, length-replicate) (omega arith)

pub padded-bytes : (n : ℕ) (raw : List ℕ) → Bytes raw → Bytes (padded n raw)
unfolding padded
padded-bytes n raw b i = go (dec_le (suc i) (length raw))
  where
    zeros : (j : ℕ) → get_or (replicate n 0) j 0 < 256
    zeros j = fill (dec_le (suc j) n)
      where
        fill : Dec (suc j ≤ n) → get_or (replicate n 0) j 0 < 256
        fill (yes h) = rw (get_or-replicate {A = ℕ} n j 0 0 h) (omega arith)
        fill (no h) = rw (get_or-eq_default {A = ℕ} (replicate n 0) 0 {n = j} (rw length-replicate (omega arith))) (omega arith)

    go : Dec (suc i ≤ length raw) → get_or (raw ++ replicate n 0) i 0 < 256
    go (yes h) = rw (get_or-append raw (replicate n 0) 0 i h) (b i)
    go (no h) =
        let e : length raw + (i - length raw) ≡ i = omega arith in
        rw (← e, get_or-append-add) (zeros (i - length raw))

-- what the padded bytes begin with, the bytes begin with as far as they go
pub unpadded : (n : ℕ) (raw : List ℕ) {bytes : List ℕ} → length bytes ≡ n → take n (padded n raw) ≡ bytes → take n raw ≡ take (length raw) bytes
unfolding padded
unpadded n raw {bytes} l e = go (dec_le n (length raw))
  where
    go : Dec (n ≤ length raw) → take n raw ≡ take (length raw) bytes
    go (yes h) = sym (take-append-le n raw (replicate n 0) h) ∙ e ∙ sym (take_all (length raw) bytes (omega arith))
    go (no h) =
        take_all n raw (omega arith) ∙ sym (take_at raw (replicate n 0) (length raw) refl)
        ∙ sym (take-take (length raw) n (raw ++ replicate n 0) (omega arith)) ∙ ap (take (length raw)) e
