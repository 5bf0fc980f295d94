-- The number that the first k bytes are, 0 for each that is not there, and these bytes.
-- Assumes nothing.
use mathlib.Core.Path.{◌≡◌, refl, sym, ap, ◌∙◌}
use mathlib.Core.List.{List, [], ◌∷◌, ◌++◌}
use Prim.Native.Nat.{ℕ, zero, suc, ◌+◌, ◌^◌, ◌<◌, ◌≤◌}
use native.Mathlib.Nat.{pow-suc, mul-le-mul_right, zero-add, suc-add}
use native.Mathlib.Omega.{arith}
use lib.ListN.{length, get_or, take, drop}
use lib.Seq.{take-nil, drop-nil, take_all}
use Rattle.wire_model.specs.BigEndian.{big_endian}
use Rattle.wire_model.specs.Facts.{big_endian-length, read_back, big_endian-more}
use Rattle.wire.proofs.Exists.{Bytes}
use Rattle.replay_file.specs.File.{number}

pub firsts : ℕ → List ℕ → List ℕ
firsts zero raw = []
firsts (suc k) [] = 0 ∷ firsts k []
firsts (suc k) (b ∷ raw) = b ∷ firsts k raw

-- as far as there are any, they are the front of the bytes
pub firsts_begin : (n : ℕ) (raw : List ℕ) → take n raw ≡ take (length raw) (firsts n raw)
unfolding firsts
firsts_begin zero raw = sym (take-nil (length raw))
firsts_begin (suc n) [] = refl
firsts_begin (suc n) (b ∷ raw) = ap (λ (l : List ℕ). b ∷ l) (firsts_begin n raw)

firsts_more : (k : ℕ) (raw : List ℕ) → firsts (suc k) raw ≡ firsts k raw ++ (get_or raw k 0 ∷ [])
unfolding firsts
firsts_more zero [] = refl
firsts_more zero (b ∷ raw) = refl
firsts_more (suc k) [] = ap (λ (l : List ℕ). 0 ∷ l) (firsts_more k [])
firsts_more (suc k) (b ∷ raw) = ap (λ (l : List ℕ). b ∷ l) (firsts_more k raw)

pub firsts_both : (a b : ℕ) (raw : List ℕ) → firsts a raw ++ firsts b (drop a raw) ≡ firsts (a + b) raw
unfolding firsts
firsts_both zero b raw = rw zero-add
firsts_both (suc a) b [] = rw suc-add (ap (λ (l : List ℕ). 0 ∷ l) (rw (drop-nil a) at (firsts_both a b [])))
firsts_both (suc a) b (x ∷ raw) = rw suc-add (ap (λ (l : List ℕ). x ∷ l) (firsts_both a b raw))

-- the number fits k bytes, and is these
pub number_lt : (k : ℕ) (raw : List ℕ) → Bytes raw → number k raw < 256 ^ k
unfolding number
number_lt zero raw by = omega arith
number_lt (suc k) raw by =
    let h : number k raw + 1 ≤ 256 ^ k = omega (arith, number_lt k raw by) in
    let m = mul-le-mul_right 256 h in
    rw pow-suc (omega (arith, by k, m))

pub number_is : (k : ℕ) (raw : List ℕ) → Bytes raw → big_endian k (number k raw) ≡ firsts k raw
unfolding number big_endian firsts
number_is zero raw by = refl
number_is (suc k) raw by = big_endian-more k (number k raw) (get_or raw k 0) (by k) ∙ ap (λ (l : List ℕ). l ++ (get_or raw k 0 ∷ [])) (number_is k raw by) ∙ sym (firsts_more k raw)

-- so it is the number that is read where there are k bytes
pub number_read : (k : ℕ) (raw : List ℕ) → Bytes raw → k ≤ length raw → {x : ℕ} → x < 256 ^ k → take k raw ≡ big_endian k x → x ≡ number k raw
number_read k raw by h fits e =
    let long : length (firsts k raw) ≤ length raw = rw (← (number_is k raw by), big_endian-length k (number k raw)) h in
    read_back k fits (number_lt k raw by) (sym e ∙ firsts_begin k raw ∙ take_all (length raw) (firsts k raw) long ∙ sym (number_is k raw by))
