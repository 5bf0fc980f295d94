-- What stands at the front of the rest of a file, by the tests that tell it; and that it is told by 65,537 bytes.
-- Assumes nothing.
use mathlib.Core.Path.{◌≡◌, refl, sym}
use mathlib.Core.Bool.{Bool, true, false, cond}
use mathlib.Core.List.{List, ◌++◌}
use Prim.Native.Nat.{ℕ, zero, suc, ◌+◌, ◌<◌, ◌≤◌}
use native.Mathlib.Omega.{arith}
use lib.Dec.{eqb, ltb}
use borrow.Author.Tests.{eq-eqb, ne_eqb, lt-ltb, le-ltb, ltb-false}
use lib.ListN.{length, length-append, get_or-append}
use Rattle.wire.proofs.Exists.{Bytes}
use Rattle.replay_file.specs.File.{number, none, short, chunk, start}
use Rattle.replay_file.proofs.Numbers.{number_lt}

module _ (bytes : List ℕ) where
  pub starts_none : length bytes ≡ 0 → none ≡ start bytes
  unfolding start
  starts_none e = rw (eq-eqb (length bytes) 0 e)

  pub starts_short : (length bytes ≡ 0 → ⊥) → length bytes < 2 → short ≡ start bytes
  unfolding start
  starts_short n l = rw (ne_eqb (length bytes) 0 n, lt-ltb (length bytes) 2 l)

  module _ (two : 2 ≤ length bytes) {n : ℕ} (is : n ≡ number 2 bytes) where
    pub starts-cut : length bytes < 2 + n → short ≡ start bytes
    unfolding start
    starts-cut l = rw (ne_eqb (length bytes) 0 (λ e. omega arith), le-ltb (length bytes) 2 two, ← is, lt-ltb (length bytes) (2 + n) l)

    pub starts-chunk : 2 + n ≤ length bytes → chunk n ≡ start bytes
    unfolding start
    starts-chunk h = rw (ne_eqb (length bytes) 0 (λ e. omega arith), le-ltb (length bytes) 2 two, ← is, le-ltb (length bytes) (2 + n) h)

-- a chunk that starts here lies within the bytes
pub starts_within : (bytes : List ℕ) {n : ℕ} → chunk n ≡ start bytes → (2 + n ≤ length bytes) × (n ≡ number 2 bytes)
unfolding start
starts_within bytes {n} e = go (eqb (length bytes) 0) (ltb (length bytes) 2) (ltb (length bytes) (2 + number 2 bytes)) refl e
  where
    go : (a b c : Bool) → ltb (length bytes) (2 + number 2 bytes) ≡ c → chunk n ≡ cond a none (cond b short (cond c short (chunk (number 2 bytes)))) → (2 + n ≤ length bytes) × (n ≡ number 2 bytes)
    go true b c t f = let z : ◌≡◌ {A = ℕ} 0 1 = cc in absurd (omega arith)
    go false true c t f = let z : ◌≡◌ {A = ℕ} 0 1 = cc in absurd (omega arith)
    go false false true t f = let z : ◌≡◌ {A = ℕ} 0 1 = cc in absurd (omega arith)
    go false false false t f = let same : n ≡ number 2 bytes = cc in (rw same (omega (arith, ltb-false (length bytes) (2 + number 2 bytes) t)), same)

-- ── a front of the bytes tells it, where that is long enough for any record ──

number-front : (k : ℕ) (front more : List ℕ) → k ≤ length front → number k (front ++ more) ≡ number k front
unfolding number
number-front zero front more h = refl
number-front (suc k) front more h = rw (number-front k front more (omega arith), get_or-append front more 0 k (omega arith))

pub starts_shown : (front more : List ℕ) → Bytes front → 65537 ≤ length front → (start (front ++ more) ≡ chunk (number 2 front)) × (start front ≡ chunk (number 2 front)) × (2 + number 2 front ≤ length front)
starts_shown front more by h =
    let n = number 2 front in
    let fits : n < 65536 = number_lt 2 front by in
    let long : length (front ++ more) ≡ length front + length more = length-append front more in (
      sym (starts-chunk (front ++ more) (omega arith) (sym (number-front 2 front more (omega arith))) (omega arith)),
      sym (starts-chunk front (omega arith) refl (omega arith)),
      omega arith,
    )
