-- What marks do to lengths: a released length is 0, and the sum of the lengths is less by what was released.
-- Assumes nothing.
use mathlib.Core.Path.{◌≡◌, refl}
use mathlib.Core.Bool.{Bool, true, false, cond}
use mathlib.Core.List.{List, [], ◌∷◌, map}
use Prim.Native.Nat.{ℕ, zero, suc, ◌+◌, ◌/◌, ◌%◌, ◌<◌}
use native.Mathlib.Omega.{arith}
use lib.Dec.{eqb}
use lib.ListN.{length, get_or, set}
use Rattle.table.specs.Rows.{blank, total, short_length}
use Rattle.table.specs.declared.Row.{Row}
use Rattle.inflight_model.specs.Queue.{marked, acked_head, abandoned_head, again_head, with_head, again_row, abandoned_among, siblings}

-- ── one head ──

pub acked_released : (h : ℕ) → short_length (acked_head h) ≡ 0
unfolding acked_head
acked_released h = omega arith

pub abandoned_released : (h : ℕ) → short_length (abandoned_head h) ≡ 0
unfolding abandoned_head
abandoned_released h = omega arith

again-length : (h : ℕ) → short_length (again_head h) ≡ short_length h
unfolding again_head
again-length h = go (eqb (h / 65536 % 4) 0)
  where
    go : (b : Bool) → short_length (cond b (marked h 1 0 0 (short_length h)) h) ≡ short_length h
    go true = omega arith
    go false = refl

-- ── all of them ──

pub total-set : (rs : List Row) (at : ℕ) (r : Row) → at < length rs → total short_length (set rs at r) + short_length (get_or rs at blank).head ≡ total short_length rs + short_length r.head
unfolding total
total-set [] at r h = absurd (omega arith)
total-set (x ∷ rs) zero r h = omega arith
total-set (x ∷ rs) (suc at) r h = omega (arith, total-set rs at r (omega arith))

pub total-again : (rs : List Row) → total short_length (map again_row rs) ≡ total short_length rs
unfolding total
total-again [] = refl
total-again (r ∷ rs) = omega (arith, again-length r.head, total-again rs)

pub total-abandoned : (message : ℕ) (rs : List Row) (ms : List ℕ) → length ms ≡ length rs → total short_length (abandoned_among message rs ms) + total short_length (siblings message rs ms) ≡ total short_length rs
unfolding total abandoned_among siblings
total-abandoned message [] ms e = refl
total-abandoned message (r ∷ rs) [] e = absurd (omega arith)
total-abandoned message (r ∷ rs) (m ∷ ms) e = go (eqb m message) (total-abandoned message rs ms (omega arith))
  where
    go :
        (b : Bool) → total short_length (abandoned_among message rs ms) + total short_length (siblings message rs ms) ≡ total short_length rs →
        short_length (cond b (with_head (abandoned_head r.head) r) r).head + total short_length (abandoned_among message rs ms)
        + total short_length (cond b (r ∷ siblings message rs ms) (siblings message rs ms))
        ≡ short_length r.head + total short_length rs
    go true h = omega (arith, abandoned_released r.head)
    go false h = omega arith

-- ── as long as they were, each of its own record ──

pub again-at : (rs : List Row) (i : ℕ) → i < length rs → get_or (map again_row rs) i blank ≡ again_row (get_or rs i blank)
again-at [] i h = absurd (omega arith)
again-at (r ∷ rs) zero h = refl
again-at (r ∷ rs) (suc i) h = again-at rs i (omega arith)

pub abandoned-long : (message : ℕ) (rs : List Row) (ms : List ℕ) → length ms ≡ length rs → length (abandoned_among message rs ms) ≡ length rs
unfolding abandoned_among
abandoned-long message [] ms e = refl
abandoned-long message (r ∷ rs) [] e = absurd (omega arith)
abandoned-long message (r ∷ rs) (m ∷ ms) e = omega (arith, abandoned-long message rs ms (omega arith))

pub abandoned-at :
    (message : ℕ) (rs : List Row) (ms : List ℕ) (i : ℕ) → length ms ≡ length rs → i < length rs →
    get_or (abandoned_among message rs ms) i blank ≡ with_head (cond (eqb (get_or ms i 0) message) (abandoned_head (get_or rs i blank).head) (get_or rs i blank).head) (get_or rs i blank)
unfolding abandoned_among
abandoned-at message [] ms i e h = absurd (omega arith)
abandoned-at message (r ∷ rs) [] i e h = absurd (omega arith)
abandoned-at message (r ∷ rs) (m ∷ ms) zero e h = go (eqb m message)
  where
    go : (b : Bool) → cond b (with_head (abandoned_head r.head) r) r ≡ with_head (cond b (abandoned_head r.head) r.head) r
    go true = refl
    go false = refl
abandoned-at message (r ∷ rs) (m ∷ ms) (suc i) e h = abandoned-at message rs ms i (omega arith) (omega arith)
