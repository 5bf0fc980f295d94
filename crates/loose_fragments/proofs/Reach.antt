-- The runs down and up from a TSN together have at most the bytes of all fragments: their TSNs are distinct, and a fragment has one of them at most.
-- Assumes nothing.
use mathlib.Core.Path.{◌≡◌, refl, ap, ◌∙◌}
use mathlib.Core.Bool.{Bool, true, false, cond}
use mathlib.Core.List.{List, [], ◌∷◌, map}
use mathlib.Core.Option.{Option, none, some}
use Prim.Native.Nat.{ℕ, zero, suc, ◌+◌, ◌*◌, ◌-◌, ◌%◌, ◌^◌, ◌<◌, ◌≤◌}
use native.Mathlib.Nat.{mod-add-mod, add-mod_right}
use native.Mathlib.Omega.{arith}
use borrow.Author.Tests.{eqb-true}
use lib.ListN.{length, length-map, length-replicate}
use Rattle.serial_model.specs.Serial.{plus, next, ahead}
use Rattle.serial_model.specs.Facts.{plus-plus, ahead-lt, ahead-plus}
use Rattle.table.specs.Rows.{total}
use Rattle.table.specs.declared.Row.{Row}
use Rattle.fragments.specs.Frag.{Frag, bare, begins, ends, has_tsn, long_length}
use Rattle.fragments.specs.Words.{size, find}
use Rattle.loose_fragments.specs.Loose.{previous, runs, run, run_down, run_up}
use Rattle.fragments.proofs.Pool.{B}

-- ── the bytes of one fragment ──

abbrev bytes_of : Option Frag → ℕ
bytes_of none = 0
bytes_of (some x) = length x.bytes

runs_most : (last : Frag → Bool) (x : Option Frag) (n : ℕ) → runs last x n ≤ bytes_of x + n
unfolding runs
runs_most last none n = omega arith
runs_most last (some x) n = go (last x)
  where
    go : (b : Bool) → length x.bytes + cond b 0 n ≤ length x.bytes + n
    go true = omega arith
    go false = omega arith

-- ── those with the k TSNs from b on ──

module _ (b : ℕ) where
  -- of the first one with the TSN i steps on
  abbrev one : List Frag → ℕ → ℕ
  one l i = bytes_of (find (has_tsn (plus 32 b i)) l)

  abbrev arc : List Frag → ℕ → ℕ
  arc l zero = 0
  arc l (suc k) = arc l k + one l k

  arc-nil : (k : ℕ) → arc [] k ≡ 0
  unfolding find
  arc-nil zero = refl
  arc-nil (suc k) = omega (arith, arc-nil k)

  module _ (h : b < 2 ^ 32) (x : Frag) (xs : List Frag) where
    -- a fragment has no other TSN than its own
    here : (i : ℕ) → i < 2 ^ 32 → has_tsn (plus 32 b i) x ≡ true → ahead 32 b x.tsn ≡ i
    here i k e = ap (ahead 32 b) (eqb-true x.tsn (plus 32 b i) e) ∙ ahead-plus 32 b i h k

    one-here : (i : ℕ) → has_tsn (plus 32 b i) x ≡ true → one (x ∷ xs) i ≡ length x.bytes
    unfolding find
    one-here i e = rw e

    one-there : (i : ℕ) → has_tsn (plus 32 b i) x ≡ false → one (x ∷ xs) i ≡ one xs i
    unfolding find
    one-there i e = rw e

    -- ahead of its TSN it adds nothing
    arc-before : (k : ℕ) → k ≤ ahead 32 b x.tsn → arc (x ∷ xs) k ≡ arc xs k
    arc-before zero l = refl
    arc-before (suc k) l = go (has_tsn (plus 32 b k) x) refl (arc-before k (omega arith))
      where
        go : (t : Bool) → has_tsn (plus 32 b k) x ≡ t → arc (x ∷ xs) k ≡ arc xs k → arc (x ∷ xs) (suc k) ≡ arc xs (suc k)
        go true e less = absurd (omega (arith, here k (omega (arith, ahead-lt 32 b x.tsn)) e))
        go false e less = omega (arith, less, one-there k e)

    -- and so it counts once
    arc_once : (k : ℕ) → k ≤ 2 ^ 32 → arc (x ∷ xs) k ≤ length x.bytes + arc xs k
    arc_once zero l = omega arith
    arc_once (suc k) l = go (has_tsn (plus 32 b k) x) refl (arc_once k (omega arith))
      where
        go : (t : Bool) → has_tsn (plus 32 b k) x ≡ t → arc (x ∷ xs) k ≤ length x.bytes + arc xs k → arc (x ∷ xs) (suc k) ≤ length x.bytes + arc xs (suc k)
        go true e less = omega (arith, arc-before k (omega (arith, here k (omega arith) e)), one-here k e)
        go false e less = omega (arith, less, one-there k e)

  arc-size : b < 2 ^ 32 → (k : ℕ) → k ≤ 2 ^ 32 → (l : List Frag) → arc l k ≤ size l
  unfolding size
  arc-size h k m [] = omega (arith, arc-nil k)
  arc-size h k m (x ∷ xs) = omega (arith, arc_once h x xs k m, arc-size h k m xs)

  -- ── the runs among them ──

  forth : (k : ℕ) → next 32 (plus 32 b k) ≡ plus 32 b (suc k)
  forth k = let e : k + 1 ≡ suc k = omega arith in rw (plus-plus 32 b k 1, e)

  back : (k : ℕ) → previous (plus 32 b (suc k)) ≡ plus 32 b k
  unfolding ahead
  back k =
      let e : b + suc k + (2 ^ 32 - 1) ≡ b + k + 2 ^ 32 = omega arith in
      rw (mod-add-mod, e, add-mod_right)

  module _ (last : Frag → Bool) (l : List Frag) where
    turn : (step : ℕ → ℕ) (n k : ℕ) {t : ℕ} → step (plus 32 b k) ≡ t → run step last (suc n) (plus 32 b k) l ≤ one l k + run step last n t l
    unfolding run
    turn step n k e = rw (← e) (runs_most last (find (has_tsn (plus 32 b k)) l) (run step last n (step (plus 32 b k)) l))

    none_yet : (step : ℕ → ℕ) (t : ℕ) → run step last 0 t l ≡ 0
    unfolding run
    none_yet step t = refl

    up : (n k : ℕ) → arc l k + run (next 32) last n (plus 32 b k) l ≤ arc l (k + n)
    up zero k = let e : k + 0 ≡ k = omega arith in rw (e, none_yet) (omega arith)
    up (suc n) k = let e : k + suc n ≡ suc k + n = omega arith in rw e (omega (arith, turn (next 32) n k (forth k), up n (suc k)))

    down : (n k : ℕ) → n ≤ k → run previous last n (previous (plus 32 b k)) l ≤ arc l k
    down zero k h = rw none_yet (omega arith)
    down (suc n) zero h = absurd (omega arith)
    down (suc n) (suc k) h = rw (back k) (omega (arith, turn previous n k refl, down n k (omega arith)))

-- ── both runs of a TSN ──

module _ (t n : ℕ) (h : n < 2 ^ 31) where
  -- n TSNs back from it
  abbrev from : ℕ
  from = ahead 32 n t

  on : (k : ℕ) → plus 32 from (n + k) ≡ plus 32 t k
  unfolding ahead
  on k =
      let e : t + (2 ^ 32 - n) + (n + k) ≡ t + k + 2 ^ 32 = omega arith in
      rw (mod-add-mod, e, add-mod_right)

  before : previous (plus 32 from n) ≡ previous t
  unfolding ahead
  before =
      let e : n + 0 ≡ n = omega arith in
      let z : t + 0 ≡ t = omega arith in
      let p : plus 32 from n ≡ t % 2 ^ 32 = rw (e, z) at (on 0) in
      rw (p, mod-add-mod)

  both-size : (l : List Frag) → run previous begins n (previous t) l + run (next 32) ends n (next 32 t) l ≤ size l
  both-size l =
      let f : from < 2 ^ 32 = ahead-lt 32 n t in
      let e : n + 1 ≡ suc n = omega arith in
      let d = rw before at (down from begins l n n (omega arith)) in
      let u = rw (← e, on 1) at (up from ends l n (suc n)) in
      omega (arith, d, u, arc-size from f (n + 1 + n) (omega arith) l)

-- ── by rows ──

size-bare : (rs : List Row) → size (map bare rs) ≡ B rs
unfolding size total
size-bare [] = refl
size-bare (r ∷ rs) = rw (length-replicate {A = ℕ} (long_length r.head) 0, size-bare rs)

pub total_most : (rs : List Row) → B rs ≤ length rs * 16777216
unfolding total
total_most [] = omega arith
total_most (r ∷ rs) = omega (arith, total_most rs)

pub both_runs : (t : ℕ) (rs : List Row) → length rs < 2 ^ 31 → run_down t (map bare rs) + run_up t (map bare rs) ≤ B rs
both_runs t rs h = rw (← (size-bare rs), length-map rs bare) (both-size t (length rs) h (map bare rs))
