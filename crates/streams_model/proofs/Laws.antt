-- What sound streams have, and how what each holds stands among all: the laws that the calls' proofs cite.
-- Assumes nothing.
use mathlib.Core.Path.{◌≡◌, refl, sym, ap, ◌∙◌}
use mathlib.Core.Bool.{Bool, true, false, ◌||◌, ◌&&◌, true≢false}
use mathlib.Core.List.{List, [], ◌∷◌, ◌++◌, map}
use Prim.Native.Nat.{ℕ, zero, suc, ◌+◌, ◌-◌, ◌*◌, ◌≤◌, ◌<◌}
use native.Mathlib.Omega.{arith}
use borrow.Author.Tests.{ltb-false, eqb-true, not-false}
use lib.Dec.{ltb, eqb}
use lib.ListN.{length, take, drop, get_or, length-drop, length-take, take-append-drop}
use lib.Seq.{length-take-le, take-suc, split_at, get_or-drop, take-take, take-add, drop-drop}
use Rattle.wire_model.specs.Refusal.{Told}
use Rattle.table.specs.Rows.{total}
use Rattle.table.specs.declared.Row.{Row}
use Rattle.fragments.specs.Frag.{Frag, long_length}
use Rattle.fragments.specs.Words.{size, concat}
use Rattle.fragments.specs.Pool.{cut}
use Rattle.fragments.proofs.Pool.{B, cut-length, cut-take, cut-drop, cut-size, lay-view, total-split, total_up}
use Rattle.reassembly_state.specs.Limits.{frags_most, bytes_most}
use Rattle.reassembly_state.specs.Model.{Queue, held}
use Rattle.reassembly_state.specs.State.{count, counts}
use Rattle.reassembly_state.specs.declared.Counts.{Counts}
use Rattle.reassembly_state.proofs.Parts.{three, drop-take}
use Rattle.reassembly_state.proofs.Laws.{counts_by}
use Rattle.streams_model.specs.Shape.{no_counts}
use Rattle.streams_model.specs.State.{State, summed, rows_held, bytes_said, sums, unsound, fragments, queue_of, split, view, held_by, lay, no_queue, after}

-- ── sound streams ──

pub record Sound (s : State) : Type 0 where
  pub few : rows_held s.queues ≤ frags_most
  pub long : bytes_most ≤ length s.pool
  pub within : total long_length (take (rows_held s.queues) s.rows) ≤ length s.pool
  pub sums : sums s.queues s.rows ≡ true

either : (a b : Bool) → a || b ≡ false → (a ≡ false) × (b ≡ false)
either true b e = absurd (true≢false e)
either false b e = (refl, e)

pub both : (a b : Bool) → a && b ≡ true → (a ≡ true) × (b ≡ true)
both true b e = (refl, e)
both false b e = absurd (true≢false (sym e))

pub sound : (s : State) → unsound s ≡ false → Sound s
unfolding unsound
sound s e =
    let a = either (ltb frags_most (rows_held s.queues)) _ e in
    let b = either (ltb (length s.pool) bytes_most) _ a.1 in
    let c = either (ltb (length s.pool) (total long_length (take (rows_held s.queues) s.rows))) _ b.1 in
    record { few = ltb-false _ _ a.0; long = ltb-false _ _ b.0; within = ltb-false _ _ c.0; sums = not-false _ c.1 }

-- answer and state
pub both_are : {t u : Told Bool} {x y : State} → t ≡ u → x ≡ y → after t x ≡ after u y
both_are e f = rw (e, f)

-- ── counts, one behind the other ──

module _ (f : Counts → ℕ) where
  pub summed-append : (xs ys : List Counts) → summed f (xs ++ ys) ≡ summed f xs + summed f ys
  summed-append [] ys = omega arith
  summed-append (x ∷ xs) ys = omega (arith, summed-append xs ys)

  -- those before one, its own, those behind it
  pub summed-split : (k : ℕ) (qs : List Counts) → k < length qs → summed f qs ≡ summed f (take k qs) + (f (get_or qs k no_counts) + summed f (drop (suc k) qs))
  summed-split k qs h = ap (summed f) (split_at qs k no_counts h) ∙ summed-append (take k qs) (get_or qs k no_counts ∷ drop (suc k) qs)

  -- a part has no more
  pub summed-part : (from n : ℕ) (qs : List Counts) → summed f (take n (drop from qs)) ≤ summed f qs
  summed-part from n qs =
      let a = ap (summed f) (take-append-drop from qs) in
      let b = ap (summed f) (take-append-drop n (drop from qs)) in
      omega (arith, a, b, summed-append (take from qs) (drop from qs), summed-append (take n (drop from qs)) (drop n (drop from qs)))

  -- nor has one
  pub summed_at : (i : ℕ) (qs : List Counts) → f no_counts ≡ 0 → f (get_or qs i no_counts) ≤ summed f qs
  summed_at i [] e = omega (arith, e)
  summed_at zero (q ∷ qs) e = omega arith
  summed_at (suc i) (q ∷ qs) e = omega (arith, summed_at i qs e)

  -- one more
  pub summed-next : (from i : ℕ) (qs : List Counts) → from ≤ i → i < length qs
      → summed f (take (suc i - from) (drop from qs)) ≡ summed f (take (i - from) (drop from qs)) + f (get_or qs i no_counts)
  summed-next from i qs h l =
      let e : suc i - from ≡ suc (i - from) = omega arith in
      let at : get_or (drop from qs) (i - from) no_counts ≡ get_or qs i no_counts = get_or-drop from qs (i - from) no_counts ∙ ap (λ (n : ℕ). get_or qs n no_counts) (whole from i h) in
      let more = take-suc (drop from qs) (i - from) no_counts (rw length-drop (omega arith)) in
      let both = ap (summed f) more ∙ summed-append (take (i - from) (drop from qs)) (get_or (drop from qs) (i - from) no_counts ∷ []) in
      rw e (omega (arith, both, ap f at))
    where
      whole : (from i : ℕ) → from ≤ i → from + (i - from) ≡ i
      whole from i h = omega arith

-- the byte counts of the first streams are the sum of the lengths of the first rows
pub sums-total : (qs : List Counts) (rows : List Row) → sums qs rows ≡ true → B (take (rows_held qs) rows) ≡ bytes_said qs
unfolding sums total
sums-total [] rows e = refl
sums-total (q ∷ qs) rows e =
    let b = both (eqb (B (take (count q) rows)) q.n_bytes) _ e in
    let up = total_up (count q) (count q + rows_held qs) rows (omega arith) in
    let n : count q + rows_held qs - count q ≡ rows_held qs = omega arith in
    let first = eqb-true (B (take (count q) rows)) q.n_bytes b.0 in
    omega (arith, rw n at up, first, sums-total qs (drop (count q) rows) b.1)

pub sums-append : (xs ys : List Counts) (rows : List Row) → sums (xs ++ ys) rows ≡ (sums xs rows && sums ys (drop (rows_held xs) rows))
unfolding sums
sums-append [] ys rows = refl
sums-append (x ∷ xs) ys rows =
    rw (sums-append xs ys (drop (count x) rows), drop-drop (rows_held xs) (count x) rows)
    (and_assoc (eqb (B (take (count x) rows)) x.n_bytes) (sums xs (drop (count x) rows)) _)
  where
    and_assoc : (a b c : Bool) → (a && (b && c)) ≡ ((a && b) && c)
    and_assoc true b c = refl
    and_assoc false b c = refl

-- those of the first k are sound if all are
pub sums-front : (k : ℕ) (qs : List Counts) (rows : List Row) → sums qs rows ≡ true → sums (take k qs) rows ≡ true
unfolding sums
sums-front zero qs rows e = refl
sums-front (suc k) [] rows e = refl
sums-front (suc k) (q ∷ qs) rows e =
    let b = both (eqb (B (take (count q) rows)) q.n_bytes) _ e in
    rw b.0 (sums-front k qs (drop (count q) rows) b.1)

-- only the rows that are held are looked at
pub sums-take : (qs : List Counts) (n : ℕ) (rows : List Row) → rows_held qs ≤ n → sums qs (take n rows) ≡ sums qs rows
unfolding sums
sums-take [] n rows h = refl
sums-take (q ∷ qs) n rows h =
    let e : count q + (n - count q) ≡ n = omega arith in
    let rest : drop (count q) (take n rows) ≡ take (n - count q) (drop (count q) rows) = ap (λ (m : ℕ). drop (count q) (take m rows)) (sym e) ∙ drop-take (count q) (n - count q) rows in
    rw (take-take (count q) n rows (omega arith), rest, sums-take qs (n - count q) (drop (count q) rows) (omega arith))

-- ── queues, one behind the other ──

pub held-queue : (q : Counts) (fs : List Frag) → held (queue_of q fs) ≡ fs
unfolding queue_of
held-queue q fs = three q.finished q.unordered fs

pub counts-queue : (q : Counts) (fs : List Frag) → length fs ≡ count q → size fs ≡ q.n_bytes → counts (queue_of q fs) ≡ q
unfolding queue_of
counts-queue q fs e f =
    counts_by (queue_of q fs) q refl refl refl
    (length-take-le q.finished fs (omega arith))
    (length-take-le q.unordered (drop q.finished fs) (rw length-drop (omega arith)))
    (rw length-drop (omega arith))
    (ap size (held-queue q fs) ∙ f)

pub held-split : (qs : List Counts) (fs : List Frag) → held_by (split qs fs) ≡ take (rows_held qs) fs
unfolding split concat
held-split [] fs = refl
held-split (q ∷ qs) fs =
    rw (held-queue q (take (count q) fs), held-split qs (drop (count q) fs)) (sym (take-add (count q) (rows_held qs) fs))

pub split-length : (qs : List Counts) (fs : List Frag) → length (split qs fs) ≡ length qs
unfolding split
split-length [] fs = refl
split-length (q ∷ qs) fs = ap suc (split-length qs (drop (count q) fs))

pub take_split : (k : ℕ) (qs : List Counts) (fs : List Frag) → take k (split qs fs) ≡ split (take k qs) fs
unfolding split
take_split zero qs fs = refl
take_split (suc k) [] fs = refl
take_split (suc k) (q ∷ qs) fs = ap (λ (l : List Queue). queue_of q (take (count q) fs) ∷ l) (take_split k qs (drop (count q) fs))

pub drop-split : (k : ℕ) (qs : List Counts) (fs : List Frag) → drop k (split qs fs) ≡ split (drop k qs) (drop (rows_held (take k qs)) fs)
unfolding split
drop-split zero qs fs = refl
drop-split (suc k) [] fs = refl
drop-split (suc k) (q ∷ qs) fs = drop-split k qs (drop (count q) fs) ∙ rw drop-drop

pub get-split : (k : ℕ) (qs : List Counts) (fs : List Frag) → k < length qs
    → get_or (split qs fs) k no_queue ≡ queue_of (get_or qs k no_counts) (take (count (get_or qs k no_counts)) (drop (rows_held (take k qs)) fs))
unfolding split
get-split k [] fs h = absurd (omega arith)
get-split zero (q ∷ qs) fs h = refl
get-split (suc k) (q ∷ qs) fs h = get-split k qs (drop (count q) fs) (omega arith) ∙ rw drop-drop

-- the counts of what rows and pool hold
pub counts-split : (qs : List Counts) (rs : List Row) (pool : List ℕ) → rows_held qs ≤ length rs → B rs ≤ length pool → sums qs rs ≡ true
    → map counts (split qs (cut rs pool)) ≡ qs
unfolding split sums
counts-split [] rs pool h l e = refl
counts-split (q ∷ qs) rs pool h l e =
    let b = both (eqb (B (take (count q) rs)) q.n_bytes) _ e in
    let parts = total-split (count q) rs in
    let front = cut-length (take (count q) rs) pool ∙ length-take-le (count q) rs (omega arith) in
    let bytes = cut-size (take (count q) rs) pool (omega arith) ∙ eqb-true _ _ b.0 in
    rw (
      cut-take (count q) rs pool,
      counts-queue q (cut (take (count q) rs) pool) front bytes,
      cut-drop (count q) rs pool,
      counts-split qs (drop (count q) rs) (drop (B (take (count q) rs)) pool) (rw length-drop (omega arith)) (rw length-drop (omega arith)) b.1,
    )

-- ── the state ──

pub held-view : (s : State) → held_by (view s) ≡ fragments s
unfolding view
held-view s =
    held-split s.queues (fragments s)
    ∙ cut-take (rows_held s.queues) (take (rows_held s.queues) s.rows) s.pool
    ∙ ap (λ (l : List Row). cut l s.pool) (take-take (rows_held s.queues) (rows_held s.queues) s.rows (omega arith))

lengths_most : (rs : List Row) → B rs ≤ length rs * 16777216
unfolding total
lengths_most [] = omega arith
lengths_most (r ∷ rs) = omega (arith, lengths_most rs)

-- so many rows have no more than 2^24 bytes each
pub bytes_most_lem : (n : ℕ) (rs : List Row) → n ≤ frags_most → B (take n rs) ≤ 16777216 * frags_most
bytes_most_lem n rs h = omega (arith, lengths_most (take n rs), length-take n rs)

pub bytes_bounded : (s : State) → Sound s → bytes_said s.queues ≤ 16777216 * frags_most
bytes_bounded s k = omega (arith, bytes_most_lem (rows_held s.queues) s.rows k.few, sums-total s.queues s.rows k.sums)

module _ (s : State) (k : Sound s) (full : length s.rows ≡ frags_most) where
  pub fragments-length : length (fragments s) ≡ rows_held s.queues
  fragments-length =
      cut-length (take (rows_held s.queues) s.rows) s.pool ∙ length-take-le (rows_held s.queues) s.rows (omega (arith, k.few))

  pub counts-own : map counts (view s) ≡ s.queues
  unfolding view
  counts-own =
      let n = rows_held s.queues in
      counts-split s.queues (take n s.rows) s.pool (omega (arith, length-take-le n s.rows (omega (arith, k.few)))) k.within
      (sums-take s.queues n s.rows (omega arith) ∙ k.sums)

  pub lay-own : lay (view s) s ≡ s
  unfolding lay
  lay-own =
      let v = lay-view (rows_held s.queues) s.rows s.pool k.within in
      rw (counts-own, held-view s, v.0, v.1)
