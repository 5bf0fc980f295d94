-- The passes over the eight counts: what they have found after so many.
-- Assumes nothing.
use mathlib.Core.Path.{◌≡◌, refl, ap, ◌∙◌}
use mathlib.Core.Bool.{Bool, true, false, ◌||◌}
use mathlib.Core.List.{List, [], ◌∷◌, ◌++◌}
use Prim.Native.Nat.{ℕ, suc, ◌+◌, ◌-◌, ◌*◌, ◌≤◌, ◌<◌}
use native.Mathlib.Omega.{arith}
use borrow.Author.Tests.{lt-ltb, le-ltb, ltb-false, ltb-true, ne_eqb, eq-eqb}
use lib.Dec.{ltb, eqb}
use lib.ListN.{length, take, drop, get_or}
use lib.Seq.{take-suc, take_all, split_at}
use Rattle.table.specs.Rows.{total}
use Rattle.fragments.specs.Frag.{long_length}
use Rattle.fragments.proofs.Pool.{B, total_within}
use Rattle.reassembly_state.specs.Limits.{frags_most, bytes_most}
use Rattle.reassembly_state.specs.State.{count}
use Rattle.reassembly_state.specs.declared.Counts.{Counts}
use Rattle.streams_model.specs.Shape.{no_counts}
use Rattle.streams_model.specs.State.{State, summed, rows_held, bytes_of, bytes_said, sums, unsound}
use Rattle.streams_model.proofs.Laws.{summed-append, summed-part, summed-next, sums-append}

-- ── sums from one stream up to another ──

pub record Added (qs : List Counts) (from to rows bytes i : ℕ) : Type 0 where
  pub low : from ≤ i
  pub high : i ≤ to
  pub rows_are : rows ≡ rows_held (take (i - from) (drop from qs))
  pub bytes_are : bytes ≡ bytes_said (take (i - from) (drop from qs))

module _ (qs : List Counts) (from to : ℕ) where
  pub added_none : from ≤ to → Added qs from to 0 0 from
  added_none h =
      let e : from - from ≡ 0 = omega arith in
      record { low = omega arith; high = h; rows_are = rw e; bytes_are = rw e }

  module _ {rows bytes i : ℕ} (a : Added qs from to rows bytes i) (h : i < to) (l : i < length qs) {q : Counts} (e : q ≡ get_or qs i no_counts) where
    more : (f : Counts → ℕ) → summed f (take (suc i - from) (drop from qs)) ≡ summed f (take (i - from) (drop from qs)) + f q
    more f = rw e (summed-next f from i qs a.low l)

    pub added_within : (f : Counts → ℕ) → summed f (take (i - from) (drop from qs)) + f q ≤ summed f qs
    added_within f = omega (arith, more f, summed-part f from (suc i - from) qs)

    pub added_more : Added qs from to (rows + count q) (bytes + bytes_of q) (i + 1)
    added_more =
        let n : i + 1 ≡ suc i = omega arith in
        rw n
        (record {
          low = omega (arith, a.low);
          high = omega arith;
          rows_are = omega (arith, a.rows_are, more count);
          bytes_are = omega (arith, a.bytes_are, more bytes_of);
        })

-- ── are they sound ──

pub record Asked (s : State) (first bytes i : ℕ) : Type 0 where
  pub high : i ≤ length s.queues
  pub first-is : first ≡ rows_held (take i s.queues)
  pub few : first ≤ frags_most
  pub bytes_are : bytes ≡ B (take first s.rows)
  pub summed_up : sums (take i s.queues) s.rows ≡ true
  pub small : bytes ≤ i * 16777216 * frags_most

any_true : (x y z : Bool) → true ≡ (x || (y || (z || true)))
any_true true y z = refl
any_true false true z = refl
any_true false false true = refl
any_true false false false = refl

or-false : (x : Bool) → x || false ≡ x
or-false true = refl
or-false false = refl

module _ (s : State) where
  pub asked_none : Asked s 0 0 0
  unfolding sums total
  asked_none = record { high = omega arith; first-is = refl; few = omega arith; bytes_are = refl; summed_up = refl; small = omega arith }

  module _ {first bytes i : ℕ} (a : Asked s first bytes i) (l : i < length s.queues) {q : Counts} (e : q ≡ get_or s.queues i no_counts) where
    -- the streams from this one on
    rest : s.queues ≡ take i s.queues ++ (q ∷ drop (suc i) s.queues)
    rest = rw e (split_at s.queues i no_counts l)

    next : take (suc i) s.queues ≡ take i s.queues ++ (q ∷ [])
    next = rw e (take-suc s.queues i no_counts l)

    pub too_many : ltb (frags_most - first) (count q) ≡ true → true ≡ unsound s
    unfolding unsound
    too_many h =
        let all = ap rows_held rest ∙ summed-append count (take i s.queues) (q ∷ drop (suc i) s.queues) in
        let above = ltb-true (frags_most - first) (count q) h in
        rw (lt-ltb frags_most (rows_held s.queues) (omega (arith, all, a.first-is, a.few, above)))

    module _ {sum : ℕ} (f : sum ≡ B (take (count q) (drop first s.rows))) where
      pub unequal : (sum ≡ q.n_bytes → ⊥) → true ≡ unsound s
      unfolding unsound sums
      unequal h =
          let differ : eqb (B (take (count q) (drop (rows_held (take i s.queues)) s.rows))) q.n_bytes ≡ false =
          rw (← a.first-is, ← f) (ne_eqb sum q.n_bytes h) in
          let bad : sums s.queues s.rows ≡ false =
          ap (λ (l : List Counts). sums l s.rows) rest ∙ sums-append (take i s.queues) (q ∷ drop (suc i) s.queues) s.rows ∙ rw (a.summed_up, differ) in
          rw bad
          (any_true (ltb frags_most (rows_held s.queues)) (ltb (length s.pool) bytes_most) (ltb (length s.pool) (total long_length (take (rows_held s.queues) s.rows))))

      pub asked-more : ltb (frags_most - first) (count q) ≡ false → sum ≡ q.n_bytes → sum ≤ 16777216 * frags_most → Asked s (first + count q) (bytes + sum) (i + 1)
      unfolding sums
      asked-more h g t =
          let n : i + 1 ≡ suc i = omega arith in
          let more = ap rows_held next ∙ summed-append count (take i s.queues) (q ∷ []) in
          let same : eqb (B (take (count q) (drop (rows_held (take i s.queues)) s.rows))) q.n_bytes ≡ true =
          rw (← a.first-is, ← f) (eq-eqb sum q.n_bytes g) in
          let good : sums (take (suc i) s.queues) s.rows ≡ true =
          ap (λ (l : List Counts). sums l s.rows) next ∙ sums-append (take i s.queues) (q ∷ []) s.rows ∙ rw (a.summed_up, same) in
          let fits = ltb-false (frags_most - first) (count q) h in
          let bytes-more = total_within first (count q) s.rows in
          record {
            high = omega arith;
            first-is = rw n (omega (arith, more, a.first-is));
            few = omega (arith, a.few);
            bytes_are = omega (arith, f, a.bytes_are, bytes-more);
            summed_up = rw n good;
            small = omega (arith, a.small);
          }

  pub asked-all : {first bytes i : ℕ} → Asked s first bytes i → i ≡ length s.queues → (ltb (length s.pool) bytes_most || ltb (length s.pool) bytes) ≡ unsound s
  unfolding unsound
  asked-all {first} {bytes} {i} a e =
      let all : take i s.queues ≡ s.queues = take_all i s.queues (omega arith) in
      let held : first ≡ rows_held s.queues = a.first-is ∙ ap rows_held all in
      let good : sums s.queues s.rows ≡ true = rw all at a.summed_up in
      let bytes_are : bytes ≡ total long_length (take (rows_held s.queues) s.rows) = a.bytes_are ∙ ap (λ (n : ℕ). B (take n s.rows)) held in
      rw (le-ltb frags_most (rows_held s.queues) (omega (arith, held, a.few)), good, ← bytes_are, or-false)
