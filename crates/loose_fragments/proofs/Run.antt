-- The size of a run by TSN value, one turn a fragment: what is summed and the run behind it make up the whole.
-- Assumes nothing.
use mathlib.Core.Path.{◌≡◌, refl, ◌∙◌}
use mathlib.Core.Bool.{Bool, true, false, cond}
use mathlib.Core.List.{List, [], ◌∷◌, map}
use mathlib.Core.Option.{none, some}
use Prim.Native.Nat.{ℕ, suc, ◌+◌, ◌*◌, ◌-◌, ◌/◌, ◌<◌, ◌≤◌}
use native.Mathlib.Omega.{arith}
use lib.ListN.{length, get_or, take, drop, length-drop, length-map, length-replicate}
use lib.Seq.{get_or-drop, get_or-take, length-take-le}
use Rattle.table.specs.Rows.{blank, rows_of, ahead_of}
use Rattle.table.specs.declared.Row.{Row}
use Rattle.table.proofs.Columns.{rows_long}
use Rattle.table.proofs.Scans.{head_at}
use Rattle.fragments.specs.Frag.{Frag, bare, of_row, long_length, has_tsn}
use Rattle.fragments.specs.Words.{find}
use Rattle.loose_fragments.specs.Loose.{run, runs}

-- ── the first fragment that does, by the rows ahead of it ──

module _ (p : Frag → Bool) where
  pub find_at : (rs : List Row) → ahead_of (of_row p) rs < length rs → find p (map bare rs) ≡ some (bare (get_or rs (ahead_of (of_row p) rs) blank))
  unfolding ahead_of find
  find_at [] h = absurd (omega arith)
  find_at (r ∷ rs) h = go (p (bare r)) refl (find_at rs)
    where
      go :
          (t : Bool) → p (bare r) ≡ t → (ahead_of (of_row p) rs < length rs → find p (map bare rs) ≡ some (bare (get_or rs (ahead_of (of_row p) rs) blank))) →
          find p (map bare (r ∷ rs)) ≡ some (bare (get_or (r ∷ rs) (ahead_of (of_row p) (r ∷ rs)) blank))
      go true e more = rw e
      go false e more = let k : suc (ahead_of (of_row p) rs) < suc (length rs) = rw e at h in rw e (more (omega arith))

  pub find_none : (rs : List Row) → length rs ≤ ahead_of (of_row p) rs → find p (map bare rs) ≡ none
  unfolding ahead_of find
  find_none [] h = refl
  find_none (r ∷ rs) h = go (p (bare r)) refl (find_none rs)
    where
      go : (t : Bool) → p (bare r) ≡ t → (length rs ≤ ahead_of (of_row p) rs → find p (map bare rs) ≡ none) → find p (map bare (r ∷ rs)) ≡ none
      go true e more = let k : suc (length rs) ≤ 0 = rw e at h in absurd (omega arith)
      go false e more = let k : suc (length rs) ≤ suc (ahead_of (of_row p) rs) = rw e at h in rw e (more (omega arith))

-- ── the run, by `step`; whether a fragment is the last is said by its flags ──

-- the fragments of the n rows from one on
abbrev pub part : ℕ → List ℕ → ℕ → ℕ → List Frag
part size table from n = map bare (take n (drop from (rows_of size table)))

-- the last by its flags
abbrev flagged : (ℕ → Bool) → Frag → Bool
flagged last x = last x.flags

-- the whole of it
abbrev pub whole : (ℕ → ℕ) → (ℕ → Bool) → List Frag → ℕ → ℕ
whole step last l t = run step (flagged last) (length l) (step t) l

-- after i turns the sum is of the fragments passed, and want the TSN of the next one
pub record Run (step : ℕ → ℕ) (last : ℕ → Bool) (size : ℕ) (table : List ℕ) (from n t i sum want : ℕ) : Type 0 where
  pub sized : length table ≡ 4 * size
  pub fit : from + n ≤ size
  pub within : i ≤ n
  pub few : sum ≤ i * 16777216
  pub is : sum + run step (flagged last) (n - i) want (part size table from n) ≡ whole step last (part size table from n) t

module _ (size : ℕ) (table : List ℕ) (from n : ℕ) (sized : length table ≡ 4 * size) (fit : from + n ≤ size) where
  pub rows_fit : length (take n (drop from (rows_of size table))) ≡ n
  rows_fit = length-take-le n (drop from (rows_of size table)) (rw length-drop (omega (arith, rows_long size table sized)))

  pub part-long : length (part size table from n) ≡ n
  part-long = length-map (take n (drop from (rows_of size table))) bare ∙ rows_fit

  pub run_none : (step : ℕ → ℕ) (last : ℕ → Bool) (t want : ℕ) → want ≡ step t → Run step last size table from n t 0 0 want
  run_none step last t want e =
      let z : n - 0 ≡ n = omega arith in
      record { sized = sized; fit = fit; within = omega arith; few = omega arith; is = rw (e, part-long, z) (omega arith) }

module _ {step : ℕ → ℕ} {last : ℕ → Bool} {size : ℕ} {table : List ℕ} {from n t i sum want : ℕ} (s : Run step last size table from n t i sum want) where
  abbrev rs : List Row
  rs = take n (drop from (rows_of size table))

  abbrev rest : ℕ → ℕ → ℕ
  rest m w = run step (flagged last) m w (map bare rs)

  long : length rs ≡ n
  long = rows_fit size table from n s.sized s.fit

  pub run-all : n ≤ i → sum ≡ whole step last (map bare rs) t
  unfolding run
  run-all h =
      let e : n - i ≡ 0 = omega arith in
      let k : sum + 0 ≡ whole step last (map bare rs) t = rw e at s.is in
      omega arith

  module _ (h : i < n) {at : ℕ} (e : at ≡ ahead_of (of_row (has_tsn want)) rs) where
    turn : sum + runs (flagged last) (find (has_tsn want) (map bare rs)) (rest (n - (i + 1)) (step want)) ≡ whole step last (map bare rs) t
    unfolding run
    turn = let k : n - i ≡ suc (n - (i + 1)) = omega arith in rw k at s.is

    pub run_missed : n ≤ at → sum ≡ whole step last (map bare rs) t
    unfolding runs
    run_missed k =
        let z : sum + 0 ≡ whole step last (map bare rs) t = rw (find_none (has_tsn want) rs (omega (arith, long))) at turn in
        omega arith

    module _ (k : at < n) {head len : ℕ} (w : head ≡ get_or table (from + at) 0) (l : len ≡ long_length head) where
      abbrev here : Row
      here = get_or (rows_of size table) (from + at) blank

      named : head ≡ here.head
      named = w ∙ head_at size table s.sized (from + at) (omega (arith, s.fit)) refl

      found : find (has_tsn want) (map bare rs) ≡ some (bare here)
      found =
          find_at (has_tsn want) rs (omega (arith, long))
          ∙ rw (← e, get_or-take n (drop from (rows_of size table)) at blank k, get_or-drop)

      more : sum + (len + cond (last (head / 16777216)) 0 (rest (n - (i + 1)) (step want))) ≡ whole step last (map bare rs) t
      unfolding runs
      more = rw (found, length-replicate {A = ℕ} (long_length here.head) 0, ← named, ← l) at turn

      pub run-last : last (head / 16777216) ≡ true → sum + len ≡ whole step last (map bare rs) t
      run-last q = let z : sum + (len + 0) ≡ whole step last (map bare rs) t = rw q at more in omega arith

      pub run_on : last (head / 16777216) ≡ false → Run step last size table from n t (i + 1) (sum + len) (step want)
      run_on q =
          record {
            sized = s.sized;
            fit = s.fit;
            within = omega arith;
            few = omega (arith, s.few);
            is = let z : sum + (len + rest (n - (i + 1)) (step want)) ≡ whole step last (map bare rs) t = rw q at more in omega arith;
          }
