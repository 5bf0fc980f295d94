-- The words of one field of some rows, and what a pass over these words finds.
-- Assumes nothing.
use mathlib.Core.Path.{◌≡◌, refl, sym, ap, ◌∙◌}
use mathlib.Core.Bool.{Bool, true, false, ◌||◌, not, cond}
use mathlib.Core.List.{List, [], ◌∷◌, map}
use Prim.Native.Nat.{ℕ, suc, ◌+◌, ◌-◌, ◌*◌, ◌≤◌}
use native.Mathlib.Omega.{arith}
use lib.Dec.{ltb}
use lib.ListN.{length, take, drop, length-map, length-drop}
use borrow.Author.Tests.{ltb-false}
use lib.Seq.{take-take, drop-drop, length-take-le}
use Rattle.std.specs.Prelude.{Some, None}
use Rattle.std.specs.Option.{unwrap_or}
use Rattle.std.specs.List.{list_any, position_or_len, sum_by}
use Rattle.std.proofs.lemmas.List.{drop-take}
use Rattle.std.proofs.lemmas.List.Sums.{sum_by-cons}
use Rattle.table.specs.Rows.{rows_of, total, some, ahead_of}
use Rattle.table.specs.declared.Row.{Row}
use Rattle.table.proofs.Columns.{columns, rows_long, map-take, map-drop}
use Rattle.table.proofs.Scans.{ahead_within}

-- ── which words these are ──

module _ (n : ℕ) (ws : List ℕ) (long : length ws ≡ 4 * n) (from m : ℕ) (h : from + m ≤ n) where
  abbrev those : List Row
  those = take m (drop from (rows_of n ws))

  pub those_long : length those ≡ m
  those_long = length-take-le m (drop from (rows_of n ws)) (rw length-drop (omega (arith, rows_long n ws long)))

  in_column : (k q : ℕ) (field : Row → ℕ) → q ≡ k + from → map field (rows_of n ws) ≡ take n (drop k ws) → take (q + m - q) (drop q ws) ≡ map field those
  in_column k q field s e =
      let w : n ≡ from + (n - from) = omega arith in
      let l : q + m - q ≡ m = omega arith in
      let v : drop from (take n (drop k ws)) ≡ take (n - from) (drop (k + from) ws) = ap (λ (z : ℕ). drop from (take z (drop k ws))) w ∙ drop-take from (n - from) (drop k ws) ∙ ap (take (n - from)) (drop-drop from k ws) in
      let u : take m (drop from (map field (rows_of n ws))) ≡ take m (drop (k + from) ws) = ap (λ (z : List ℕ). take m (drop from z)) e ∙ ap (take m) v ∙ take-take m (n - from) (drop (k + from) ws) (omega arith) in
      rw (l, s) (sym (map-take field m (drop from (rows_of n ws)) ∙ ap (take m) (map-drop field from (rows_of n ws)) ∙ u))

  pub heads_at : take (from + m - from) (drop from ws) ≡ map (λ (r : Row). r.head) those
  heads_at = in_column 0 from (λ (r : Row). r.head) (omega arith) (columns n ws long).head

  pub tsns_at : take (n + from + m - (n + from)) (drop (n + from) ws) ≡ map (λ (r : Row). r.tsn) those
  tsns_at = in_column n (n + from) (λ (r : Row). r.tsn) refl (columns n ws long).tsn

  pub ids_at : take (2 * n + from + m - (2 * n + from)) (drop (2 * n + from) ws) ≡ map (λ (r : Row). r.id) those
  ids_at = in_column (2 * n) (2 * n + from) (λ (r : Row). r.id) refl (columns n ws long).id

-- ── what a pass finds ──

module _ (p : ℕ → Bool) (field : Row → ℕ) where
  pub some-words : (rs : List Row) → list_any p (map field rs) ≡ some (λ (r : Row). p (field r)) rs
  unfolding some
  some-words [] = refl
  some-words (r ∷ rs) = ap (λ (b : Bool). p (field r) || b) (some-words rs)

  pub ahead-words : (rs : List Row) → position_or_len p (map field rs) ≡ ahead_of (λ (r : Row). p (field r)) rs
  unfolding ahead_of
  ahead-words [] = refl
  ahead-words (r ∷ rs) = go (p (field r)) (ahead-words rs)
    where
      go : (b : Bool) {i j : ℕ} → i ≡ j → cond (not b) (1 + i) 0 ≡ cond b 0 (suc j)
      go true e = refl
      go false e = omega (arith, e)

  -- the place of the first word that does, or the number of words where none does
  pub ahead-found : (rs : List Row) (n : ℕ) → length rs ≡ n → unwrap_or (cond (ltb (position_or_len p (map field rs)) (length (map field rs))) (Some (position_or_len p (map field rs))) None) n ≡ ahead_of (λ (r : Row). p (field r)) rs
  ahead-found rs n h = rw (ahead-words rs, length-map rs field) (go (ltb i (length rs)) refl)
    where
      i : ℕ
      i = ahead_of (λ (r : Row). p (field r)) rs

      go : (b : Bool) → ltb i (length rs) ≡ b → unwrap_or (cond b (Some i) None) n ≡ i
      go true e = refl
      go false e = omega (arith, h, ltb-false i (length rs) e, ahead_within (λ (r : Row). p (field r)) rs)

pub total-words : (len : ℕ → ℕ) (rs : List Row) → sum_by len (map (λ (r : Row). r.head) rs) ≡ total len rs
unfolding total
total-words len [] = refl
total-words len (r ∷ rs) = sum_by-cons len r.head (map (λ (x : Row). x.head) rs) ∙ ap (λ (s : ℕ). len r.head + s) (total-words len rs)
