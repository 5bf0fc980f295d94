-- Rows that a search passes several at a time.
-- Assumes nothing.
use mathlib.Core.Path.{◌≡◌}
use mathlib.Core.Bool.{Bool, false}
use mathlib.Core.List.{List, [], ◌∷◌, ◌++◌}
use Prim.Native.Nat.{ℕ, ◌+◌, ◌-◌, ◌≤◌}
use native.Mathlib.Omega.{arith}
use lib.ListN.{length, take, drop, length-drop}
use lib.Seq.{length-take-le, take-add, drop-drop}
use Rattle.table.specs.Rows.{some, ahead_of}
use Rattle.table.specs.declared.Row.{Row}
use Rattle.table.proofs.Scans.{neither, ahead_more, ahead_within}

module _ (p : Row → Bool) where
  ahead-behind : (xs ys : List Row) → some p xs ≡ false → ahead_of p (xs ++ ys) ≡ length xs + ahead_of p ys
  unfolding some
  ahead-behind [] ys e = omega arith
  ahead-behind (x ∷ xs) ys e = let f = neither (p x) (some p xs) e in rw (ahead_more p x (xs ++ ys) f.0, ahead-behind xs ys f.1) (omega arith)

  -- k rows that do not are ahead
  pub pass_rows :
      (rs : List Row) (from n i k : ℕ) → from + n ≤ length rs → i + k ≤ n → some p (take k (drop (from + i) rs)) ≡ false →
      i + k + ahead_of p (take (n - (i + k)) (drop (from + (i + k)) rs)) ≡ i + ahead_of p (take (n - i) (drop (from + i) rs))
  pass_rows rs from n i k f h e =
      let a : n - i ≡ k + (n - (i + k)) = omega arith in
      let b : from + (i + k) ≡ from + i + k = omega arith in
      let l : length (take k (drop (from + i) rs)) ≡ k = length-take-le k (drop (from + i) rs) (rw length-drop (omega arith)) in
      rw (a, take-add k (n - (i + k)) (drop (from + i) rs), ahead-behind (take k (drop (from + i) rs)) _ e, l, drop-drop k (from + i) rs, b) (omega arith)

  -- so the rows ahead are those passed and those ahead in the rest, i of them and r
  pub passed-all :
      (rs : List Row) (from n i r : ℕ) → from + n ≤ length rs → i + ahead_of p (take (n - i) (drop (from + i) rs)) ≡ ahead_of p (take n (drop from rs)) →
      r ≡ ahead_of p (take (n - i) (drop (from + i) rs)) → (i + r ≡ ahead_of p (take n (drop from rs))) × (i + r ≤ n)
  passed-all rs from n i r f e g =
      let w = ahead_within p (take n (drop from rs)) in
      let l : length (take n (drop from rs)) ≡ n = length-take-le n (drop from rs) (rw length-drop (omega arith)) in
      (omega arith, omega arith)
