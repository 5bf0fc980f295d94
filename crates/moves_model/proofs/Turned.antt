-- Two runs of a list exchanged: its length, what stands behind it, and its front.
-- Assumes nothing.
use mathlib.Core.Path.{◌≡◌, sym, ap, ◌∙◌}
use mathlib.Core.List.{List, ◌++◌, append_assoc}
use Prim.Native.Nat.{ℕ, ◌≤◌}
use native.Mathlib.Omega.{arith}
use lib.ListN.{length, take, drop, length-append, length-take, length-drop, take-append-drop}
use lib.Seq.{take_at, take-append-le, drop-append-le, length-take-le}
use Rattle.moves_model.specs.Lists.{slice, turned}

module _ {A : Type 0} (a b c : ℕ) (h : a ≤ b) (k : b ≤ c) where
  pub turned-long : (xs : List A) → c ≤ length xs → length (turned a b c xs) ≡ length xs
  unfolding turned slice
  turned-long xs l = simp (length-append, length-take, length-drop) (omega arith)

  pub turned_app : (u v : List A) → c ≤ length u → turned a b c (u ++ v) ≡ turned a b c u ++ v
  unfolding turned slice
  turned_app u v l =
      rw (take-append-le a u v (omega arith), take-append-le c u v l, take-append-le b u v (omega arith), drop-append-le c u v l) (simp append_assoc)

  pub turned-take : (xs : List A) (n : ℕ) → c ≤ n → n ≤ length xs → take n (turned a b c xs) ≡ turned a b c (take n xs)
  turned-take xs n l m =
      let q = length-take-le n xs m in
      ap (λ (z : List A). take n (turned a b c z)) (sym (take-append-drop n xs))
      ∙ ap (take n) (turned_app (take n xs) (drop n xs) (omega arith))
      ∙ take_at (turned a b c (take n xs)) (drop n xs) n (turned-long (take n xs) (omega arith) ∙ q)
