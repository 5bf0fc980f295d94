-- What is said of fragments that looks at no byte is what the passes over their rows find.
-- Assumes nothing.
use mathlib.Core.Path.{◌≡◌, refl, ap, ◌∙◌}
use mathlib.Core.Bool.{Bool, true, false, not, ◌||◌, cond, or-true}
use mathlib.Core.List.{List, [], ◌∷◌}
use Prim.Native.Nat.{ℕ, suc, ◌≤◌}
use native.Mathlib.Omega.{arith}
use lib.ListN.{length, take, drop, length-drop}
use lib.Seq.{length-take-le}
use Rattle.moves_model.specs.Lists.{put}
use Rattle.table.specs.Rows.{total, some, up_to_last, ahead_of}
use Rattle.table.specs.declared.Row.{Row}
use Rattle.table.proofs.Scans.{ahead_within}
use Rattle.fragments.specs.Frag.{Frag, long_length, frag_of}
use Rattle.fragments.specs.Words.{size, any, while, past, placed}
use Rattle.fragments.specs.Pool.{cut}
use Rattle.fragments.proofs.Pool.{cut-length}
use Rattle.fragments.proofs.Words.{placed_first}

-- ── the fragments of rows ──

abbrev pub here : Row → List ℕ → Frag
here r pool = frag_of r (take (long_length r.head) pool)

abbrev pub rest : Row → List ℕ → List ℕ
rest r pool = drop (long_length r.head) pool

-- the pool holds the bytes of the first row, and behind them those of the others
pub holds : (r : Row) (rs : List Row) (pool : List ℕ) → total long_length (r ∷ rs) ≤ length pool → (length (take (long_length r.head) pool) ≡ long_length r.head) × (total long_length rs ≤ length (rest r pool))
unfolding total
holds r rs pool h = (length-take-le (long_length r.head) pool (omega arith), rw length-drop (omega arith))

pub size-cut : (rs : List Row) (pool : List ℕ) → total long_length rs ≤ length pool → size (cut rs pool) ≡ total long_length rs
unfolding cut size total
size-cut [] pool h = refl
size-cut (r ∷ rs) pool h =
    let k = holds r rs pool h in
    rw (k.0, size-cut rs (rest r pool) k.1)

-- ── what a row says too ──

module _ (p : Frag → Bool) (q : Row → Bool) (same : (r : Row) (bs : List ℕ) → p (frag_of r bs) ≡ q r) where
  pub any-cut : (rs : List Row) (pool : List ℕ) → any p (cut rs pool) ≡ some q rs
  unfolding cut any some
  any-cut [] pool = refl
  any-cut (r ∷ rs) pool = rw (same r (take (long_length r.head) pool), any-cut rs (rest r pool))

  pub placed-cut : (f : Frag) (rs : List Row) (pool : List ℕ) → placed p f (cut rs pool) ≡ put (up_to_last q rs) (f ∷ []) (cut rs pool)
  unfolding cut placed any up_to_last put
  placed-cut f [] pool = refl
  placed-cut f (r ∷ rs) pool =
      rw (same r (take (long_length r.head) pool), any-cut rs (rest r pool))
      (go (some q rs) (q r) (any-cut rs (rest r pool)) (placed-cut f rs (rest r pool)))
    where
      x : Frag
      x = here r pool

      xs : List Frag
      xs = cut rs (rest r pool)

      go : (a b : Bool) → any p xs ≡ a → placed p f xs ≡ put (up_to_last q rs) (f ∷ []) xs
          → cond (b || a) (x ∷ placed p f xs) (f ∷ x ∷ xs) ≡ put (cond a (suc (up_to_last q rs)) (cond b 1 0)) (f ∷ []) (x ∷ xs)
      go true b e h = rw (or-true b, h)
      go false true e h = ap (λ (l : List Frag). x ∷ l) (placed_first p f xs e)
      go false false e h = refl

module _ (p : Frag → Bool) (q : Row → Bool) (other : (r : Row) (bs : List ℕ) → p (frag_of r bs) ≡ not (q r)) where
  pub while-cut : (rs : List Row) (pool : List ℕ) → while p (cut rs pool) ≡ take (ahead_of q rs) (cut rs pool)
  unfolding cut while ahead_of
  while-cut [] pool = refl
  while-cut (r ∷ rs) pool = rw (other r (take (long_length r.head) pool)) (go (q r) (while-cut rs (rest r pool)))
    where
      go : (b : Bool) → while p (cut rs (rest r pool)) ≡ take (ahead_of q rs) (cut rs (rest r pool))
          → cond (not b) (here r pool ∷ while p (cut rs (rest r pool))) [] ≡ take (cond b 0 (suc (ahead_of q rs))) (here r pool ∷ cut rs (rest r pool))
      go true e = refl
      go false e = ap (λ (l : List Frag). here r pool ∷ l) e

  pub past-cut : (rs : List Row) (pool : List ℕ) → past p (cut rs pool) ≡ drop (ahead_of q rs) (cut rs pool)
  unfolding cut past ahead_of
  past-cut [] pool = refl
  past-cut (r ∷ rs) pool = rw (other r (take (long_length r.head) pool)) (go (q r) (past-cut rs (rest r pool)))
    where
      go : (b : Bool) → past p (cut rs (rest r pool)) ≡ drop (ahead_of q rs) (cut rs (rest r pool))
          → cond (not b) (past p (cut rs (rest r pool))) (here r pool ∷ cut rs (rest r pool)) ≡ drop (cond b 0 (suc (ahead_of q rs))) (here r pool ∷ cut rs (rest r pool))
      go true e = refl
      go false e = e

  pub while-length : (rs : List Row) (pool : List ℕ) → length (while p (cut rs pool)) ≡ ahead_of q rs
  while-length rs pool =
      ap (λ (l : List Frag). length l) (while-cut rs pool)
      ∙ length-take-le (ahead_of q rs) (cut rs pool) (rw (cut-length rs pool) (ahead_within q rs))
