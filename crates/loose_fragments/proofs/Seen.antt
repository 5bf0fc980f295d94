-- What is said of loose fragments is what the passes over their rows find.
-- Assumes nothing.
use mathlib.Core.Path.{◌≡◌, refl, ap, ◌∙◌}
use mathlib.Core.Bool.{Bool, true, false, ◌&&◌, cond}
use mathlib.Core.List.{List, [], ◌∷◌, map}
use mathlib.Core.Option as option
use Prim.Native.Nat.{ℕ, zero, suc, ◌≤◌}
use lib.Dec.{ltb}
use lib.ListN.{length, take, length-replicate}
use Rattle.serial_model.specs.Serial.{next}
use Rattle.table.specs.Rows.{total}
use Rattle.table.specs.declared.Row.{Row}
use Rattle.fragments.specs.Frag.{Frag, begins, ends, has_tsn, long_length, frag_of, bare}
use Rattle.fragments.specs.Words.{find}
use Rattle.fragments.specs.Pool.{cut}
use Rattle.fragments.proofs.Seen.{here, rest, holds}
use Rattle.loose_fragments.specs.Loose.{runs, run, span, starts_by, scan}

module _ (last : Frag → Bool) (same : (r : Row) (bs : List ℕ) → last (frag_of r bs) ≡ last (bare r)) where
  runs-cut : (t n : ℕ) (rs : List Row) (pool : List ℕ) → total long_length rs ≤ length pool → runs last (find (has_tsn t) (cut rs pool)) n ≡ runs last (find (has_tsn t) (map bare rs)) n
  unfolding cut find runs
  runs-cut t n [] pool h = refl
  runs-cut t n (r ∷ rs) pool h =
      let k = holds r rs pool h in
      go (has_tsn t (bare r)) k.0 (runs-cut t n rs (rest r pool) k.1)
    where
      go : (b : Bool) → length (take (long_length r.head) pool) ≡ long_length r.head
          → runs last (find (has_tsn t) (cut rs (rest r pool))) n ≡ runs last (find (has_tsn t) (map bare rs)) n
          → runs last (cond b (option.some (here r pool)) (find (has_tsn t) (cut rs (rest r pool)))) n ≡ runs last (cond b (option.some (bare r)) (find (has_tsn t) (map bare rs))) n
      go true e h = rw (e, length-replicate {A = ℕ} (long_length r.head) 0, same r (take (long_length r.head) pool))
      go false e h = h

  pub run-cut : (step : ℕ → ℕ) (n t : ℕ) (rs : List Row) (pool : List ℕ) → total long_length rs ≤ length pool → run step last n t (cut rs pool) ≡ run step last n t (map bare rs)
  unfolding run
  run-cut step zero t rs pool h = refl
  run-cut step (suc n) t rs pool h =
      ap (runs last (find (has_tsn t) (cut rs pool))) (run-cut step n (step t) rs pool h) ∙ runs-cut t (run step last n (step t) (map bare rs)) rs pool h

pub scan-cut : (i start want : ℕ) (rs : List Row) (pool : List ℕ) → scan i start want (cut rs pool) ≡ scan i start want (map bare rs)
unfolding cut scan
scan-cut i start want [] pool = refl
scan-cut i start want (r ∷ rs) pool =
    let s = starts_by (begins (bare r)) (has_tsn want (bare r)) i start in
    ap (cond (ends (bare r) && ltb s (suc i)) (span s (suc i))) (scan-cut (suc i) s (next 32 r.tsn) rs (rest r pool))
