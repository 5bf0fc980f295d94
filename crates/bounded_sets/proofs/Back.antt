-- How far the expected SSN may move, by what a pass over the sets kept.
-- Assumes nothing.
use mathlib.Core.Path.{◌≡◌, ◌∙◌}
use mathlib.Core.Bool.{Bool, true, false, cond}
use mathlib.Core.List.{List}
use mathlib.Core.Option.{none, some}
use Prim.Native.Nat.{ℕ}
use Rattle.serial_model.specs.Serial.{next}
use Rattle.fragments.specs.Frag.{Frag}
use Rattle.fragment_sets.specs.Sets.{sets}
use Rattle.set_reach.specs.Kept.{ssns_of, lowest}
use Rattle.set_reach.specs.Bounded.{held_back, limit}

-- the lowest SSN where a set holds back, else the one after the last
module _ (last t : ℕ) (l : List Frag) (found : Bool) (b : ℕ) (e : cond found (some b) none ≡ lowest 16 (ssns_of (held_back last t) (sets l))) where
  pub limit_found : found ≡ true → b ≡ limit last t l
  unfolding limit
  limit_found f = rw (← e, f)

  pub limit_free : found ≡ false → {n : ℕ} → n ≡ next 16 last → n ≡ limit last t l
  unfolding limit
  limit_free f x = x ∙ rw (← e, f)
