-- TSNs that follow one another: what the pass over those that arrived in order counts. The report itself does not speak of it.
-- Assumes nothing.
use Rattle.std.specs.Prelude.{ℕ, zero, suc, cond, List, [], ◌∷◌, eqb}
use Rattle.serial_model.specs.Serial.{next}

-- how many of the TSNs at the front of a list follow one another, from t on; at most k
unfoldable pub adjacent : ℕ → ℕ → List ℕ → ℕ
adjacent zero t ts = 0
adjacent (suc k) t [] = 0
adjacent (suc k) t (x ∷ ts) = cond (eqb x t) (suc (adjacent k (next 32 t) ts)) 0
