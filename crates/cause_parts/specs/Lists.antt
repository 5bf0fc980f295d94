-- The lent lists, and causes written into them.
-- Assumes nothing.
use Rattle.std.specs.Prelude.{ℕ, cond, List, map, eqb}
use Rattle.std.proofs.lemmas.List.Edits.{sets as stores}
use Rattle.cause_parts.specs.Causes.{Cause}

-- the four lent lists
pub record Lists : Type 0 where
  pub codes : List ℕ
  pub depths : List ℕ
  pub starts : List ℕ
  pub sizes : List ℕ

abbrev pub lists : List ℕ → List ℕ → List ℕ → List ℕ → Lists
lists codes depths starts sizes = record { codes = codes; depths = depths; starts = starts; sizes = sizes }

abbrev pub codes_of : List Cause → List ℕ
codes_of cs = map (λ (c : Cause). c.code) cs

abbrev pub depths_of : List Cause → List ℕ
depths_of cs = map (λ (c : Cause). c.depth) cs

abbrev pub starts_of : List Cause → List ℕ
starts_of cs = map (λ (c : Cause). c.start) cs

abbrev pub sizes_of : List Cause → List ℕ
sizes_of cs = map (λ (c : Cause). c.size) cs

-- 0 the codes, 1 the depths, 2 the starts, 3 the lengths
abbrev pub field_of : ℕ → Cause → ℕ
field_of told c = cond (eqb told 0) c.code (cond (eqb told 1) c.depth (cond (eqb told 2) c.start c.size))

-- one of these of causes, in a list from an index on, as far as the list goes
unfoldable pub noted : ℕ → ℕ → List Cause → List ℕ → List ℕ
noted told at cs list = stores list at (map (field_of told) cs)
