-- A test of every entry of a table, which antt computes, and the law that takes it to each place.
-- Assumes nothing.
use mathlib.Core.Path.{◌≡◌}
use mathlib.Core.Bool.{Bool, true, false, cond}
use mathlib.Core.List.{List, [], ◌∷◌}
use Prim.Native.Nat.{ℕ, zero, suc, ◌+◌, ◌<◌}
use native.Mathlib.Nat.{zero-add}
use native.Mathlib.Omega.{arith}
use lib.Dec.{T, eqb, eqb→eq}
use lib.ListN.{length, get_or}
use Rattle.crc32c_table.specs.Crc.{bit_steps}
use Rattle.crc32c_table.specs.Table.{Rule}

-- the entries are those of f, from k on
abbrev pub every : (ℕ → ℕ) → ℕ → List ℕ → Bool
every f k [] = true
every f k (x ∷ xs) = cond (eqb x (f k)) (every f (suc k) xs) false

both : (a b : Bool) → T (cond a b false) → T a × T b
both true b t = (tt, t)
both false b t = absurd t

at : (f : ℕ → ℕ) (xs : List ℕ) (k : ℕ) → T (every f k xs) → (i : ℕ) → i < length xs → get_or xs i 0 ≡ f (k + i)
at f [] k t i h = absurd (omega arith)
at f (x ∷ xs) k t zero h =
    let e : k + 0 ≡ k = omega arith in
    rw e (eqb→eq x (f k) (both (eqb x (f k)) (every f (suc k) xs) t).0)
at f (x ∷ xs) k t (suc i) h =
    let e : k + suc i ≡ suc k + i = omega arith in
    rw e (at f xs (suc k) (both (eqb x (f k)) (every f (suc k) xs) t).1 i (omega arith))

-- 256 entries that pass have the rule
pub ruled : (words : List ℕ) → length words ≡ 256 → T (every (bit_steps 8) 0 words) → Rule words
ruled words l t = record { size = l; entry = λ k h. rw zero-add at (at (bit_steps 8) words 0 t k (omega arith)) }
