-- `replay_file::is_known` meets its contract: an empty file has no version byte, and else its first byte is 1.
use mathlib.Core.Path.{◌≡◌, refl}
use mathlib.Core.Bool.{false}
use mathlib.Core.List.{List, [], ◌∷◌}
use Prim.Native.Nat.{ℕ}
use native.Mathlib.Omega.{arith}
use lib.Dec.{eqb}
use lib.ListN.{length, get_or}
use Rattle.replay_file.specs.File.{versioned}
use Rattle.replay_file.proofs.is_known.Goals as goal

none : (file : List ℕ) → length file ≡ 0 → false ≡ versioned file
none [] e = refl
none (v ∷ file) e = absurd (omega arith)

some : (file : List ℕ) → (length file ≡ 0 → ⊥) → eqb (get_or file 0 0) 1 ≡ versioned file
some [] n = absurd (n refl)
some (v ∷ file) n = refl

pub returns-then-file-eq0 : goal.returns-then-file-eq0
returns-then-file-eq0 c = none c.args.file.now c.if-file-eq0.true

pub returns : goal.returns
returns c = some c.args.file.now c.if-file-eq0.false
