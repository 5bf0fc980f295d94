-- Two laws that the ledger lists and that no code rests on any more: runs are turned by the library now, and a message that came says so in its answer's type.
-- Assumes nothing.
use mathlib.Core.Path.{◌≡◌, refl, sym, ap}
use mathlib.Core.Bool.{true}
use mathlib.Core.List.{List, [], ◌∷◌, ◌++◌}
use Prim.Native.Nat.{ℕ, zero, suc, ◌≤◌}
use native.Mathlib.Omega.{arith}
use lib.ListN.{take, drop, take-append-drop}
use Rattle.wire_model.specs.Refusal.{none, Told, says}
use Rattle.moves_model.specs.Lists.{slice}
use Rattle.chunks.specs.declared.Chunks.{Chunks}
use Rattle.reassembly_state.specs.Answers.{message_held}
use Rattle.reassembly_state.specs.Model.{Message}

-- a list as its three parts
pub split : (f t : ℕ) (xs : List ℕ) → f ≤ t → xs ≡ take f xs ++ (slice f t xs ++ drop t xs)
unfolding slice
split zero t xs h = sym (take-append-drop t xs)
split (suc f) zero xs h = absurd (omega arith)
split (suc f) (suc t) [] h = refl
split (suc f) (suc t) (x ∷ xs) h = ap (λ (l : List ℕ). x ∷ l) (split f t xs (omega arith))

-- a message that came says that one comes
pub came : (c : Chunks) {t : Told Message} → t ≡ says none (message_held c) → t.values.comes ≡ true
unfolding message_held
came c e = ap (λ (t : Told Message). t.values.comes) e
