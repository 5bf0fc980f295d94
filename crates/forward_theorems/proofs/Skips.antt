-- Applied to a sound queue, a FORWARD TSN chunk is not refused, and leaves it sound, its table and pool as long as they were.
-- Assumes nothing.
use mathlib.Core.Path.{◌≡◌, refl, ◌∙◌}
use mathlib.Core.Bool.{Bool, true, false, cond}
use mathlib.Core.List.{List, [], ◌∷◌}
use Prim.Native.Nat.{ℕ}
use lib.Dec.{eqb}
use lib.ListN.{length}
use Rattle.wire_model.specs.Refusal.{none, says}
use Rattle.serial_model.specs.Serial.{at_or_before}
use Rattle.chunk_forward_tsn.specs.Layout.{Pair, pair}
use Rattle.reassembly_state.specs.State.{State, After, after, unsound, forward_ordered, forward_unordered}
use Rattle.reassembly_state.specs.Limits.{frags_most}
use Rattle.reassembly_theorems.proofs.Stays.{Stays, ordered_keeps, unordered-keeps}
use Rattle.forward_tsn.specs.Applied.{pair_skipped, pairs_skipped, applied_to_stream}

pair-stays : (s : State) → unsound s ≡ false → length s.rows ≡ frags_most → (p : Pair) → Stays s (pair_skipped s p)
unfolding pair_skipped
pair-stays s ok full p = go (eqb p.stream s.queue.si)
  where
    go : (b : Bool) → Stays s (cond b (forward_ordered s p.ssn).state s)
    go true = ordered_keeps s ok full p.ssn
    go false = record { sound = ok; rows = full; pool = refl }

on : {s t u : State} → Stays s t → Stays t u → Stays s u
on a b = record { sound = b.sound; rows = b.rows; pool = b.pool ∙ a.pool }

-- the ordered skips leave it sound, its table and pool as long as they were
pub pairs_stay : (s : State) → unsound s ≡ false → length s.rows ≡ frags_most → (streams ssns : List ℕ) → Stays s (pairs_skipped s streams ssns)
unfolding pairs_skipped
pairs_stay s ok full [] ssns = record { sound = ok; rows = full; pool = refl }
pairs_stay s ok full (k ∷ streams) [] = record { sound = ok; rows = full; pool = refl }
pairs_stay s ok full (k ∷ streams) (n ∷ ssns) = let a = pair-stays s ok full (pair k n) in on a (pairs_stay (pair_skipped s (pair k n)) a.sound a.rows streams ssns)

-- an unordered skip of a sound queue is not refused
told : (s : State) → unsound s ≡ false → (tsn : ℕ) → (forward_unordered s tsn).told ≡ says none true
unfolding forward_unordered
told s ok tsn = rw ok

-- done, and all is sound
abbrev pub Done : State → After Bool → Type 0
Done s a = (a.told ≡ says none true) × Stays s a.state

pub apply_stays : (s : State) → unsound s ≡ false → length s.rows ≡ frags_most → (cumulative point : ℕ) (streams ssns : List ℕ) → Done s (applied_to_stream s cumulative point streams ssns)
unfolding applied_to_stream
apply_stays s ok full cumulative point streams ssns = rw ok (go (at_or_before 32 point cumulative))
  where
    go : (b : Bool) → Done s (cond b (after (says none true) s) (forward_unordered (pairs_skipped s streams ssns) point))
    go true = (refl, record { sound = ok; rows = full; pool = refl })
    go false = let a = pairs_stay s ok full streams ssns in (told (pairs_skipped s streams ssns) a.sound point, on a (unordered-keeps (pairs_skipped s streams ssns) a.sound a.rows point))
