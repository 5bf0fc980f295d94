-- How far a bounded skip that is held over a stream reset applies by now: document 02, M-110. s is the skip's SSN, t its cumulative point, p the
-- peer's last TSN.
-- Assumes nothing.
use Rattle.std.specs.Prelude.{ℕ, Bool, true, false, ◌&&◌, ◌||◌, cond, List, [], ◌∷◌, eqb}
use Rattle.std.proofs.Math.Option as option
use Rattle.std.proofs.Math.Option.{Option, some}
use Rattle.wire_model.specs.Refusal.{none, refuse, Told, says}
use Rattle.serial_model.specs.Serial.{before, at_or_before}
use Rattle.fragments.specs.Frag.{Frag, ssn_of}
use Rattle.fragment_sets.specs.Sets.{sets}
use Rattle.set_reach.specs.Reach.{reached}
use Rattle.set_reach.specs.Kept.{set_ssn, some_set, ssns_of, lowest, highest}
use Rattle.reassembly_state.specs.Model.{Queue}
use Rattle.reassembly_state.specs.State.{State, unsound, view}

-- ── all of it ──

-- the set of s is there, and it is the expected one or the point reaches it
abbrev pub settles : ℕ → ℕ → ℕ → List Frag → Bool
settles expected s t l = eqb (set_ssn l) s && (eqb (set_ssn l) expected || reached t l)

-- the TSNs that are held of the sets at or after s, in order
unfoldable pub tsns_from : ℕ → List Frag → List ℕ
tsns_from s [] = []
tsns_from s (x ∷ xs) = cond (at_or_before 16 s (ssn_of x)) (x.tsn ∷ tsns_from s xs) (tsns_from s xs)

-- there is a TSN, and it is at or before p
unfoldable pub is_up_to : ℕ → Option ℕ → Bool
is_up_to p option.none = false
is_up_to p (some n) = at_or_before 32 n p

-- the lowest of them is at or before p
abbrev pub resolved : ℕ → ℕ → List Frag → Bool
resolved s p l = is_up_to p (lowest 32 (tsns_from s l))

unfoldable pub applies_whole : Queue → ℕ → ℕ → ℕ → Bool
applies_whole q s t p = before 16 s q.next || (some_set (settles q.next s t) (sets q.ordered) || resolved s p q.ordered)

-- ── a part of it ──

-- the first TSN of a set is at or before p
unfoldable pub first_up_to : ℕ → List Frag → Bool
first_up_to p [] = false
first_up_to p (x ∷ xs) = at_or_before 32 x.tsn p

-- a set from the expected SSN on and before s, which the point reaches or whose first TSN is at or before p
abbrev pub ends_part : ℕ → ℕ → ℕ → ℕ → List Frag → Bool
ends_part expected s t p l = at_or_before 16 expected (set_ssn l) && (before 16 (set_ssn l) s && (reached t l || first_up_to p l))

-- ── the answer ──

-- s where all of it applies, else the highest SSN of the sets that may end a part, if there is one
unfoldable pub applies : Queue → ℕ → ℕ → ℕ → Option ℕ
applies q s t p = cond (applies_whole q s t p) (some s) (highest 16 (ssns_of (ends_part q.next s t p) (sets q.ordered)))

-- an SSN, if there is one
pub record Found : Type 0 where
  pub found : Bool
  pub ssn : ℕ

unfoldable pub found_in : Option ℕ → Found
found_in option.none = record { found = false; ssn = 0 }
found_in (some n) = record { found = true; ssn = n }

unfoldable pub applicable : State → ℕ → ℕ → ℕ → Told Found
applicable s ssn tsn peer = cond (unsound s) (says (refuse 0) (found_in option.none)) (says none (found_in (applies (view s) ssn tsn peer)))
