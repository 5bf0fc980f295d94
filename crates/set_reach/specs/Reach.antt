-- What a cumulative point reaches of an ordered set (document 02, M-110), from the Rust's `is_covered` and `is_missing_tsn_at_or_before`.
-- Assumes nothing.
use Rattle.std.specs.Prelude.{ℕ, Bool, true, false, not, ◌&&◌, ◌||◌, cond, List, [], ◌∷◌, eqb}
use Rattle.serial_model.specs.Serial.{next, at_or_before}
use Rattle.fragments.specs.Frag.{Frag, begins, ends}
use Rattle.fragment_sets.specs.Sets.{complete}
use Rattle.loose_fragments.specs.Loose.{previous}

-- every TSN of the set is at or before t
unfoldable pub all_up_to : ℕ → List Frag → Bool
all_up_to t [] = true
all_up_to t (x ∷ xs) = at_or_before 32 x.tsn t && all_up_to t xs

-- a TSN that is not held behind x is at or before t: the one after a fragment that no next one has, the one after the last unless that is E
unfoldable pub gap_up_to : ℕ → Frag → List Frag → Bool
gap_up_to t x [] = not (ends x) && at_or_before 32 (next 32 x.tsn) t
gap_up_to t x (y ∷ ys) = (not (eqb y.tsn (next 32 x.tsn)) && at_or_before 32 (next 32 x.tsn) t) || gap_up_to t y ys

-- of the TSNs that the set's message lacks one is at or before t: the one before the first, unless that is B, or one behind it
unfoldable pub missing_up_to : ℕ → List Frag → Bool
missing_up_to t [] = false
missing_up_to t (x ∷ xs) = (not (begins x) && at_or_before 32 (previous x.tsn) t) || gap_up_to t x xs

-- The point t reaches a set: a complete one with its last TSN, an incomplete one with a TSN that it lacks.
-- So a point that does not reach it left all of it, or what is still to come of it, for later.
unfoldable pub reached : ℕ → List Frag → Bool
reached t l = cond (complete l) (all_up_to t l) (missing_up_to t l)
