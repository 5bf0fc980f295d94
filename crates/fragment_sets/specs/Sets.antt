-- Ordered sets: the fragments of one SSN, which stand side by side.
-- Assumes nothing.
use Rattle.std.specs.Prelude.{ℕ, Bool, false, cond, not, ◌&&◌, List, [], ◌∷◌, ◌++◌, eqb}
use Rattle.serial_model.specs.Serial.{next, at_or_before}
use Rattle.fragments.specs.Frag.{Frag, begins, ends, ssn_of, has_ssn, tsn_before, ssn_before}
use Rattle.fragments.specs.Words.{any, while, past, placed, concat}

-- of a set with another SSN
abbrev pub other_ssn : ℕ → Frag → Bool
other_ssn s x = not (has_ssn s x)

-- the list from its first fragment with SSN s on, and "the first set with that SSN"
abbrev pub from_set : ℕ → List Frag → List Frag
from_set s l = past (other_ssn s) l

unfoldable pub set_of : ℕ → List Frag → List Frag
set_of s l = while (has_ssn s) (from_set s l)

-- "TSNs rise by 1", "last is E"
unfoldable pub rises : Frag → List Frag → Bool
rises x [] = ends x
rises x (y ∷ ys) = eqb y.tsn (next 32 x.tsn) && rises y ys

-- "Complete: first is B, last is E, TSNs rise by 1; inner flags are not looked at."
unfoldable pub complete : List Frag → Bool
complete [] = false
complete (x ∷ xs) = begins x && rises x xs

-- "A set's payload identifier is that of its first arrival": each later one takes it over
unfoldable pub joins : List Frag → Frag → Frag
joins [] f = f
joins (x ∷ xs) f = record { flags = f.flags; tsn = f.tsn; id = f.id; ppi = x.ppi; bytes = f.bytes }

-- the set of f's SSN with f in it, by TSN
unfoldable pub grown_set : Frag → List Frag → List Frag
grown_set f l = placed (tsn_before f.tsn) (joins (set_of (ssn_of f) l) f) (set_of (ssn_of f) l)

-- f in its set; where there is no such set, a new one, by SSN
unfoldable pub stored : Frag → List Frag → List Frag
stored f l =
    cond (any (has_ssn (ssn_of f)) l)
    (while (other_ssn (ssn_of f)) l ++ (grown_set f l ++ past (has_ssn (ssn_of f)) (from_set (ssn_of f) l)))
    (placed (ssn_before (ssn_of f)) f l)

-- ── all the sets ──

-- x in front of the sets behind it: of the first one, if that has its SSN
unfoldable pub ahead : Frag → List (List Frag) → List (List Frag)
ahead x [] = (x ∷ []) ∷ []
ahead x ([] ∷ ls) = (x ∷ []) ∷ ls
ahead x ((y ∷ ys) ∷ ls) = cond (has_ssn (ssn_of x) y) ((x ∷ y ∷ ys) ∷ ls) ((x ∷ []) ∷ (y ∷ ys) ∷ ls)

-- the runs of one SSN, in order
unfoldable pub sets : List Frag → List (List Frag)
sets [] = []
sets (x ∷ xs) = ahead x (sets xs)

-- the SSN of a set is at or before s
unfoldable pub set_up_to : ℕ → List Frag → Bool
set_up_to s [] = false
set_up_to s (x ∷ xs) = at_or_before 16 (ssn_of x) s

-- "incomplete sets at or before s go"
unfoldable pub kept_sets : ℕ → List (List Frag) → List (List Frag)
kept_sets s [] = []
kept_sets s (l ∷ ls) = cond (set_up_to s l && not (complete l)) (kept_sets s ls) (l ∷ kept_sets s ls)

unfoldable pub skipped : ℕ → List Frag → List Frag
skipped s l = concat (kept_sets s (sets l))
