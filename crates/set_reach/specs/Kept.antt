-- Several sets looked at in one pass: whether one does, the SSNs of those that do, and the number that the pass keeps.
-- Assumes nothing.
use Rattle.std.specs.Prelude.{ℕ, Bool, false, not, ◌&&◌, ◌||◌, cond, List, [], ◌∷◌}
use Rattle.std.proofs.Math.Option.{Option, none, some}
use Rattle.serial_model.specs.Serial.{before}
use Rattle.fragments.specs.Frag.{Frag, ssn_of}
use Rattle.fragments.specs.Words.{concat}
use Rattle.fragment_sets.specs.Sets.{complete, sets, set_up_to}
use Rattle.set_reach.specs.Reach.{reached}

-- the SSN of a set
unfoldable pub set_ssn : List Frag → ℕ
set_ssn [] = 0
set_ssn (x ∷ xs) = ssn_of x

-- one of the sets does
unfoldable pub some_set : (List Frag → Bool) → List (List Frag) → Bool
some_set p [] = false
some_set p (l ∷ ls) = p l || some_set p ls

-- the SSNs of the sets that do, in order
unfoldable pub ssns_of : (List Frag → Bool) → List (List Frag) → List ℕ
ssns_of p [] = []
ssns_of p (l ∷ ls) = cond (p l) (set_ssn l ∷ ssns_of p ls) (ssns_of p ls)

-- the sets that do not, in order
unfoldable pub without : (List Frag → Bool) → List (List Frag) → List (List Frag)
without p [] = []
without p (l ∷ ls) = cond (p l) (without p ls) (l ∷ without p ls)

-- the fragments that stay where the sets that do go
unfoldable pub stays : (List Frag → Bool) → List Frag → List Frag
stays goes l = concat (without goes (sets l))

-- "incomplete sets at or before s"
abbrev pub incomplete_up_to : ℕ → List Frag → Bool
incomplete_up_to s l = set_up_to s l && not (complete l)

-- an ordered skip drops them; where a point bounds it, those that the point reaches
abbrev pub dropped : ℕ → Bool → ℕ → List Frag → Bool
dropped s bounded t l = incomplete_up_to s l && (not bounded || reached t l)

-- "the one that a left-to-right pass over the held sets keeps": n, until a better one comes
unfoldable pub keeps : (ℕ → ℕ → Bool) → ℕ → List ℕ → ℕ
keeps better n [] = n
keeps better n (m ∷ ms) = keeps better (cond (better m n) m n) ms

unfoldable pub kept : (ℕ → ℕ → Bool) → List ℕ → Option ℕ
kept better [] = none
kept better (n ∷ ns) = some (keeps better n ns)

-- "the lowest or highest SSN or TSN"
abbrev pub lower : ℕ → ℕ → ℕ → Bool
lower w m n = before w m n

abbrev pub higher : ℕ → ℕ → ℕ → Bool
higher w m n = before w n m

abbrev pub lowest : ℕ → List ℕ → Option ℕ
lowest w ns = kept (lower w) ns

abbrev pub highest : ℕ → List ℕ → Option ℕ
highest w ns = kept (higher w) ns
