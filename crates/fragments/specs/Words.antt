-- Words for lists of fragments.
-- Assumes nothing.
use Rattle.std.specs.Prelude.{ℕ, ◌+◌, Bool, false, cond, ◌||◌, List, [], ◌∷◌, ◌++◌, length}
use Rattle.std.proofs.Math.Option.{Option, none, some}
use Rattle.fragments.specs.Frag.{Frag}

-- "the sum of held lengths"
unfoldable pub size : List Frag → ℕ
size [] = 0
size (x ∷ xs) = length x.bytes + size xs

-- the user data, one behind the other
unfoldable pub joined : List Frag → List ℕ
joined [] = []
joined (x ∷ xs) = x.bytes ++ joined xs

-- one of them does
unfoldable pub any : (Frag → Bool) → List Frag → Bool
any p [] = false
any p (x ∷ xs) = p x || any p xs

-- the longest front of which all do, and what stands behind it
unfoldable pub while : (Frag → Bool) → List Frag → List Frag
while p [] = []
while p (x ∷ xs) = cond (p x) (x ∷ while p xs) []

unfoldable pub past : (Frag → Bool) → List Frag → List Frag
past p [] = []
past p (x ∷ xs) = cond (p x) (past p xs) (x ∷ xs)

-- the first one that does
unfoldable pub find : (Frag → Bool) → List Frag → Option Frag
find p [] = none
find p (x ∷ xs) = cond (p x) (some x) (find p xs)

-- "goes right after the last held one that is before it, or first if there is none"
unfoldable pub placed : (Frag → Bool) → Frag → List Frag → List Frag
placed p f [] = f ∷ []
placed p f (x ∷ xs) = cond (any p (x ∷ xs)) (x ∷ placed p f xs) (f ∷ x ∷ xs)

-- the lists of a list, one behind the other
unfoldable pub concat : List (List Frag) → List Frag
concat [] = []
concat (l ∷ ls) = l ++ concat ls
