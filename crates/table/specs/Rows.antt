-- A lent table of words, column after column, seen as rows; and what the passes over rows find.
-- Assumes nothing.
use Rattle.std.specs.Prelude.{ℕ, suc, ◌+◌, ◌*◌, ◌/◌, ◌%◌, Bool, false, ◌||◌, cond, List, [], ◌∷◌, eqb, take, drop}
use Rattle.serial_model.specs.Serial.{before}
use Rattle.table.specs.declared.Row.{Row}

abbrev pub row : ℕ → ℕ → ℕ → ℕ → Row
row head tsn id ppi = record { head = head; tsn = tsn; id = id; ppi = ppi }

abbrev pub blank : Row
blank = row 0 0 0 0

-- ── the layout: nothing above this crate knows it ──

-- four columns side by side
unfoldable pub zipped : List ℕ → List ℕ → List ℕ → List ℕ → List Row
zipped (h ∷ hs) (t ∷ ts) (i ∷ is) (p ∷ ps) = row h t i p ∷ zipped hs ts is ps
zipped (h ∷ hs) (t ∷ ts) (i ∷ is) [] = []
zipped (h ∷ hs) (t ∷ ts) [] ps = []
zipped (h ∷ hs) [] is ps = []
zipped [] ts is ps = []

-- the rows of a table whose columns have n words each: heads, TSNs, ids, payload identifiers
unfoldable pub rows_of : ℕ → List ℕ → List Row
rows_of n ws = zipped (take n ws) (take n (drop n ws)) (take n (drop (2 * n) ws)) (take n (drop (3 * n) ws))

-- ── passes ──

-- the sum of the rows' lengths, by what a head says of one
unfoldable pub total : (ℕ → ℕ) → List Row → ℕ
total len [] = 0
total len (r ∷ rs) = len r.head + total len rs

-- some row does
unfoldable pub some : (Row → Bool) → List Row → Bool
some p [] = false
some p (r ∷ rs) = p r || some p rs

-- the number of rows up to the last one that does; 0 where none does
unfoldable pub up_to_last : (Row → Bool) → List Row → ℕ
up_to_last p [] = 0
up_to_last p (r ∷ rs) = cond (some p rs) (suc (up_to_last p rs)) (cond (p r) 1 0)

-- the number of rows ahead of the first one that does; all where none does
unfoldable pub ahead_of : (Row → Bool) → List Row → ℕ
ahead_of p [] = 0
ahead_of p (r ∷ rs) = cond (p r) 0 (suc (ahead_of p rs))

-- those that do, in order
unfoldable pub kept : (Row → Bool) → List Row → List Row
kept p [] = []
kept p (r ∷ rs) = cond (p r) (r ∷ kept p rs) (kept p rs)

-- ── what a row says ──

abbrev pub has_tsn : ℕ → Row → Bool
has_tsn t r = eqb r.tsn t

-- the stream stands in the upper half of the id
abbrev pub has_stream : ℕ → Row → Bool
has_stream s r = eqb (r.id / 65536) s

-- its TSN is before t
abbrev pub tsn_before : ℕ → Row → Bool
tsn_before t r = before 32 r.tsn t

-- a data length of 16 bits stands in the lower half of the head
abbrev pub short_length : ℕ → ℕ
short_length head = head % 65536
