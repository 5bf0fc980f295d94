-- Loose unordered fragments: how far a message reaches, and where a whole one stands.
-- Assumes nothing.
use Rattle.std.specs.Prelude.{ℕ, zero, suc, ◌+◌, Bool, cond, ◌&&◌, List, [], ◌∷◌, ltb, length}
use Rattle.std.proofs.Math.Option.{Option, none, some}
use Rattle.serial_model.specs.Serial.{next, ahead}
use Rattle.fragments.specs.Frag.{Frag, begins, ends, has_tsn}
use Rattle.fragments.specs.Words.{find}
use Rattle.loose_fragments.specs.declared.Span.{Span}

-- the TSN before t
abbrev pub previous : ℕ → ℕ
previous t = ahead 32 1 t

-- ── the size of a message as far as it came ──

-- of the fragment that is there, if one is, and, unless it is the last, of the run behind it
unfoldable pub runs : (Frag → Bool) → Option Frag → ℕ → ℕ
runs last none n = 0
runs last (some x) n = length x.bytes + cond (last x) 0 n

-- "the run of unordered fragments, by TSN value, going .. through the first" that is the last: its size. From TSN t on, by `step`;
-- n is the number of fragments: no run has more
unfoldable pub run : (ℕ → ℕ) → (Frag → Bool) → ℕ → ℕ → List Frag → ℕ
run step last zero t l = 0
run step last (suc n) t l = runs last (find (has_tsn t) l) (run step last n (step t) l)

-- "going down from it through the first B", "going up through the first E"
abbrev pub run_down : ℕ → List Frag → ℕ
run_down t l = run previous begins (length l) (previous t) l

abbrev pub run_up : ℕ → List Frag → ℕ
run_up t l = run (next 32) ends (length l) (next 32 t) l

-- "new data, plus, unless the new chunk is B, the run .. going down ..; plus, unless it is E, the run going up"
unfoldable pub reach : Frag → List Frag → ℕ
reach f l = length f.bytes + (cond (begins f) 0 (run_down f.tsn l) + cond (ends f) 0 (run_up f.tsn l))

-- ── the scan ──

-- a run of the list, from one index up to another; an empty one where nothing is found
abbrev pub span : ℕ → ℕ → Span
span a b = record { from = a; to = b }

-- Where the run starts once a fragment is passed at index i: "each B starts afresh; a break in TSN forgets the start". It goes on where there
-- is one and the TSN is the wanted one; a run that starts behind the fragment is none
unfoldable pub starts_by : Bool → Bool → ℕ → ℕ → ℕ
starts_by begin wanted i start = cond begin i (cond (ltb start i && wanted) start (suc i))

-- "the first E reached" ends it
unfoldable pub scan : ℕ → ℕ → ℕ → List Frag → Span
scan i start want [] = span 0 0
scan i start want (x ∷ xs) =
    let s = starts_by (begins x) (has_tsn want x) i start in
    cond (ends x && ltb s (suc i)) (span s (suc i)) (scan (suc i) s (next 32 x.tsn) xs)

abbrev pub scanned : List Frag → Span
scanned l = scan 0 0 0 l
