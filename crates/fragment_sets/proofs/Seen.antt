-- What is said of ordered sets is what the passes over their rows find.
-- Assumes nothing.
use mathlib.Core.Path.{◌≡◌, refl, sym, ap, ◌∙◌}
use mathlib.Core.Bool.{Bool, true, false, not, ◌&&◌, not-not}
use mathlib.Core.List.{List, [], ◌∷◌, map}
use Prim.Native.Nat.{ℕ, ◌+◌, ◌≤◌}
use lib.Dec.{eqb}
use lib.ListN.{length, take, drop}
use Rattle.serial_model.specs.Serial.{next}
use Rattle.moves_model.specs.Lists.{put}
use Rattle.table.specs.Rows.{total, some, up_to_last, ahead_of}
use Rattle.table.specs.declared.Row.{Row}
use Rattle.table.proofs.Scans.{last_within}
use Rattle.fragments.specs.Frag.{Frag, begins, ssn_of, tsn_before, has_ssn, ssn_before, long_length, frag_of, bare, of_row}
use Rattle.fragments.specs.Words.{any, while, past}
use Rattle.fragments.specs.Pool.{cut}
use Rattle.fragments.proofs.Pool.{cut-length, cut-take, cut-drop}
use Rattle.fragments.proofs.Seen.{rest, any-cut, placed-cut, while-cut, past-cut, while-length}
use Rattle.fragment_sets.specs.Sets.{other_ssn, set_of, rises, complete, joins, grown_set, stored}
use Rattle.fragment_sets.proofs.Sets.{stored-new, stored-put}

-- ── the search for a set ──

module _ (s : ℕ) where
  pub from_cut : (rs : List Row) (pool : List ℕ) → past (other_ssn s) (cut rs pool) ≡ drop (ahead_of (of_row (has_ssn s)) rs) (cut rs pool)
  from_cut = past-cut (other_ssn s) (of_row (has_ssn s)) (λ r bs. refl)

  both : (r : Row) (bs : List ℕ) → has_ssn s (frag_of r bs) ≡ not (of_row (other_ssn s) r)
  both r bs = sym (not-not (has_ssn s (frag_of r bs)))

  pub within_cut : (rs : List Row) (pool : List ℕ) → while (has_ssn s) (cut rs pool) ≡ take (ahead_of (of_row (other_ssn s)) rs) (cut rs pool)
  within_cut = while-cut (has_ssn s) (of_row (other_ssn s)) both

  pub behind-cut : (rs : List Row) (pool : List ℕ) → past (has_ssn s) (cut rs pool) ≡ drop (ahead_of (of_row (other_ssn s)) rs) (cut rs pool)
  behind-cut = past-cut (has_ssn s) (of_row (other_ssn s)) both

-- the rows of the first set with SSN s: how many are ahead of it, and those in it
abbrev pub ahead_of_set : ℕ → List Row → ℕ
ahead_of_set s rs = ahead_of (of_row (has_ssn s)) rs

abbrev pub rows_of_set : ℕ → List Row → List Row
rows_of_set s rs = take (ahead_of (of_row (other_ssn s)) (drop (ahead_of_set s rs) rs)) (drop (ahead_of_set s rs) rs)

pub set-cut : (s : ℕ) (rs : List Row) (pool : List ℕ) → set_of s (cut rs pool) ≡ cut (rows_of_set s rs) (drop (total long_length (take (ahead_of_set s rs) rs)) pool)
unfolding set_of
set-cut s rs pool =
    let a = ahead_of_set s rs in
    let behind = drop (total long_length (take a rs)) pool in
    ap (while (has_ssn s)) (from_cut s rs pool ∙ cut-drop a rs pool) ∙ within_cut s (drop a rs) behind ∙ cut-take (ahead_of (of_row (other_ssn s)) (drop a rs)) (drop a rs) behind

-- ── a fragment stored ──

module _ (f : Frag) (rs : List Row) (pool : List ℕ) where
  abbrev s : ℕ
  s = ssn_of f

  -- its place among the rows of its set
  abbrev k : ℕ
  k = up_to_last (of_row (tsn_before f.tsn)) (rows_of_set s rs)

  abbrev new : List Frag
  new = joins (set_of s (cut rs pool)) f ∷ []

  pub grown-cut : grown_set f (cut rs pool) ≡ put k new (set_of s (cut rs pool))
  unfolding grown_set
  grown-cut =
      let behind = drop (total long_length (take (ahead_of_set s rs) rs)) pool in
      rw (set-cut s rs pool) (placed-cut (tsn_before f.tsn) (of_row (tsn_before f.tsn)) (λ r bs. refl) (joins (cut (rows_of_set s rs) behind) f) (rows_of_set s rs) behind)

  k_within : k ≤ length (set_of s (cut rs pool))
  k_within = rw (set-cut s rs pool, cut-length) (last_within (of_row (tsn_before f.tsn)) (rows_of_set s rs))

  held : any (has_ssn s) (cut rs pool) ≡ some (of_row (has_ssn s)) rs
  held = any-cut (has_ssn s) (of_row (has_ssn s)) (λ r bs. refl) rs pool

  -- in its set, by TSN
  pub stored-set : some (of_row (has_ssn (ssn_of f))) rs ≡ true
      → stored f (cut rs pool)
      ≡ put (ahead_of_set (ssn_of f) rs + up_to_last (of_row (tsn_before f.tsn)) (rows_of_set (ssn_of f) rs)) (joins (set_of (ssn_of f) (cut rs pool)) f ∷ []) (cut rs pool)
  stored-set e =
      stored-put f (cut rs pool) (held ∙ e) k k_within grown-cut
      ∙ ap (λ (n : ℕ). put (n + k) new (cut rs pool)) (while-length (other_ssn s) (of_row (has_ssn s)) (λ r bs. refl) rs pool)

  -- a new set, by SSN
  pub stored-fresh : some (of_row (has_ssn (ssn_of f))) rs ≡ false → stored f (cut rs pool) ≡ put (up_to_last (of_row (ssn_before (ssn_of f))) rs) (f ∷ []) (cut rs pool)
  stored-fresh e = stored-new f (cut rs pool) (held ∙ e) ∙ placed-cut (ssn_before s) (of_row (ssn_before s)) (λ r bs. refl) f rs pool

-- ── whole sets ──

rises-cut : (r : Row) (bs : List ℕ) (rs : List Row) (pool : List ℕ) → rises (frag_of r bs) (cut rs pool) ≡ rises (bare r) (map bare rs)
unfolding cut rises
rises-cut r bs [] pool = refl
rises-cut r bs (x ∷ rs) pool = ap (λ (b : Bool). eqb x.tsn (next 32 r.tsn) && b) (rises-cut x (take (long_length x.head) pool) rs (rest x pool))

pub complete-cut : (rs : List Row) (pool : List ℕ) → complete (cut rs pool) ≡ complete (map bare rs)
unfolding cut complete
complete-cut [] pool = refl
complete-cut (r ∷ rs) pool = ap (λ (b : Bool). begins (bare r) && b) (rises-cut r (take (long_length r.head) pool) rs (rest r pool))
