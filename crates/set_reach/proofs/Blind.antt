-- What looks at no byte finds the same in the fragments of rows, whatever pool they are cut from.
-- Assumes nothing.
use mathlib.Core.Path.{◌≡◌, refl, sym, ap, ◌∙◌}
use mathlib.Core.Bool.{Bool, true, false, not, ◌&&◌, ◌||◌, cond}
use mathlib.Core.List.{List, [], ◌∷◌, map}
use Prim.Native.Nat.{ℕ}
use lib.Dec.{eqb}
use lib.ListN.{drop}
use Rattle.serial_model.specs.Serial.{next, at_or_before}
use Rattle.table.specs.declared.Row.{Row}
use Rattle.fragments.specs.Frag.{Frag, begins, ssn_of, has_ssn, long_length, bare}
use Rattle.fragments.specs.Pool.{cut}
use Rattle.fragment_sets.specs.Sets.{rises, complete, ahead, sets, set_up_to}
use Rattle.loose_fragments.specs.Loose.{previous}
use Rattle.set_reach.specs.Reach.{all_up_to, gap_up_to, missing_up_to, reached}
use Rattle.set_reach.specs.Kept.{set_ssn, some_set, ssns_of}

-- a fragment without its bytes
abbrev plain : Frag → Frag
plain x = record { flags = x.flags; tsn = x.tsn; id = x.id; ppi = x.ppi; bytes = [] }

-- it finds the same of a list without its bytes
abbrev pub Blind : {A : Type 0} → (List Frag → A) → Type 0
Blind p = (l : List Frag) → p (map plain l) ≡ p l

same-plain : (rs : List Row) (pool : List ℕ) → map plain (cut rs pool) ≡ map plain (map bare rs)
unfolding cut
same-plain [] pool = refl
same-plain (r ∷ rs) pool = ap (λ (l : List Frag). plain (bare r) ∷ l) (same-plain rs (drop (long_length r.head) pool))

pub blind_cut : {A : Type 0} {p : List Frag → A} → Blind p → (rs : List Row) (pool : List ℕ) → p (cut rs pool) ≡ p (map bare rs)
blind_cut {p = p} b rs pool = sym (b (cut rs pool)) ∙ ap p (same-plain rs pool) ∙ b (map bare rs)

-- ── what does ──

pub ssn_blind : Blind set_ssn
unfolding set_ssn
ssn_blind [] = refl
ssn_blind (x ∷ xs) = refl

pub up_to_blind : (s : ℕ) → Blind (set_up_to s)
unfolding set_up_to
up_to_blind s [] = refl
up_to_blind s (x ∷ xs) = refl

rises_blind : (x : Frag) → Blind (rises x)
unfolding rises
rises_blind x [] = refl
rises_blind x (y ∷ ys) = ap (λ (b : Bool). eqb y.tsn (next 32 x.tsn) && b) (rises-plain y (map plain ys) ∙ rises_blind y ys)
  where
    rises-plain : (y : Frag) (l : List Frag) → rises (plain y) l ≡ rises y l
    rises-plain y [] = refl
    rises-plain y (z ∷ zs) = refl

pub complete_blind : Blind complete
unfolding complete rises
complete_blind [] = refl
complete_blind (x ∷ []) = refl
complete_blind (x ∷ y ∷ ys) = ap (λ (b : Bool). begins x && b) (rises_blind x (y ∷ ys))

all_blind : (t : ℕ) → Blind (all_up_to t)
unfolding all_up_to
all_blind t [] = refl
all_blind t (x ∷ xs) = ap (λ (b : Bool). at_or_before 32 x.tsn t && b) (all_blind t xs)

gap_blind : (t : ℕ) (x : Frag) → Blind (gap_up_to t x)
unfolding gap_up_to
gap_blind t x [] = refl
gap_blind t x (y ∷ ys) = ap (λ (b : Bool). (not (eqb y.tsn (next 32 x.tsn)) && at_or_before 32 (next 32 x.tsn) t) || b) (gap-plain y (map plain ys) ∙ gap_blind t y ys)
  where
    gap-plain : (y : Frag) (l : List Frag) → gap_up_to t (plain y) l ≡ gap_up_to t y l
    gap-plain y [] = refl
    gap-plain y (z ∷ zs) = refl

pub missing_blind : (t : ℕ) → Blind (missing_up_to t)
unfolding missing_up_to gap_up_to
missing_blind t [] = refl
missing_blind t (x ∷ []) = refl
missing_blind t (x ∷ y ∷ ys) = ap (λ (b : Bool). (not (begins x) && at_or_before 32 (previous x.tsn) t) || b) (gap_blind t x (y ∷ ys))

pub reached_blind : (t : ℕ) → Blind (reached t)
unfolding reached
reached_blind t l = rw (complete_blind l, all_blind t l, missing_blind t l)

-- ── the sets ──

ahead-plain : (x : Frag) (ls : List (List Frag)) → ahead (plain x) (map (map plain) ls) ≡ map (map plain) (ahead x ls)
unfolding ahead
ahead-plain x [] = refl
ahead-plain x ([] ∷ ls) = refl
ahead-plain x ((y ∷ ys) ∷ ls) = go (has_ssn (ssn_of x) y)
  where
    go : (b : Bool)
        → cond b ((plain x ∷ plain y ∷ map plain ys) ∷ map (map plain) ls) ((plain x ∷ []) ∷ (plain y ∷ map plain ys) ∷ map (map plain) ls)
        ≡ map (map plain) (cond b ((x ∷ y ∷ ys) ∷ ls) ((x ∷ []) ∷ (y ∷ ys) ∷ ls))
    go true = refl
    go false = refl

sets-plain : (l : List Frag) → sets (map plain l) ≡ map (map plain) (sets l)
unfolding sets
sets-plain [] = refl
sets-plain (x ∷ xs) = ap (ahead (plain x)) (sets-plain xs) ∙ ahead-plain x (sets xs)

module _ (p : List Frag → Bool) (b : Blind p) where
  some-plain : (ls : List (List Frag)) → some_set p (map (map plain) ls) ≡ some_set p ls
  unfolding some_set
  some-plain [] = refl
  some-plain (l ∷ ls) = rw (b l, some-plain ls)

  ssns-plain : (ls : List (List Frag)) → ssns_of p (map (map plain) ls) ≡ ssns_of p ls
  unfolding ssns_of
  ssns-plain [] = refl
  ssns-plain (l ∷ ls) = rw (b l, ssn_blind l, ssns-plain ls)

  pub some-set_blind : Blind (λ (l : List Frag). some_set p (sets l))
  some-set_blind l = rw (sets-plain l) (some-plain (sets l))

  pub ssns_blind : Blind (λ (l : List Frag). ssns_of p (sets l))
  ssns_blind l = rw (sets-plain l) (ssns-plain (sets l))
