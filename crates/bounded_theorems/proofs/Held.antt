-- What stands in a held list, said by membership: its sets, the SSNs of those that do, the TSNs at or after an SSN.
-- Assumes nothing.
use mathlib.Core.Path.{◌≡◌, refl, sym, ap, ◌∙◌}
use mathlib.Core.Bool.{Bool, true, false, ◌||◌, cond, true≢false}
use mathlib.Core.Logic.{◌↔◌, ⊎_elim}
use mathlib.Core.List.Memᴰ
use mathlib.Core.List.{List, [], ◌∷◌, Memᴰ}
use Prim.Native.Nat.{ℕ}
use Rattle.serial_model.specs.Serial.{at_or_before}
use Rattle.fragments.specs.Frag.{Frag, ssn_of, has_ssn}
use Rattle.fragment_sets.specs.Sets.{ahead, sets}
use Rattle.set_reach.specs.Kept.{set_ssn, some_set, ssns_of}
use Rattle.reassembly_applicable.specs.Applicable.{tsns_from}
use Rattle.bounded_theorems.specs.Conditions.{SsnOf, TsnFrom}

-- ── a set's SSN is that of one of the fragments ──

abbrev Of : List Frag → List Frag → Type 0
Of l m = (x : Frag) × Memᴰ x l × (set_ssn m ≡ ssn_of x)

ahead_of : (x : Frag) (xs : List Frag) (ls : List (List Frag)) → ((m : List Frag) → Memᴰ m ls → Of xs m) → (m : List Frag) → Memᴰ m (ahead x ls) → Of (x ∷ xs) m
unfolding ahead set_ssn
ahead_of x xs [] h m i = ⊎_elim (λ e. rw e (x, Memᴰ.head refl, refl)) (λ j. absurd (Memᴰ.not-nil j)) (Memᴰ.cases_cons i)
ahead_of x xs ([] ∷ ls) h m i = ⊎_elim (λ e. rw e (x, Memᴰ.head refl, refl)) (λ j. let o = h m (Memᴰ.tail j) in (o.0, Memᴰ.tail o.1, o.2)) (Memᴰ.cases_cons i)
ahead_of x xs ((y ∷ ys) ∷ ls) h m i = go (has_ssn (ssn_of x) y) i
  where
    go : (b : Bool) → Memᴰ m (cond b ((x ∷ y ∷ ys) ∷ ls) ((x ∷ []) ∷ (y ∷ ys) ∷ ls)) → Of (x ∷ xs) m
    go true i = ⊎_elim (λ e. rw e (x, Memᴰ.head refl, refl)) (λ j. let o = h m (Memᴰ.tail j) in (o.0, Memᴰ.tail o.1, o.2)) (Memᴰ.cases_cons i)
    go false i = ⊎_elim (λ e. rw e (x, Memᴰ.head refl, refl)) (λ j. let o = h m j in (o.0, Memᴰ.tail o.1, o.2)) (Memᴰ.cases_cons i)

pub set-of : (l m : List Frag) → Memᴰ m (sets l) → Of l m
unfolding sets
set-of [] m i = absurd (Memᴰ.not-nil i)
set-of (x ∷ xs) m i = ahead_of x xs (sets xs) (set-of xs) m i

-- ── the sets that do ──

module _ (p : List Frag → Bool) where
  ssns_in : (ls : List (List Frag)) (n : ℕ) → Memᴰ n (ssns_of p ls) → (m : List Frag) × Memᴰ m ls × (p m ≡ true) × (set_ssn m ≡ n)
  unfolding ssns_of
  ssns_in [] n i = absurd (Memᴰ.not-nil i)
  ssns_in (l ∷ ls) n i = go (p l) refl (ssns_in ls n) i
    where
      more : ((m : List Frag) × Memᴰ m ls × (p m ≡ true) × (set_ssn m ≡ n)) → (m : List Frag) × Memᴰ m (l ∷ ls) × (p m ≡ true) × (set_ssn m ≡ n)
      more o = (o.0, Memᴰ.tail o.1, o.2, o.3)

      go : (b : Bool) → p l ≡ b → (Memᴰ n (ssns_of p ls) → (m : List Frag) × Memᴰ m ls × (p m ≡ true) × (set_ssn m ≡ n)) → Memᴰ n (cond b (set_ssn l ∷ ssns_of p ls) (ssns_of p ls)) → (m : List Frag) × Memᴰ m (l ∷ ls) × (p m ≡ true) × (set_ssn m ≡ n)
      go true e rest i = ⊎_elim (λ z. (l, Memᴰ.head refl, e, sym z)) (λ j. more (rest j)) (Memᴰ.cases_cons i)
      go false e rest i = more (rest i)

  ssns-of : (ls : List (List Frag)) (n : ℕ) (m : List Frag) → Memᴰ m ls → p m ≡ true → set_ssn m ≡ n → Memᴰ n (ssns_of p ls)
  unfolding ssns_of
  ssns-of [] n m i e z = absurd (Memᴰ.not-nil i)
  ssns-of (l ∷ ls) n m i e z =
      ⊎_elim (λ j. let k : p l ≡ true = ap p (sym j) ∙ e in rw k (Memᴰ.head (sym z ∙ ap set_ssn j))) (λ j. go (p l) (ssns-of ls n m j e z)) (Memᴰ.cases_cons i)
    where
      go : (b : Bool) → Memᴰ n (ssns_of p ls) → Memᴰ n (cond b (set_ssn l ∷ ssns_of p ls) (ssns_of p ls))
      go true h = Memᴰ.tail h
      go false h = h

  pub ssns_are : (l : List Frag) (n : ℕ) → Memᴰ n (ssns_of p (sets l)) ↔ SsnOf p l n
  ssns_are l n = (ssns_in (sets l) n, λ o. ssns-of (sets l) n o.0 o.1 o.2 o.3)

  -- one does, or none
  pub some_in : (ls : List (List Frag)) → some_set p ls ≡ true → (m : List Frag) × Memᴰ m ls × (p m ≡ true)
  unfolding some_set
  some_in [] e = absurd (true≢false (sym e))
  some_in (l ∷ ls) e = go (p l) refl (some_in ls) e
    where
      go : (b : Bool) → p l ≡ b → (some_set p ls ≡ true → (m : List Frag) × Memᴰ m ls × (p m ≡ true)) → b || some_set p ls ≡ true → (m : List Frag) × Memᴰ m (l ∷ ls) × (p m ≡ true)
      go true d rest e = (l, Memᴰ.head refl, d)
      go false d rest e = let o = rest e in (o.0, Memᴰ.tail o.1, o.2)

  pub some_of : (ls : List (List Frag)) → some_set p ls ≡ false → (m : List Frag) → Memᴰ m ls → p m ≡ true → ⊥
  unfolding some_set
  some_of [] e m i t = Memᴰ.not-nil i
  some_of (l ∷ ls) e m i t = go (p l) refl (λ f j. some_of ls f m j t) e
    where
      go : (b : Bool) → p l ≡ b → (some_set p ls ≡ false → Memᴰ m ls → ⊥) → b || some_set p ls ≡ false → ⊥
      go true d rest e = true≢false e
      go false d rest e = ⊎_elim (λ j. true≢false (sym t ∙ ap p j ∙ d)) (λ j. rest e j) (Memᴰ.cases_cons i)

-- ── the TSNs at or after an SSN ──

module _ (s : ℕ) where
  tsns_in : (l : List Frag) (n : ℕ) → Memᴰ n (tsns_from s l) → TsnFrom s l n
  unfolding tsns_from
  tsns_in [] n i = absurd (Memᴰ.not-nil i)
  tsns_in (x ∷ xs) n i = go (at_or_before 16 s (ssn_of x)) refl (tsns_in xs n) i
    where
      more : TsnFrom s xs n → TsnFrom s (x ∷ xs) n
      more o = (o.0, Memᴰ.tail o.1, o.2, o.3)

      go : (b : Bool) → at_or_before 16 s (ssn_of x) ≡ b → (Memᴰ n (tsns_from s xs) → TsnFrom s xs n) → Memᴰ n (cond b (x.tsn ∷ tsns_from s xs) (tsns_from s xs)) → TsnFrom s (x ∷ xs) n
      go true e rest i = ⊎_elim (λ z. (x, Memᴰ.head refl, e, sym z)) (λ j. more (rest j)) (Memᴰ.cases_cons i)
      go false e rest i = more (rest i)

  tsns-of : (l : List Frag) (n : ℕ) (y : Frag) → Memᴰ y l → at_or_before 16 s (ssn_of y) ≡ true → y.tsn ≡ n → Memᴰ n (tsns_from s l)
  unfolding tsns_from
  tsns-of [] n y i e z = absurd (Memᴰ.not-nil i)
  tsns-of (x ∷ xs) n y i e z =
      ⊎_elim (λ j. let k : at_or_before 16 s (ssn_of x) ≡ true = ap (λ (f : Frag). at_or_before 16 s (ssn_of f)) (sym j) ∙ e in rw k (Memᴰ.head (sym z ∙ ap (λ (f : Frag). f.tsn) j))) (λ j. go (at_or_before 16 s (ssn_of x)) (tsns-of xs n y j e z)) (Memᴰ.cases_cons i)
    where
      go : (b : Bool) → Memᴰ n (tsns_from s xs) → Memᴰ n (cond b (x.tsn ∷ tsns_from s xs) (tsns_from s xs))
      go true h = Memᴰ.tail h
      go false h = h

  pub tsns_are : (l : List Frag) (n : ℕ) → Memᴰ n (tsns_from s l) ↔ TsnFrom s l n
  tsns_are l n = (tsns_in l n, λ o. tsns-of l n o.0 o.1 o.2 o.3)
