-- The model's words for lists, at lists whose parts are known.
-- Assumes nothing.
use mathlib.Core.Path.{◌≡◌, refl, ap, ◌∙◌}
use mathlib.Core.Bool.{Bool, true, false, not, ◌&&◌, and-false}
use mathlib.Core.List.{List, [], ◌∷◌, ◌++◌, append-nil}
use mathlib.Core.Option.{none}
use Prim.Native.Nat.{ℕ, ◌+◌}
use native.Mathlib.Omega.{arith}
use Rattle.fragments.specs.Frag.{Frag, ssn_of, tsn_before, has_ssn, ssn_before}
use Rattle.fragments.specs.Words.{size, any, while, past, find, placed}
use Rattle.fragment_sets.specs.Sets.{other_ssn, from_set, set_of, joins, grown_set, stored}
use Rattle.fragments.proofs.Words.{placed_first}
use Rattle.fragment_sets.proofs.Sets.{stored_in, stored-new, set_none}

pub and_both : {s t : Bool} → s ≡ true → t ≡ true → s && t ≡ true
and_both h k = rw h k

pub and_first : {s : Bool} (t : Bool) → s ≡ false → s && t ≡ false
and_first t h = rw h

pub and_last : (s : Bool) {t : Bool} → t ≡ false → s && t ≡ false
and_last s h = rw h (and-false s)

-- every one answers b
abbrev pub Is : (Frag → Bool) → Bool → List Frag → Type 0
Is p b [] = Unit {0}
Is p b (x ∷ xs) = (p x ≡ b) × Is p b xs

-- every one has the identifier p
abbrev pub Is_ppi : ℕ → List Frag → Type 0
Is_ppi p [] = Unit {0}
Is_ppi p (x ∷ xs) = (x.ppi ≡ p) × Is_ppi p xs

pub size-append : (a b : List Frag) → size (a ++ b) ≡ size a + size b
unfolding size
size-append [] b = omega arith
size-append (x ∷ a) b = let h = size-append a b in omega arith

module _ (p : Frag → Bool) where
  pub is-append : (v : Bool) (a b : List Frag) → Is p v a → Is p v b → Is p v (a ++ b)
  is-append v [] b h k = k
  is-append v (x ∷ a) b h k = (h.0, is-append v a b h.1 k)

  is_not : (v : Bool) (l : List Frag) → Is p v l → Is (λ (x : Frag). not (p x)) (not v) l
  is_not v [] h = tt
  is_not v (x ∷ l) h = (ap not h.0, is_not v l h.1)

  pub any_none : (l : List Frag) → Is p false l → any p l ≡ false
  unfolding any
  any_none [] h = refl
  any_none (x ∷ l) h = rw h.0 (any_none l h.1)

  any_skip : (a b : List Frag) → Is p false a → any p (a ++ b) ≡ any p b
  unfolding any
  any_skip [] b h = refl
  any_skip (x ∷ a) b h = rw h.0 (any_skip a b h.1)

  any_here : (x : Frag) (l : List Frag) → p x ≡ true → any p (x ∷ l) ≡ true
  unfolding any
  any_here x l e = rw e

  pub find_skip : (a b : List Frag) → Is p false a → find p (a ++ b) ≡ find p b
  unfolding find
  find_skip [] b h = refl
  find_skip (x ∷ a) b h = rw h.0 (find_skip a b h.1)

  pub find_none : (l : List Frag) → Is p false l → find p l ≡ none
  unfolding find
  find_none [] h = refl
  find_none (x ∷ l) h = rw h.0 (find_none l h.1)

  while_skip : (a b : List Frag) → Is p true a → while p (a ++ b) ≡ a ++ while p b
  unfolding while
  while_skip [] b h = refl
  while_skip (x ∷ a) b h = rw h.0 (ap (λ (l : List Frag). x ∷ l) (while_skip a b h.1))

  while-stop : (x : Frag) (l : List Frag) → p x ≡ false → while p (x ∷ l) ≡ []
  unfolding while
  while-stop x l e = rw e

  while_none : (l : List Frag) → Is p false l → while p l ≡ []
  unfolding while
  while_none [] h = refl
  while_none (x ∷ l) h = while-stop x l h.0

  past_skip : (a b : List Frag) → Is p true a → past p (a ++ b) ≡ past p b
  unfolding past
  past_skip [] b h = refl
  past_skip (x ∷ a) b h = rw h.0 (past_skip a b h.1)

  pub past_stop : (x : Frag) (l : List Frag) → p x ≡ false → past p (x ∷ l) ≡ x ∷ l
  unfolding past
  past_stop x l e = rw e

  pub past_none : (l : List Frag) → Is p false l → past p l ≡ l
  unfolding past
  past_none [] h = refl
  past_none (x ∷ l) h = past_stop x l h.0

  pub while-is : (a b : List Frag) → Is p true a → Is p false b → while p (a ++ b) ≡ a
  while-is a b h k = while_skip a b h ∙ rw (while_none b k) (append-nil a)

  pub past_is : (a b : List Frag) → Is p true a → Is p false b → past p (a ++ b) ≡ b
  past_is a b h k = past_skip a b h ∙ past_none b k

  -- it goes between those that are before it and those that are not
  pub placed_at : (f : Frag) (a b : List Frag) → Is p true a → Is p false b → placed p f (a ++ b) ≡ a ++ f ∷ b
  unfolding placed
  placed_at f [] b h k = placed_first p f b (any_none b k)
  placed_at f (x ∷ a) b h k = rw (any_here x (a ++ b) h.0) (ap (λ (l : List Frag). x ∷ l) (placed_at f a b h.1 k))

-- ── a set among others ──

module _ (s : ℕ) (a b : List Frag) (ha : Is (has_ssn s) false a) (hb : Is (has_ssn s) false b) where
  from-set : (x : Frag) (m : List Frag) → has_ssn s x ≡ true → from_set s (a ++ x ∷ m) ≡ x ∷ m
  from-set x m e = past_skip (other_ssn s) a (x ∷ m) (is_not (has_ssn s) false a ha) ∙ past_stop (other_ssn s) x m (ap not e)

  pub set-at : (m : List Frag) → Is (has_ssn s) true m → set_of s (a ++ (m ++ b)) ≡ m
  unfolding set_of
  set-at [] h = set_none s (a ++ b) (any_none (has_ssn s) (a ++ b) (is-append (has_ssn s) false a b ha hb))
  set-at (x ∷ m) h = ap (λ (l : List Frag). while (has_ssn s) l) (from-set x (m ++ b) h.0) ∙ while-is (has_ssn s) (x ∷ m) b h hb

-- the first arrival's identifier, where all have one
joins-same : (m : List Frag) (f : Frag) → Is_ppi f.ppi m → joins m f ≡ f
unfolding joins
joins-same [] f h = refl
joins-same (x ∷ m) f h = λ i. record { flags = f.flags; tsn = f.tsn; id = f.id; ppi = h.0 i; bytes = f.bytes }

-- f goes into its set, whether there is one yet or not
module _ (f : Frag) (a b : List Frag) (ha : Is (ssn_before (ssn_of f)) true a) (hb : Is (ssn_before (ssn_of f)) false b)
    (na : Is (has_ssn (ssn_of f)) false a) (nb : Is (has_ssn (ssn_of f)) false b) where
  stored-first : stored f (a ++ b) ≡ a ++ f ∷ b
  stored-first =
      stored-new f (a ++ b) (any_none (has_ssn (ssn_of f)) (a ++ b) (is-append (has_ssn (ssn_of f)) false a b na nb)) ∙ placed_at (ssn_before (ssn_of f)) f a b ha hb

  stored_more : (x : Frag) (m : List Frag) → has_ssn (ssn_of f) x ≡ true → Is (has_ssn (ssn_of f)) true m
      → stored f (a ++ (x ∷ m ++ b)) ≡ a ++ (placed (tsn_before f.tsn) (joins (x ∷ m) f) (x ∷ m) ++ b)
  unfolding grown_set
  stored_more x m e h =
      let s = ssn_of f in
      let l = a ++ (x ∷ m ++ b) in
      let t : any (has_ssn s) l ≡ true = any_skip (has_ssn s) a (x ∷ m ++ b) na ∙ any_here (has_ssn s) x (m ++ b) e in
      let w : while (other_ssn s) l ≡ a =
      while_skip (other_ssn s) a (x ∷ m ++ b) (is_not (has_ssn s) false a na) ∙ rw (while-stop (other_ssn s) x (m ++ b) (ap not e)) (append-nil a) in
      let g : from_set s l ≡ x ∷ m ++ b = from-set s a b na nb x (m ++ b) e in
      let k : set_of s l ≡ x ∷ m = set-at s a b na nb (x ∷ m) (e, h) in
      let r : past (has_ssn s) (from_set s l) ≡ b = ap (λ (l : List Frag). past (has_ssn s) l) g ∙ past_is (has_ssn s) (x ∷ m) b (e, h) nb in
      stored_in f l t ∙ rw (w, k, r)

  -- where its place in the set is known
  pub stored_at : (m n : List Frag) → Is (has_ssn (ssn_of f)) true m → Is_ppi f.ppi m → placed (tsn_before f.tsn) f m ≡ n
      → stored f (a ++ (m ++ b)) ≡ a ++ (n ++ b)
  unfolding placed
  stored_at [] n h k e = stored-first ∙ ap (λ (l : List Frag). a ++ (l ++ b)) e
  stored_at (x ∷ m) n h k e =
      stored_more x m h.0 h.1
      ∙ ap (λ (g : Frag). a ++ (placed (tsn_before f.tsn) g (x ∷ m) ++ b)) (joins-same (x ∷ m) f k)
      ∙ ap (λ (l : List Frag). a ++ (l ++ b)) e
