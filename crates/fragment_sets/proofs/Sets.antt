-- Ordered sets: what is said of a list comes down to its first set, and storing comes down to a place.
-- Assumes nothing.
use mathlib.Core.Path.{◌≡◌, refl, sym, ap, ◌∙◌}
use mathlib.Core.Bool.{Bool, true, false, not, ◌&&◌, cond}
use mathlib.Core.List.{List, [], ◌∷◌, ◌++◌}
use Prim.Native.Nat.{ℕ, ◌+◌, ◌≤◌}
use lib.ListN.{length}
use borrow.Author.Tests.{eqb-true}
use Rattle.serial_model.specs.Serial.{at_or_before}
use Rattle.moves_model.specs.Lists.{put}
use Rattle.fragments.specs.Frag.{Frag, ssn_of, has_ssn, ssn_before}
use Rattle.fragments.specs.Words.{any, while, past, placed, concat}
use Rattle.fragments.proofs.Words.{while-past, past_none, put-behind, put_in_front}
use Rattle.fragment_sets.specs.Sets.{other_ssn, from_set, set_of, complete, joins, grown_set, stored, ahead, sets, set_up_to, kept_sets, skipped}

-- ── the sets of a list ──

-- the fragments of x's SSN that follow it, and what stands behind them
abbrev with_it : Frag → List Frag → List Frag
with_it x xs = while (has_ssn (ssn_of x)) xs

abbrev behind_it : Frag → List Frag → List Frag
behind_it x xs = past (has_ssn (ssn_of x)) xs

pub sets-cons : (x : Frag) (xs : List Frag) → sets (x ∷ xs) ≡ (x ∷ while (has_ssn (ssn_of x)) xs) ∷ sets (past (has_ssn (ssn_of x)) xs)
unfolding sets ahead while past
sets-cons x [] = refl
sets-cons x (y ∷ ys) = ap (ahead x) (sets-cons y ys) ∙ go (has_ssn (ssn_of x) y) refl (sets-cons y ys)
  where
    go : (b : Bool) → has_ssn (ssn_of x) y ≡ b → sets (y ∷ ys) ≡ (y ∷ with_it y ys) ∷ sets (behind_it y ys)
        → cond b ((x ∷ y ∷ with_it y ys) ∷ sets (behind_it y ys)) ((x ∷ []) ∷ (y ∷ with_it y ys) ∷ sets (behind_it y ys))
        ≡ (x ∷ cond b (y ∷ with_it x ys) []) ∷ sets (cond b (behind_it x ys) (y ∷ ys))
    go true e h = ap (λ (s : ℕ). (x ∷ y ∷ while (has_ssn s) ys) ∷ sets (past (has_ssn s) ys)) (eqb-true (ssn_of y) (ssn_of x) e)
    go false e h = ap (λ (ls : List (List Frag)). (x ∷ []) ∷ ls) (sym h)

pub skipped-nil : (s : ℕ) → skipped s [] ≡ []
unfolding skipped concat kept_sets sets
skipped-nil s = refl

pub skipped-cons : (s : ℕ) (x : Frag) (xs : List Frag)
    → skipped s (x ∷ xs)
    ≡ cond (at_or_before 16 (ssn_of x) s && not (complete (x ∷ while (has_ssn (ssn_of x)) xs)))
    (skipped s (past (has_ssn (ssn_of x)) xs))
    ((x ∷ while (has_ssn (ssn_of x)) xs) ++ skipped s (past (has_ssn (ssn_of x)) xs))
unfolding skipped concat kept_sets set_up_to
skipped-cons s x xs = rw (sets-cons x xs) (go (at_or_before 16 (ssn_of x) s && not (complete (x ∷ with_it x xs))))
  where
    go : (b : Bool)
        → concat (cond b (kept_sets s (sets (behind_it x xs))) ((x ∷ with_it x xs) ∷ kept_sets s (sets (behind_it x xs))))
        ≡ cond b (concat (kept_sets s (sets (behind_it x xs)))) ((x ∷ with_it x xs) ++ concat (kept_sets s (sets (behind_it x xs))))
    go true = refl
    go false = refl

-- ── a fragment stored ──

module _ (f : Frag) (l : List Frag) where
  pub stored_in : any (has_ssn (ssn_of f)) l ≡ true
      → stored f l ≡ while (other_ssn (ssn_of f)) l ++ (grown_set f l ++ past (has_ssn (ssn_of f)) (from_set (ssn_of f) l))
  unfolding stored
  stored_in e = rw e

  pub stored-new : any (has_ssn (ssn_of f)) l ≡ false → stored f l ≡ placed (ssn_before (ssn_of f)) f l
  unfolding stored
  stored-new e = rw e

  -- in its set, at the place that it has there
  pub stored-put : any (has_ssn (ssn_of f)) l ≡ true → (k : ℕ) → k ≤ length (set_of (ssn_of f) l)
      → grown_set f l ≡ put k (joins (set_of (ssn_of f) l) f ∷ []) (set_of (ssn_of f) l)
      → stored f l ≡ put (length (while (other_ssn (ssn_of f)) l) + k) (joins (set_of (ssn_of f) l) f ∷ []) l
  unfolding set_of
  stored-put e k h g =
      let s = ssn_of f in
      let new = joins (set_of s l) f ∷ [] in
      let front = while (other_ssn s) l in
      stored_in e ∙ ap (λ (m : List Frag). front ++ (m ++ past (has_ssn s) (from_set s l))) g
      ∙ ap (λ (m : List Frag). front ++ m) (sym (put_in_front new (set_of s l) (past (has_ssn s) (from_set s l)) k h) ∙ ap (put k new) (while-past (has_ssn s) (from_set s l)))
      ∙ sym (put-behind new front (from_set s l) k) ∙ ap (put (length front + k) new) (while-past (other_ssn s) l)

pub set_none : (s : ℕ) (l : List Frag) → any (has_ssn s) l ≡ false → set_of s l ≡ []
unfolding set_of while
set_none s l e = ap (while (has_ssn s)) (past_none (has_ssn s) l e)
