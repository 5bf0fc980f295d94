-- A fragment that is placed among others, or an ordered one that is kept, is one more, and its bytes are as many more.
-- Assumes nothing.
use mathlib.Core.Path.{◌≡◌, refl, ap}
use mathlib.Core.Bool.{Bool, true, false, cond}
use mathlib.Core.List.{List, [], ◌∷◌, ◌++◌}
use Prim.Native.Nat.{ℕ, suc}
use native.Mathlib.Omega.{arith}
use lib.ListN.{length, length-append}
use Rattle.fragments.specs.Frag.{Frag, ssn_of, has_ssn, tsn_before, ssn_before}
use Rattle.fragments.specs.Words.{size, any, while, past, placed}
use Rattle.fragment_sets.specs.Sets.{other_ssn, from_set, set_of, grown_set, joins, stored}
use Rattle.fragments.proofs.Pool.{size-append}
use Rattle.fragments.proofs.Words.{while-past}
use Rattle.fragment_sets.proofs.Sets.{stored_in, stored-new}
use Rattle.reassembly_state.specs.Model.{Queue, held, keep_ordered}
use Rattle.streams_model.specs.Among.{OneMore}

module _ (n : ℕ) where
  -- between others
  between : (a b c : List Frag) {d : List Frag} → OneMore n b d → OneMore n (a ++ (b ++ c)) (a ++ (d ++ c))
  between a b c h = record { few = simp length-append (omega (arith, h.few)); bytes = simp size-append (omega (arith, h.bytes)) }

pub placed_one : (p : Frag → Bool) (f : Frag) (l : List Frag) → OneMore (length f.bytes) l (placed p f l)
unfolding placed size
placed_one p f [] = record { few = refl; bytes = refl }
placed_one p f (x ∷ xs) = go (any p (x ∷ xs)) (placed_one p f xs)
  where
    go : (b : Bool) → OneMore (length f.bytes) xs (placed p f xs) → OneMore (length f.bytes) (x ∷ xs) (cond b (x ∷ placed p f xs) (f ∷ x ∷ xs))
    go true h = record { few = ap suc h.few; bytes = omega (arith, h.bytes) }
    go false h = record { few = refl; bytes = refl }

joins-bytes : (s : List Frag) (f : Frag) → (joins s f).bytes ≡ f.bytes
unfolding joins
joins-bytes [] f = refl
joins-bytes (x ∷ s) f = refl

grown-one : (f : Frag) (l : List Frag) → OneMore (length f.bytes) (set_of (ssn_of f) l) (grown_set f l)
unfolding grown_set
grown-one f l =
    let s = set_of (ssn_of f) l in
    rw (ap length (joins-bytes s f)) at (placed_one (tsn_before f.tsn) (joins s f) s)

module _ (f : Frag) (l : List Frag) where
  -- the first set of its SSN stands between others
  set_between : while (other_ssn (ssn_of f)) l ++ (set_of (ssn_of f) l ++ past (has_ssn (ssn_of f)) (from_set (ssn_of f) l)) ≡ l
  unfolding set_of
  set_between = rw (while-past (has_ssn (ssn_of f)) (from_set (ssn_of f) l), while-past (other_ssn (ssn_of f)) l)

  stored_one : OneMore (length f.bytes) l (stored f l)
  stored_one = go (any (has_ssn (ssn_of f)) l) refl
    where
      go : (b : Bool) → any (has_ssn (ssn_of f)) l ≡ b → OneMore (length f.bytes) l (stored f l)
      go true e = rw (stored_in f l e) (rw set_between at (between (length f.bytes) (while (other_ssn (ssn_of f)) l) (set_of (ssn_of f) l) (past (has_ssn (ssn_of f)) (from_set (ssn_of f) l)) (grown-one f l)))
      go false e = rw (stored-new f l e) (placed_one (ssn_before (ssn_of f)) f l)

pub kept-one : (q : Queue) (f : Frag) → OneMore (length f.bytes) (held q) (held (keep_ordered q f).queue)
unfolding keep_ordered
kept-one q f = let h = stored_one f q.ordered in record { few = simp length-append (omega (arith, h.few)); bytes = simp size-append (omega (arith, h.bytes)) }
