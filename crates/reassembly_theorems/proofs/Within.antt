-- What each call of the model holds, measured by what was held before it: no more fragments, no more bytes, none too long.
-- Assumes nothing.
use mathlib.Core.Path.{◌≡◌, refl, ap, ◌∙◌}
use mathlib.Core.Bool.{Bool, true, false, cond}
use mathlib.Core.List.{List, [], ◌∷◌, ◌++◌}
use Prim.Native.Nat.{ℕ, ◌+◌, ◌-◌, ◌≤◌}
use native.Mathlib.Omega.{arith}
use lib.Dec.{ltb}
use lib.ListN.{length, take, drop, length-append, take-append-drop}
use Rattle.wire_model.specs.Refusal.{none, says}
use Rattle.moves_model.specs.Lists.{slice, gone}
use Rattle.moves_model.proofs.Turned.{turned-long}
use Rattle.fragments.specs.Frag.{Frag, ssn_of, has_ssn, tsn_before, ssn_before}
use Rattle.fragments.specs.Words.{size, any, while, past, placed, concat}
use Rattle.fragment_sets.specs.Sets.{other_ssn, from_set, set_of, grown_set, joins, stored, ahead, sets, skipped}
use Rattle.loose_fragments.specs.Loose.{scanned}
use Rattle.loose_fragments.specs.declared.Span.{Span}
use Rattle.fragments.proofs.Pool.{Fit, fit_append, fit_turned, size-append, size-turned}
use Rattle.fragments.proofs.Words.{while-past}
use Rattle.fragment_sets.proofs.Sets.{stored_in, stored-new}
use Rattle.loose_fragments.proofs.Scanned.{scan_within}
use Rattle.set_reach.specs.Kept as skips
use Rattle.set_reach.specs.Kept.{without, stays}
use Rattle.set_reach.proofs.Skip.{skipped-stays}
use Rattle.reassembly_bounded.specs.Bounded.{abandoned, skip_bounded}
use Rattle.reassembly_state.specs.Model.{Queue, queue, held, gives, keep_ordered, move_run, keep_loose, through_end, ready_set, ordered_turn, finished_turn, turn, skip_ordered, not_after, skip_unordered}
use Rattle.reassembly_state.proofs.Parts.{turned_middle}

-- ── lists that are no larger ──

-- r has no more fragments and no more bytes than l, and fits where l does
pub record Within (l r : List Frag) : Type 0 where
  pub fits : Fit l → Fit r
  pub few : length r ≤ length l
  pub small : size r ≤ size l

same : (l : List Frag) → Within l l
same l = record { fits = λ h. h; few = omega arith; small = omega arith }

none_left : (l : List Frag) → Within l []
unfolding size
none_left l = record { fits = λ h. tt; few = omega arith; small = omega arith }

onward : {a b c : List Frag} → Within a b → Within b c → Within a c
onward h k = record { fits = λ f. k.fits (h.fits f); few = omega (arith, h.few, k.few); small = omega (arith, h.small, k.small) }

fit_parts : (xs ys : List Frag) → Fit (xs ++ ys) → Fit xs × Fit ys
fit_parts [] ys h = (tt, h)
fit_parts (x ∷ xs) ys h = let k = fit_parts xs ys h.1 in ((h.0, k.0), k.1)

beside : {a b c d : List Frag} → Within a c → Within b d → Within (a ++ b) (c ++ d)
beside {a} {b} {c} {d} h k =
    record {
      fits = λ f. fit_append c d (h.fits (fit_parts a b f).0) (k.fits (fit_parts a b f).1);
      few = simp length-append (omega (arith, h.few, k.few));
      small = simp size-append (omega (arith, h.small, k.small));
    }

behind : (a b : List Frag) → Within (a ++ b) b
behind a b = beside (none_left a) (same b)

dropped : (k : ℕ) (l : List Frag) → Within l (drop k l)
dropped k l = rw (take-append-drop k l) at (behind (take k l) (drop k l))

passed : (p : Frag → Bool) (l : List Frag) → Within l (past p l)
passed p l = rw (while-past p l) at (behind (while p l) (past p l))

-- a fragment goes further back
deeper : (f : Frag) (a b : List Frag) → Within (f ∷ (a ++ b)) (a ++ (f ∷ b))
unfolding size
deeper f a b =
    record {
      fits = λ h. let k = fit_parts a b h.1 in fit_append a (f ∷ b) k.0 (h.0, k.1);
      few = simp length-append (omega arith);
      small = simp size-append (omega arith);
    }

-- into one list of three
inside : (f : Frag) (a b c : List Frag) {d : List Frag} → Within (f ∷ b) d → Within (f ∷ (a ++ (b ++ c))) (a ++ (d ++ c))
inside f a b c h = onward (deeper f a (b ++ c)) (beside (same a) (beside h (same c)))

-- ── what is stored ──

placed_within : (p : Frag → Bool) (f : Frag) (l : List Frag) → Within (f ∷ l) (placed p f l)
unfolding placed
placed_within p f [] = same (f ∷ [])
placed_within p f (x ∷ xs) = go (any p (x ∷ xs)) (placed_within p f xs)
  where
    go : (b : Bool) → Within (f ∷ xs) (placed p f xs) → Within (f ∷ x ∷ xs) (cond b (x ∷ placed p f xs) (f ∷ x ∷ xs))
    go true h = onward (deeper f (x ∷ []) xs) (beside (same (x ∷ [])) h)
    go false h = same (f ∷ x ∷ xs)

joins_within : (s : List Frag) (f : Frag) (l : List Frag) → Within (f ∷ l) (joins s f ∷ l)
unfolding joins size
joins_within [] f l = same (f ∷ l)
joins_within (x ∷ s) f l = record { fits = λ h. h; few = omega arith; small = omega arith }

grown_within : (f : Frag) (l : List Frag) → Within (f ∷ set_of (ssn_of f) l) (grown_set f l)
unfolding grown_set
grown_within f l = let s = set_of (ssn_of f) l in onward (joins_within s f s) (placed_within (tsn_before f.tsn) (joins s f) s)

module _ (f : Frag) (l : List Frag) where
  -- the first set of its SSN stands between others
  set_between : while (other_ssn (ssn_of f)) l ++ (set_of (ssn_of f) l ++ past (has_ssn (ssn_of f)) (from_set (ssn_of f) l)) ≡ l
  unfolding set_of
  set_between = rw (while-past (has_ssn (ssn_of f)) (from_set (ssn_of f) l), while-past (other_ssn (ssn_of f)) l)

  stored_within : Within (f ∷ l) (stored f l)
  stored_within = go (any (has_ssn (ssn_of f)) l) refl
    where
      go : (b : Bool) → any (has_ssn (ssn_of f)) l ≡ b → Within (f ∷ l) (stored f l)
      go true e = rw (stored_in f l e) (rw set_between at (inside f (while (other_ssn (ssn_of f)) l) (set_of (ssn_of f) l) (past (has_ssn (ssn_of f)) (from_set (ssn_of f) l)) (grown_within f l)))
      go false e = rw (stored-new f l e) (placed_within (ssn_before (ssn_of f)) f l)

-- ── what is skipped ──

concat-ahead : (x : Frag) (ls : List (List Frag)) → concat (ahead x ls) ≡ x ∷ concat ls
unfolding concat ahead
concat-ahead x [] = refl
concat-ahead x ([] ∷ ls) = refl
concat-ahead x ((y ∷ ys) ∷ ls) = go (has_ssn (ssn_of x) y)
  where
    go : (b : Bool) → concat (cond b ((x ∷ y ∷ ys) ∷ ls) ((x ∷ []) ∷ (y ∷ ys) ∷ ls)) ≡ x ∷ y ∷ ys ++ concat ls
    go true = refl
    go false = refl

concat-sets : (l : List Frag) → concat (sets l) ≡ l
unfolding concat sets
concat-sets [] = refl
concat-sets (x ∷ xs) = concat-ahead x (sets xs) ∙ ap (λ (l : List Frag). x ∷ l) (concat-sets xs)

without_within : (goes : List Frag → Bool) (ls : List (List Frag)) → Within (concat ls) (concat (without goes ls))
unfolding concat without
without_within goes [] = same []
without_within goes (l ∷ ls) = go (goes l) (without_within goes ls)
  where
    go : (b : Bool) → Within (concat ls) (concat (without goes ls)) → Within (l ++ concat ls) (concat (cond b (without goes ls) (l ∷ without goes ls)))
    go true h = onward (behind l (concat ls)) h
    go false h = beside (same l) h

stays_within : (goes : List Frag → Bool) (l : List Frag) → Within l (stays goes l)
unfolding stays
stays_within goes l = rw (concat-sets l) at (without_within goes (sets l))

skipped_within : (s : ℕ) (l : List Frag) → Within l (skipped s l)
skipped_within s l = rw (skipped-stays s 0 l) (stays_within (skips.dropped s false 0) l)

-- ── the calls of the model ──

-- a run of the middle list joins the first
run_within : (a b c : List Frag) (x y : ℕ) → x ≤ y → y ≤ length b → Within (a ++ (b ++ c)) ((a ++ slice x y b) ++ (gone x (y - x) b ++ c))
run_within a b c x y h k =
    let l = a ++ (b ++ c) in
    let n : length l ≡ length a + (length b + length c) = simp length-append (omega arith) in
    let long = turned-long (length a) (length a + x) (length a + y) (omega arith) (omega arith) l (omega arith) in
    let sized = size-turned l (length a) (length a + x) (length a + y) (omega arith) (omega arith) in
    rw (turned_middle a b c x y h k)
    (record { fits = fit_turned (length a) (length a + x) (length a + y) l; few = omega arith; small = omega arith })

module _ (q : Queue) (f : Frag) where
  pub ordered_within : Within (f ∷ held q) (held (keep_ordered q f).queue)
  unfolding keep_ordered
  ordered_within =
      onward (deeper f q.finished (q.unordered ++ q.ordered))
      (beside (same q.finished) (onward (deeper f q.unordered q.ordered) (beside (same q.unordered) (stored_within f q.ordered))))

  move_within : (l : List Frag) (s : Span) → s.from ≤ s.to → s.to ≤ length l → Within (q.finished ++ (l ++ q.ordered)) (held (move_run q l s).queue)
  unfolding move_run
  move_within l s h k = go (ltb s.from s.to)
    where
      go : (b : Bool) → Within (q.finished ++ (l ++ q.ordered))
          (held (cond b (gives (says none true) (queue q.si q.next q.max (q.finished ++ slice s.from s.to l) (gone s.from (s.to - s.from) l) q.ordered))
          (gives (says none false) (queue q.si q.next q.max q.finished l q.ordered))).queue)
      go true = run_within q.finished l q.ordered s.from s.to h k
      go false = same (q.finished ++ (l ++ q.ordered))

  pub loose_within : Within (f ∷ held q) (held (keep_loose q f).queue)
  unfolding keep_loose
  loose_within =
      let l = placed (tsn_before f.tsn) f q.unordered in
      let k = scan_within l in
      onward (inside f q.finished q.unordered q.ordered (placed_within (tsn_before f.tsn) f q.unordered)) (move_within l (scanned l) k.0 k.1)

pub turn_within : (q : Queue) → Within (held q) (held (turn q).queue)
unfolding turn finished_turn ordered_turn
turn_within q = go (ltb 0 (length q.finished))
  where
    go : (b : Bool) → Within (held q) (held (cond b (finished_turn q (through_end q.finished)) (ordered_turn q (ready_set q.next q.ordered))).queue)
    go true = beside (dropped (through_end q.finished) q.finished) (same (q.unordered ++ q.ordered))
    go false = beside (same q.finished) (beside (same q.unordered) (dropped (length (ready_set q.next q.ordered)) q.ordered))

pub skip_ordered_within : (q : Queue) (s : ℕ) → Within (held q) (held (skip_ordered q s))
unfolding skip_ordered
skip_ordered_within q s = beside (same q.finished) (beside (same q.unordered) (skipped_within s q.ordered))

pub skip_unordered_within : (q : Queue) (t : ℕ) → Within (held q) (held (skip_unordered q t))
unfolding skip_unordered
skip_unordered_within q t = beside (same q.finished) (beside (passed (not_after t) q.unordered) (same q.ordered))

pub skip_bounded_within : (q : Queue) (s t : ℕ) → Within (held q) (held (skip_bounded q s t))
unfolding skip_bounded
skip_bounded_within q s t = beside (same q.finished) (beside (same q.unordered) (stays_within (abandoned s t) q.ordered))
