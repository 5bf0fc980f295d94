-- The size rule of an unordered push: the two runs stay inside the chunk's own message.
-- Assumes nothing.
use mathlib.Core.Path.{◌≡◌, refl, sym, ap, ◌∙◌}
use mathlib.Core.Bool.{Bool, true, false, cond}
use mathlib.Core.List.{List, [], ◌∷◌, ◌++◌}
use mathlib.Core.Option.{Option, none, some}
use Prim.Native.Nat.{ℕ, zero, suc, ◌+◌, ◌^◌, ◌≤◌}
use native.Mathlib.Omega.{arith}
use lib.ListN.{length}
use lib.Seq.{append_snoc}
use Rattle.serial_model.specs.Serial.{next}
use Rattle.fragments.specs.Frag.{Frag, begins, ends, has_tsn}
use Rattle.fragments.specs.Words.{size, find}
use Rattle.loose_fragments.specs.Loose.{previous, runs, run, reach}
use Rattle.arrival_plan.specs.Plan.{tsn_at, null, Later, Cut}
use Rattle.arrival_plan.proofs.Lists.{is-append, size-append, find_skip, find_none}
use Rattle.arrival_plan.proofs.Numbers.{next-at, previous-at, tsn-same}
use Rattle.arrival_plan.proofs.Shape.{Mark, came, due, all_of, arrived, all_append, arrived_small, Within, within_append, wider, below, above, frag_of_mark, Places, places_within, places_cut, split}

-- ── a run along a chain of marks ──

abbrev want : Mark → Option Frag
want (came x) = some x
want (due x) = none

null-cons : (m : Mark) (l : List Mark) {b : Bool} → b ≡ null (all_of (m ∷ l)) → b ≡ false
null-cons (came x) l e = e
null-cons (due x) l e = e

null_is : (m : Mark) (l : List Mark) → null (all_of (m ∷ l)) ≡ false
null_is (came x) l = refl
null_is (due x) l = refl

arrived-cons : (m : Mark) (u : List Mark) → size (arrived (m ∷ u)) ≡ size (arrived u) + size (arrived (m ∷ []))
unfolding size
arrived-cons (came x) u = omega arith
arrived-cons (due x) u = omega arith

module _ (step : ℕ → ℕ) (last : Frag → Bool) (h : List Frag) where
  -- along the chain, what came is held; only its last ends a run
  abbrev Chain : ℕ → List Mark → Type 0
  Chain t [] = Unit {0}
  Chain t (m ∷ l) = (find (has_tsn t) h ≡ want m) × (last (frag_of_mark m) ≡ null (all_of l)) × Chain (step t) l

  run_none : (n t : ℕ) → find (has_tsn t) h ≡ none → run step last (suc n) t h ≡ 0
  unfolding run runs
  run_none n t e = rw e

  run-some : (n t : ℕ) (x : Frag) → find (has_tsn t) h ≡ some x → run step last (suc n) t h ≡ length x.bytes + cond (last x) 0 (run step last n (step t) h)
  unfolding run runs
  run-some n t x e = rw e

  ends-run : (x : Frag) (n : ℕ) → last x ≡ true → length x.bytes + cond (last x) 0 n ≡ length x.bytes
  ends-run x n e = rw e (omega arith)

  goes_on : (x : Frag) (n : ℕ) → last x ≡ false → length x.bytes + cond (last x) 0 n ≡ length x.bytes + n
  goes_on x n e = rw e

  run_small : (n t : ℕ) (m : Mark) (l : List Mark) → Chain t (m ∷ l) → run step last n t h ≤ size (arrived (m ∷ l))
  unfolding run size
  run_small zero t m l c = omega arith
  run_small (suc n) t (due x) l c = omega (arith, run_none n t c.0)
  run_small (suc n) t (came x) [] c = omega (arith, run-some n t x c.0, ends-run x (run step last n (step t) h) c.1)
  run_small (suc n) t (came x) (m ∷ l) c =
      omega (arith, run-some n t x c.0, goes_on x (run step last n (step t) h) (null-cons m l c.1), run_small n (step t) m l c.2)

-- ── what is found at each place ──

module _ (base : ℕ) where
  abbrev Finds : List Frag → ℕ → List Mark → Type 0
  Finds h o [] = Unit {0}
  Finds h o (m ∷ l) = (find (has_tsn (tsn_at base o)) h ≡ want m) × Finds h (suc o) l

  find-here : (o : ℕ) (x : Frag) (l : List Frag) → x.tsn ≡ tsn_at base o → find (has_tsn (tsn_at base o)) (x ∷ l) ≡ some x
  unfolding find
  find-here o x l e = go (has_tsn (tsn_at base o) x) (rw e (tsn-same base o))
    where
      go : (t : Bool) → t ≡ true → cond t (some x) (find (has_tsn (tsn_at base o)) l) ≡ some x
      go t e = rw e

  finds : (o : ℕ) (l : List Mark) (a r : List Frag) → Places base o l → o + length l ≤ 2 ^ 31 → Within base 0 o a → Within base (o + length l) (2 ^ 31) r
      → Finds (a ++ (arrived l ++ r)) o l
  finds o [] a r p k wa wr = tt
  finds o (came x ∷ l) a r p k wa wr =
      let s : (a ++ (x ∷ [])) ++ (arrived l ++ r) ≡ a ++ (x ∷ (arrived l ++ r)) = append_snoc a x (arrived l ++ r) in
      let w = within_append base 0 (suc o) a (x ∷ []) (wider base 0 o 0 (suc o) a (omega arith) (omega arith) wa) (record { place = o; is = p.0; low = omega arith; high = omega arith }, tt) in (
        find_skip (has_tsn (tsn_at base o)) a (x ∷ (arrived l ++ r)) (below base 0 o o a (omega arith) (omega arith) wa).1 ∙ find-here o x (arrived l ++ r) p.0,
        rw s at (finds (suc o) l (a ++ (x ∷ [])) r p.1 (omega arith) w (wider base (o + suc (length l)) (2 ^ 31) (suc o + length l) (2 ^ 31) r (omega arith) (omega arith) wr)),
      )
  finds o (due x ∷ l) a r p k wa wr =
      let w = places_within base (suc o) l p.1 in
      let n = is-append (has_tsn (tsn_at base o)) false (arrived l) r (above base (suc o) (suc o + length l) o (arrived l) (omega arith) (omega arith) w).1 (above base (o + suc (length l)) (2 ^ 31) o r (omega arith) (omega arith) wr).1 in (
        find_skip (has_tsn (tsn_at base o)) a (arrived l ++ r) (below base 0 o o a (omega arith) (omega arith) wa).1 ∙ find_none (has_tsn (tsn_at base o)) (arrived l ++ r) n,
        finds (suc o) l a r p.1 (omega arith) (wider base 0 o 0 (suc o) a (omega arith) (omega arith) wa) (wider base (o + suc (length l)) (2 ^ 31) (suc o + length l) (2 ^ 31) r (omega arith) (omega arith) wr),
      )

  -- ── the run up, and the run down ──

  module _ (p : ℕ) where
    up_chain : (h : List Frag) (o : ℕ) (l : List Mark) → Later base o p (all_of l) → Finds h o l → Chain (next 32) ends h (tsn_at base o) l
    up_chain h o [] k f = tt
    up_chain h o (came x ∷ l) k f = (f.0, k.0.end, rw (next-at base o) (up_chain h (suc o) l k.1 f.1))
    up_chain h o (due x ∷ l) k f = (f.0, k.0.end, rw (next-at base o) (up_chain h (suc o) l k.1 f.1))

  abbrev back : List Mark → List Mark → List Mark
  back [] acc = acc
  back (m ∷ l) acc = back l (m ∷ acc)

  back-size : (u acc : List Mark) → size (arrived (back u acc)) ≡ size (arrived u) + size (arrived acc)
  unfolding size
  back-size [] acc = omega arith
  back-size (came x ∷ u) acc = let h = back-size u (came x ∷ acc) in omega arith
  back-size (due x ∷ u) acc = back-size u (due x ∷ acc)

  back-cons : (u : List Mark) (a : Mark) (acc : List Mark) → (m : Mark) × (l : List Mark) × (back u (a ∷ acc) ≡ m ∷ l)
  back-cons [] a acc = (a, acc, refl)
  back-cons (m ∷ u) a acc = back-cons u m (a ∷ acc)

  module _ (p : ℕ) (h : List Frag) where
    finds_split : (o : ℕ) (u w : List Mark) → Finds h o (u ++ w) → Finds h o u × Finds h (o + length u) w
    finds_split o [] w k = let e : o + 0 ≡ o = omega arith in (tt, rw e k)
    finds_split o (m ∷ u) w k = let e : o + suc (length u) ≡ suc o + length u = omega arith in let s = finds_split (suc o) u w k.1 in ((k.0, s.0), rw e s.1)

    -- the chain that goes down: with the next mark at its front
    chain_cons : (o : ℕ) (m a : Mark) (acc : List Mark) → begins (frag_of_mark m) ≡ false → find (has_tsn (tsn_at base o)) h ≡ want m
        → Chain previous begins h (previous (tsn_at base o)) (a ∷ acc) → Chain previous begins h (previous (tsn_at base (suc o))) (m ∷ a ∷ acc)
    chain_cons o m a acc b f c = (rw (previous-at base o) f, b ∙ sym (null_is a acc), rw (previous-at base o) c)

    down_chain : (o : ℕ) (u w : List Mark) (a : Mark) (acc : List Mark) → Later base o p (all_of (u ++ w)) → Finds h o u
        → Chain previous begins h (previous (tsn_at base o)) (a ∷ acc) → Chain previous begins h (previous (tsn_at base (o + length u))) (back u (a ∷ acc))
    down_chain o [] w a acc k f c = let e : o + 0 ≡ o = omega arith in rw e c
    down_chain o (came x ∷ u) w a acc k f c =
        let e : o + suc (length u) ≡ suc o + length u = omega arith in
        rw e (down_chain (suc o) u w (came x) (a ∷ acc) k.1 f.1 (chain_cons o (came x) a acc k.0.begin f.0 c))
    down_chain o (due x ∷ u) w a acc k f c =
        let e : o + suc (length u) ≡ suc o + length u = omega arith in
        rw e (down_chain (suc o) u w (due x) (a ∷ acc) k.1 f.1 (chain_cons o (due x) a acc k.0.begin f.0 c))

    cond-le : (t : Bool) (n m : ℕ) → n ≤ m → cond t 0 n ≤ m
    cond-le true n m k = omega arith
    cond-le false n m k = k

    cond-zero : (t : Bool) (n m : ℕ) → t ≡ true → cond t 0 n ≤ m
    cond-zero t n m e = rw e (omega arith)

    first_chain : (o : ℕ) (m : Mark) → begins (frag_of_mark m) ≡ true → find (has_tsn (tsn_at base o)) h ≡ want m → Chain previous begins h (previous (tsn_at base (suc o))) (m ∷ [])
    first_chain o m b f = (rw (previous-at base o) f, b, tt)

    module _ (n : ℕ) (f : Frag) (v : List Mark) where
      down_run : (o : ℕ) (m : Mark) (u : List Mark) → begins (frag_of_mark m) ≡ true → Later base (suc o) p (all_of (u ++ due f ∷ v)) → Finds h o (m ∷ u)
          → run previous begins n (previous (tsn_at base (o + suc (length u)))) h ≤ size (arrived (m ∷ u))
      down_run o m u b k g =
          let e : o + suc (length u) ≡ suc o + length u = omega arith in
          let c = down_chain (suc o) u (due f ∷ v) m [] k g.1 (first_chain o m b g.0) in
          let (x, l, z) = back-cons u m [] in
          let r = run_small previous begins h n (previous (tsn_at base (suc o + length u))) x l (rw z at c) in
          let s = back-size u (m ∷ []) in
          let t : size (arrived (m ∷ u)) ≡ size (arrived u) + size (arrived (m ∷ [])) = arrived-cons m u in
          rw e (omega (arith, ap (λ (q : List Mark). size (arrived q)) z))

      down_part : (o t : ℕ) (u : List Mark) → t ≡ tsn_at base (o + length u) → Cut base o p (all_of (u ++ due f ∷ v)) → Finds h o u
          → cond (begins f) 0 (run previous begins n (previous t) h) ≤ size (arrived u)
      down_part o t [] e k g = cond-zero (begins f) (run previous begins n (previous t) h) (size []) k.0.begin
      down_part o t (came x ∷ u) e k g = cond-le (begins f) (run previous begins n (previous t) h) (size (arrived (came x ∷ u))) (rw e (down_run o (came x) u k.0.begin k.1 g))
      down_part o t (due x ∷ u) e k g = cond-le (begins f) (run previous begins n (previous t) h) (size (arrived (due x ∷ u))) (rw e (down_run o (due x) u k.0.begin k.1 g))

    up_part : (n o t : ℕ) (f : Frag) (v : List Mark) → t ≡ tsn_at base o → ends f ≡ null (all_of v) → Later base (suc o) p (all_of v) → Finds h (suc o) v
        → cond (ends f) 0 (run (next 32) ends n (next 32 t) h) ≤ size (arrived v)
    up_part n o t f [] e z k g = cond-zero (ends f) (run (next 32) ends n (next 32 t) h) (size []) z
    up_part n o t f (m ∷ v) e z k g =
        cond-le (ends f) (run (next 32) ends n (next 32 t) h) (size (arrived (m ∷ v)))
        (rw (e, next-at base o) (run_small (next 32) ends h n (tsn_at base (suc o)) m v (up_chain p h (suc o) (m ∷ v) k g)))

  -- the size rule: no more than the message
  pub reach_small : (p o : ℕ) (u : List Mark) (f : Frag) (v : List Mark) (a r : List Frag) → Cut base o p (all_of (u ++ due f ∷ v))
      → o + length (u ++ due f ∷ v) ≤ 2 ^ 31 → Within base 0 o a → Within base (o + length (u ++ due f ∷ v)) (2 ^ 31) r
      → reach f (a ++ (arrived (u ++ due f ∷ v) ++ r)) ≤ size (all_of (u ++ due f ∷ v))
  unfolding reach size
  reach_small p o u f v a r k arc wa wr =
      let h = a ++ (arrived (u ++ due f ∷ v) ++ r) in
      let g = finds_split p h o u (due f ∷ v) (finds o (u ++ due f ∷ v) a r (places_cut base p o (u ++ due f ∷ v) k) arc wa wr) in
      let s = split base p o u f v k in
      let d = down_part p h (length h) f v o f.tsn u s.0 k g.0 in
      let c = up_part p h (length h) (o + length u) f.tsn f v s.0 s.1 s.3 g.1.1 in
      let z : size (all_of (u ++ due f ∷ v)) ≡ size (all_of u) + (length f.bytes + size (all_of v)) = ap size (all_append u (due f ∷ v)) ∙ size-append (all_of u) (f ∷ all_of v) in
      omega (arith, arrived_small u, arrived_small v)
