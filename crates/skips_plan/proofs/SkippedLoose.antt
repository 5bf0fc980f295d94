-- An unordered skip: of the fragments held, those up to a place of the arc are lost, and nothing else changes.
-- Assumes nothing.
use mathlib.Core.Path.{◌≡◌, refl, sym, ap, subst, ◌∙◌}
use mathlib.Core.Bool.{Bool, true, false, not, cond}
use mathlib.Core.List.{List, [], ◌∷◌, ◌++◌, map}
use Prim.Native.Nat.{ℕ, suc, ◌+◌, ◌^◌, ◌<◌, ◌≤◌}
use native.Mathlib.Omega.{arith}
use lib.Dec.{leb}
use lib.ListN.{length}
use borrow.Author.Tests.{leb-true, leb-false, lt-leb}
use Rattle.fragments.specs.Frag.{Frag}
use Rattle.fragments.specs.Words.{past}
use Rattle.reassembly_state.specs.Model.{queue, not_after, skip_unordered}
use Rattle.arrival_plan.specs.Plan.{Msg, tsn_at, frags_of}
use Rattle.arrival_plan.proofs.Lists.{Is, past_stop, past_none}
use Rattle.arrival_plan.proofs.Numbers.{tsn-lt, tsn_ge}
use Rattle.arrival_plan.proofs.Shape.{all_of, arrived, Open, length-all, Places, Within, within_append, wider, places_within, places_cut}
use Rattle.arrival_plan.proofs.Loose.{Listed, held_of, Opens, uno_within}
use Rattle.arrival_plan.proofs.Maps.{Each}
use Rattle.skips_plan.proofs.Fates.{Fate, held, coming, lost, marks, pending, Safe, length-marks, Item, item, parts, msgs, all}
use Rattle.skips_plan.proofs.Runs.{Event, SkipUnordered, Frame, Place, waits, due, state, Sound, Good, Runs, by_skip_unordered}

-- ── what is lost ──

-- one that is held at place k, where places up to o are skipped
abbrev fallen : Bool → Frag → Fate
fallen up x = cond up (lost x) (held x)

abbrev pub lose : ℕ → ℕ → List Fate → List Fate
lose o k [] = []
lose o k (held x ∷ l) = fallen (leb k o) x ∷ lose o (suc k) l
lose o k (coming x ∷ l) = coming x ∷ lose o (suc k) l
lose o k (lost x ∷ l) = lost x ∷ lose o (suc k) l

abbrev pub loses : ℕ → Item → Item
loses o p = item p.first p.ppi (lose o p.first p.fates)

module _ (x : Frag) (l : List Fate) where
  fallen-pending : (up : Bool) → pending (fallen up x ∷ l) ≡ pending l
  fallen-pending true = refl
  fallen-pending false = refl

  fallen-all : (up : Bool) → all_of (marks (fallen up x ∷ l)) ≡ x ∷ all_of (marks l)
  fallen-all true = refl
  fallen-all false = refl

  fallen_open : (up : Bool) → Open (marks l) → Open (marks (fallen up x ∷ l))
  fallen_open true h = tt
  fallen_open false h = h

  fallen_safe : (up : Bool) → up ≡ false → Safe l → Safe (fallen up x ∷ l)
  fallen_safe up e h = rw e h

module _ (o : ℕ) where
  lose-pending : (k : ℕ) (l : List Fate) → pending (lose o k l) ≡ pending l
  lose-pending k [] = refl
  lose-pending k (held x ∷ l) = fallen-pending x (lose o (suc k) l) (leb k o) ∙ lose-pending (suc k) l
  lose-pending k (coming x ∷ l) = ap (λ (r : List Frag). x ∷ r) (lose-pending (suc k) l)
  lose-pending k (lost x ∷ l) = lose-pending (suc k) l

  lose-all : (k : ℕ) (l : List Fate) → all_of (marks (lose o k l)) ≡ all_of (marks l)
  lose-all k [] = refl
  lose-all k (held x ∷ l) = fallen-all x (lose o (suc k) l) (leb k o) ∙ ap (λ (r : List Frag). x ∷ r) (lose-all (suc k) l)
  lose-all k (coming x ∷ l) = ap (λ (r : List Frag). x ∷ r) (lose-all (suc k) l)
  lose-all k (lost x ∷ l) = ap (λ (r : List Frag). x ∷ r) (lose-all (suc k) l)

  lose_open : (k : ℕ) (l : List Fate) → Open (marks l) → Open (marks (lose o k l))
  lose_open k [] h = h
  lose_open k (held x ∷ l) h = fallen_open x (lose o (suc k) l) (leb k o) (lose_open (suc k) l h)
  lose_open k (coming x ∷ l) h = tt
  lose_open k (lost x ∷ l) h = tt

  -- behind place o nothing is lost
  lose_safe : (k : ℕ) (l : List Fate) → o < k → Safe l → Safe (lose o k l)
  lose_safe k [] h s = tt
  lose_safe k (held x ∷ l) h s = fallen_safe x (lose o (suc k) l) (leb k o) (lt-leb k o h) (lose_safe (suc k) l (omega arith) s)
  lose_safe k (coming x ∷ l) h s = lose_safe (suc k) l (omega arith) s
  lose_safe k (lost x ∷ l) h s = s

-- ── the list from its first one behind place o ──

module _ (base o : ℕ) (h : o < 2 ^ 31) where
  abbrev up_to : Frag → Bool
  up_to x = not_after (tsn_at base o) x

  is_up : (k : ℕ) (x : Frag) → x.tsn ≡ tsn_at base k → k ≤ o → up_to x ≡ true
  is_up k x e l = rw e (ap not (tsn_ge base o k l h))

  is-behind : (k : ℕ) (x : Frag) → x.tsn ≡ tsn_at base k → o < k → k < 2 ^ 31 → up_to x ≡ false
  is-behind k x e l b = rw e (ap not (tsn-lt base o k l b))

  behind : (k : ℕ) (l : List Frag) → o < k → Within base k (2 ^ 31) l → Is up_to false l
  behind k [] g w = tt
  behind k (x ∷ l) g w = (is-behind w.0.place x w.0.is (omega (arith, w.0.low)) w.0.high, behind k l g w.1)

  past_up : (x : Frag) (l : List Frag) → up_to x ≡ true → past up_to (x ∷ l) ≡ past up_to l
  unfolding past
  past_up x l e = rw e

  module _ (e : ℕ) (r : List Frag) (arc : e ≤ 2 ^ 31) (w : Within base e (2 ^ 31) r) where
    past_fates : (k : ℕ) (l : List Fate) → Places base k (marks l) → k + length l ≤ e
        → past up_to (arrived (marks l) ++ r) ≡ arrived (marks (lose o k l)) ++ past up_to r
    past_fates k [] p g = refl
    past_fates k (held x ∷ l) p g = go (leb k o) refl (past_fates (suc k) l p.1 (omega arith))
      where
        rest : o < k → Within base (suc k) (2 ^ 31) (arrived (marks l) ++ r)
        rest b =
            within_append base (suc k) (2 ^ 31) (arrived (marks l)) r
            (wider base (suc k) (suc k + length (marks l)) (suc k) (2 ^ 31) (arrived (marks l)) (omega arith) (omega (arith, length-marks l)) (places_within base (suc k) (marks l) p.1))
            (wider base e (2 ^ 31) (suc k) (2 ^ 31) r (omega arith) (omega arith) w)

        go : (t : Bool) → leb k o ≡ t → past up_to (arrived (marks l) ++ r) ≡ arrived (marks (lose o (suc k) l)) ++ past up_to r
            → past up_to (x ∷ (arrived (marks l) ++ r)) ≡ arrived (marks (fallen t x ∷ lose o (suc k) l)) ++ past up_to r
        go true b ih = past_up x (arrived (marks l) ++ r) (is_up k x p.0 (leb-true k o b)) ∙ ih
        go false b ih =
            let m = leb-false k o b in
            past_stop up_to x (arrived (marks l) ++ r) (is-behind k x p.0 (omega arith) (omega arith))
            ∙ ap (λ (s : List Frag). x ∷ s) (sym (past_none up_to (arrived (marks l) ++ r) (behind (suc k) (arrived (marks l) ++ r) (omega arith) (rest (omega arith)))) ∙ ih)
    past_fates k (coming x ∷ l) p g = past_fates (suc k) l p.1 (omega arith)
    past_fates k (lost x ∷ l) p g = past_fates (suc k) l p.1 (omega arith)

  module _ (max : ℕ) where
    past_items : (k : ℕ) (us : List Item) → Listed base max k (msgs us) → past up_to (held_of (parts us)) ≡ held_of (parts (map (loses o) us))
    unfolding past
    past_items k [] g = refl
    past_items k (p ∷ us) g =
        let l = marks p.fates in
        let e = p.first + length (all_of l) in
        past_fates e (held_of (parts us)) g.0.arc (uno_within base max e (parts us) g.2) p.first p.fates (places_cut base p.ppi p.first l g.0.cut)
        (omega (arith, length-all l, length-marks p.fates))
        ∙ ap (λ (r : List Frag). arrived (marks (lose o p.first p.fates)) ++ r) (past_items e us g.2)

-- ── the step ──

lose-msgs : (o : ℕ) (us : List Item) → msgs (map (loses o) us) ≡ msgs us
lose-msgs o [] = refl
lose-msgs o (p ∷ us) = λ i. ◌∷◌ (record { first = p.first; ppi = p.ppi; frags = lose-all o p.first p.fates i }) (lose-msgs o us i)

lose-due : (o : ℕ) (us : List Item) → all due (map (loses o) us) ≡ all due us
lose-due o [] = refl
lose-due o (p ∷ us) = λ i. lose-pending o p.first p.fates i ++ lose-due o us i

lose_opens : (o : ℕ) (us : List Item) → Opens (parts us) → Opens (parts (map (loses o) us))
lose_opens o [] h = tt
lose_opens o (p ∷ us) h = (lose_open o p.first p.fates h.0, lose_opens o us h.1)

lose_spared : (o places : ℕ) (us : List Item) → o < places → Each (λ (p : Item). places ≤ p.first → Safe p.fates) us
    → Each (λ (p : Item). places ≤ p.first → Safe p.fates) (map (loses o) us)
lose_spared o places [] k h = tt
lose_spared o places (p ∷ us) k h = (λ l. lose_safe o p.first p.fates (omega arith) (h.0 l), lose_spared o places us k h.1)

module _ (c : Frame) where
  pub skip_loose : (t : ℕ) → Place c.base c.places t → (es : List Event) → Runs c es → Runs c (SkipUnordered t ∷ es)
  unfolding skip_unordered
  skip_loose t a es ih early os us fin s far k =
      let o = a.place in
      let ls : List Item = map (loses o) us in
      let arc : o < 2 ^ 31 = omega (arith, a.low, c.arc) in
      let new : Sound c early os ls fin =
      record {
        few = s.few;
        known = s.known;
        ordered = s.ordered;
        settled = s.settled;
        safe = s.safe;
        unordered = rw (lose-msgs o us) s.unordered;
        opens = lose_opens o us s.opens;
        spared = lose_spared o c.places us a.low s.spared;
        cuts = s.cuts;
      } in
      let g = ih early os ls fin new far (rw (lose-due o us) k) in
      let q : skip_unordered (state c early os us fin) t ≡ state c early os ls fin =
      rw a.is (ap (λ (l : List Frag). queue c.si (length early) c.max (frags_of fin) l (state c early os us fin).ordered) (past_items c.base o arc c.max 0 us s.unordered)) in
      by_skip_unordered c es (waits 0 early) (length early) (msgs os) (msgs us) fin (state c early os us fin) t (state c early os ls fin) q
      (subst (λ (l : List Msg). Good c es (waits 0 early) (length early) (msgs os) l fin (state c early os ls fin)) (lose-msgs o us) g)
