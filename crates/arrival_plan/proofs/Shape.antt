-- A message of which some fragments came and others are due: what its marks and places say.
-- Assumes nothing.
use mathlib.Core.Path.{◌≡◌, refl, ap}
use mathlib.Core.Bool.{true, false}
use mathlib.Core.List.{List, [], ◌∷◌, ◌++◌}
use mathlib.Core.Logic.{◌⊎◌, inl, inr}
use Prim.Native.Nat.{ℕ, suc, ◌+◌, ◌^◌, ◌<◌, ◌≤◌}
use native.Mathlib.Omega.{arith}
use lib.ListN.{length}
use Rattle.serial_model.specs.Serial.{next}
use Rattle.fragments.specs.Frag.{Frag, begins, ends, has_tsn, tsn_before}
use Rattle.fragments.specs.Words.{size}
use Rattle.fragment_sets.specs.Sets.{rises, complete}
use Rattle.arrival_plan.specs.Plan.{tsn_at, null, Later, Cut}
use Rattle.arrival_plan.proofs.Lists.{and_both, and_first, and_last, Is}
use Rattle.arrival_plan.proofs.Numbers.{tsn-lt, tsn_ge, tsn_other, tsn-same, next-at}

-- ── marks ──

pub data Mark : Type 0 where
  came : Frag → Mark
  due : Frag → Mark

abbrev pub frag_of_mark : Mark → Frag
frag_of_mark (came x) = x
frag_of_mark (due x) = x

abbrev pub all_of : List Mark → List Frag
all_of [] = []
all_of (came x ∷ l) = x ∷ all_of l
all_of (due x ∷ l) = x ∷ all_of l

abbrev pub arrived : List Mark → List Frag
arrived [] = []
arrived (came x ∷ l) = x ∷ arrived l
arrived (due x ∷ l) = arrived l

abbrev pub missing : List Mark → List Frag
missing [] = []
missing (came x ∷ l) = missing l
missing (due x ∷ l) = x ∷ missing l

-- none is due; one is
abbrev pub Done : List Mark → Type 0
Done [] = Unit {0}
Done (came x ∷ l) = Done l
Done (due x ∷ l) = ⊥

abbrev pub Open : List Mark → Type 0
Open [] = ⊥
Open (came x ∷ l) = Open l
Open (due x ∷ l) = Unit {0}

pub done_or_open : (l : List Mark) → Done l ⊎ Open l
done_or_open [] = inl tt
done_or_open (came x ∷ l) = done_or_open l
done_or_open (due x ∷ l) = inr tt

pub done_all : (l : List Mark) → Done l → arrived l ≡ all_of l
done_all [] d = refl
done_all (came x ∷ l) d = ap (λ (r : List Frag). x ∷ r) (done_all l d)
done_all (due x ∷ l) d = absurd d

pub done-missing : (l : List Mark) → Done l → missing l ≡ []
done-missing [] d = refl
done-missing (came x ∷ l) d = done-missing l d
done-missing (due x ∷ l) d = absurd d

pub all_append : (u v : List Mark) → all_of (u ++ v) ≡ all_of u ++ all_of v
all_append [] v = refl
all_append (came x ∷ u) v = ap (λ (r : List Frag). x ∷ r) (all_append u v)
all_append (due x ∷ u) v = ap (λ (r : List Frag). x ∷ r) (all_append u v)

pub arrived-append : (u v : List Mark) → arrived (u ++ v) ≡ arrived u ++ arrived v
arrived-append [] v = refl
arrived-append (came x ∷ u) v = ap (λ (r : List Frag). x ∷ r) (arrived-append u v)
arrived-append (due x ∷ u) v = arrived-append u v

pub arrived_small : (l : List Mark) → size (arrived l) ≤ size (all_of l)
unfolding size
arrived_small [] = omega arith
arrived_small (came x ∷ l) = let h = arrived_small l in omega arith
arrived_small (due x ∷ l) = let h = arrived_small l in omega arith

pub length-all : (l : List Mark) → length (all_of l) ≡ length l
length-all [] = refl
length-all (came x ∷ l) = ap suc (length-all l)
length-all (due x ∷ l) = ap suc (length-all l)

-- ── places: from a up to b ──

pub record Inside (base a b : ℕ) (x : Frag) : Type 0 where
  pub place : ℕ
  pub is : x.tsn ≡ tsn_at base place
  pub low : a ≤ place
  pub high : place < b

abbrev pub Within : ℕ → ℕ → ℕ → List Frag → Type 0
Within base a b [] = Unit {0}
Within base a b (x ∷ l) = Inside base a b x × Within base a b l

module _ (base : ℕ) where
  pub within_append : (a b : ℕ) (l r : List Frag) → Within base a b l → Within base a b r → Within base a b (l ++ r)
  within_append a b [] r h k = k
  within_append a b (x ∷ l) r h k = (h.0, within_append a b l r h.1 k)

  pub wider : (a b c d : ℕ) (l : List Frag) → c ≤ a → b ≤ d → Within base a b l → Within base c d l
  wider a b c d [] h k w = tt
  wider a b c d (x ∷ l) h k w = (record { place = w.0.place; is = w.0.is; low = omega arith; high = omega arith }, wider a b c d l h k w.1)

  pub below : (a b c : ℕ) (l : List Frag) → b ≤ c → c < 2 ^ 31 → Within base a b l
      → Is (tsn_before (tsn_at base c)) true l × Is (has_tsn (tsn_at base c)) false l
  below a b c [] h k w = (tt, tt)
  below a b c (x ∷ l) h k w =
      let i = w.0 in
      let r = below a b c l h k w.1 in
      ((rw i.is (tsn-lt base i.place c (omega arith) k), r.0), (rw i.is (tsn_other base i.place c (omega arith) (omega arith) k), r.1))

  pub above : (a b c : ℕ) (l : List Frag) → c < a → b ≤ 2 ^ 31 → Within base a b l
      → Is (tsn_before (tsn_at base c)) false l × Is (has_tsn (tsn_at base c)) false l
  above a b c [] h k w = (tt, tt)
  above a b c (x ∷ l) h k w =
      let i = w.0 in
      let r = above a b c l h k w.1 in
      ((rw i.is (tsn_ge base i.place c (omega arith) (omega arith)), r.0), (rw i.is (tsn_other base i.place c (omega arith) (omega arith) (omega arith)), r.1))

  -- marks at places from o on
  abbrev pub Places : ℕ → List Mark → Type 0
  Places o [] = Unit {0}
  Places o (m ∷ l) = ((frag_of_mark m).tsn ≡ tsn_at base o) × Places (suc o) l

  pub places_within : (o : ℕ) (l : List Mark) → Places o l → Within base o (o + length l) (arrived l)
  places_within o [] h = tt
  places_within o (came x ∷ l) h =
      (record { place = o; is = h.0; low = omega arith; high = omega arith }, wider (suc o) (suc o + length l) o (o + suc (length l)) (arrived l) (omega arith) (omega arith) (places_within (suc o) l h.1))
  places_within o (due x ∷ l) h = wider (suc o) (suc o + length l) o (o + suc (length l)) (arrived l) (omega arith) (omega arith) (places_within (suc o) l h.1)

  places_front : (o : ℕ) (u w : List Mark) → Places o (u ++ w) → Places o u
  places_front o [] w h = tt
  places_front o (m ∷ u) w h = (h.0, places_front (suc o) u w h.1)

  module _ (p : ℕ) where
    places_later : (o : ℕ) (l : List Mark) → Later base o p (all_of l) → Places o l
    places_later o [] h = tt
    places_later o (came x ∷ l) h = (h.0.tsn, places_later (suc o) l h.1)
    places_later o (due x ∷ l) h = (h.0.tsn, places_later (suc o) l h.1)

    pub places_cut : (o : ℕ) (l : List Mark) → Cut base o p (all_of l) → Places o l
    places_cut o [] h = tt
    places_cut o (came x ∷ l) h = (h.0.tsn, places_later (suc o) l h.1)
    places_cut o (due x ∷ l) h = (h.0.tsn, places_later (suc o) l h.1)

    -- ── where one that is due stands ──

    later-split : (o : ℕ) (u w : List Mark) → Later base o p (all_of (u ++ w)) → Later base (o + length u) p (all_of w)
    later-split o [] w k = let e : o + 0 ≡ o = omega arith in rw e k
    later-split o (came x ∷ u) w k = let e : o + suc (length u) ≡ suc o + length u = omega arith in rw e (later-split (suc o) u w k.1)
    later-split o (due x ∷ u) w k = let e : o + suc (length u) ≡ suc o + length u = omega arith in rw e (later-split (suc o) u w k.1)

    pub split : (o : ℕ) (u : List Mark) (f : Frag) (v : List Mark) → Cut base o p (all_of (u ++ due f ∷ v))
        → (f.tsn ≡ tsn_at base (o + length u)) × (ends f ≡ null (all_of v)) × (f.ppi ≡ p) × Later base (suc (o + length u)) p (all_of v)
    split o [] f v k = let e : o + 0 ≡ o = omega arith in (rw e k.0.tsn, k.0.end, k.0.ppi, rw e k.1)
    split o (came x ∷ u) f v k =
        let e : o + suc (length u) ≡ suc o + length u = omega arith in
        let s = later-split (suc o) u (due f ∷ v) k.1 in
        (rw e s.0.tsn, s.0.end, s.0.ppi, rw e s.1)
    split o (due x ∷ u) f v k =
        let e : o + suc (length u) ≡ suc o + length u = omega arith in
        let s = later-split (suc o) u (due f ∷ v) k.1 in
        (rw e s.0.tsn, s.0.end, s.0.ppi, rw e s.1)

    -- those that came before it, and after it
    pub around : (o : ℕ) (u : List Mark) (f : Frag) (v : List Mark) → Cut base o p (all_of (u ++ due f ∷ v))
        → Within base o (o + length u) (arrived u) × Within base (suc (o + length u)) (suc (o + length u) + length v) (arrived v)
    around o u f v k = (
      places_within o u (places_front o u (due f ∷ v) (places_cut o (u ++ due f ∷ v) k)),
      places_within (suc (o + length u)) v (places_later (suc (o + length u)) v (split o u f v k).3),
    )

-- ── complete, exactly when all came ──

-- nothing that came is the next
rises-gap : (x : Frag) (l : List Frag) → ends x ≡ false → Is (has_tsn (next 32 x.tsn)) false l → rises x l ≡ false
unfolding rises
rises-gap x [] e h = e
rises-gap x (y ∷ l) e h = rw h.0

module _ (base p : ℕ) where
  -- what comes after place o
  pub after-gap : (o : ℕ) (x : Frag) (l : List Mark) → x.tsn ≡ tsn_at base o → suc o + length l < 2 ^ 31 → Later base (suc (suc o)) p (all_of l)
      → Is (has_tsn (next 32 x.tsn)) false (arrived l)
  after-gap o x l e h k =
      rw (e, next-at base o) (above base (suc (suc o)) (suc (suc o) + length l) (suc o) (arrived l) (omega arith) (omega arith) (places_within base (suc (suc o)) l (places_later base p (suc (suc o)) l k))).1

  pub next-is : (o : ℕ) (x y : Frag) → x.tsn ≡ tsn_at base o → y.tsn ≡ tsn_at base (suc o) → has_tsn (next 32 x.tsn) y ≡ true
  next-is o x y t e = rw (e, t, next-at base o) (tsn-same base (suc o))

  rises-done : (o : ℕ) (x : Frag) (l : List Mark) → x.tsn ≡ tsn_at base o → ends x ≡ null (all_of l) → Later base (suc o) p (all_of l)
      → Done l → rises x (arrived l) ≡ true
  unfolding rises
  rises-done o x [] t e h d = e
  rises-done o x (came y ∷ l) t e h d =
      and_both (next-is o x y t h.0.tsn) (rises-done (suc o) y l h.0.tsn h.0.end h.1 d)
  rises-done o x (due y ∷ l) t e h d = absurd d

  rises_open : (o : ℕ) (x : Frag) (l : List Mark) → x.tsn ≡ tsn_at base o → ends x ≡ null (all_of l) → Later base (suc o) p (all_of l)
      → o + length l < 2 ^ 31 → Open l → rises x (arrived l) ≡ false
  unfolding rises
  rises_open o x [] t e h k d = absurd d
  rises_open o x (came y ∷ l) t e h k d = and_last (has_tsn (next 32 x.tsn) y) (rises_open (suc o) y l h.0.tsn h.0.end h.1 (omega arith) d)
  rises_open o x (due y ∷ l) t e h k d = rises-gap x (arrived l) e (after-gap o x l t (omega arith) h.1)

  later_none : (o : ℕ) (l : List Mark) → Later base o p (all_of l) → complete (arrived l) ≡ false
  unfolding complete
  later_none o [] h = refl
  later_none o (came x ∷ l) h = and_first (rises x (arrived l)) h.0.begin
  later_none o (due x ∷ l) h = later_none (suc o) l h.1

  pub complete-done : (o : ℕ) (l : List Mark) → Cut base o p (all_of l) → Done l → complete (arrived l) ≡ true
  unfolding complete
  complete-done o [] h d = absurd h
  complete-done o (came x ∷ l) h d = and_both h.0.begin (rises-done o x l h.0.tsn h.0.end h.1 d)
  complete-done o (due x ∷ l) h d = absurd d

  pub complete_open : (o : ℕ) (l : List Mark) → Cut base o p (all_of l) → o + length l ≤ 2 ^ 31 → Open l → complete (arrived l) ≡ false
  unfolding complete
  complete_open o [] h k d = absurd h
  complete_open o (came x ∷ l) h k d = and_last (begins x) (rises_open o x l h.0.tsn h.0.end h.1 (omega arith) d)
  complete_open o (due x ∷ l) h k d = later_none (suc o) l h.1
