-- Held records before and after a call: which pairs of TSNs stay, and what a new one changes; so TSNs stay distinct, and in an arc's order.
-- Assumes nothing.
use mathlib.Core.Path.{◌≡◌, refl, sym, ◌∙◌}
use mathlib.Core.Bool.{Bool, true, false, ◌||◌, cond, true≢false}
use mathlib.Core.Logic.{◌↔◌, ⊎_elim}
use mathlib.Core.List.Memᴰ
use mathlib.Core.List.{List, [], ◌∷◌, ◌++◌, map-append, Memᴰ}
use Prim.Native.Nat.{ℕ, zero, suc, ◌^◌, ◌<◌}
use native.Mathlib.Omega.{arith}
use native.Mathlib.Decide.{dec_le}
use lib.Dec.{eqb}
use lib.ListN.{take, drop, take-append-drop}
use borrow.Author.Tests.{eqb-false, lt-ltb}
use Rattle.serial_model.specs.Serial.{ahead, before}
use Rattle.serial_model.specs.Facts.{before-is, before_true}
use Rattle.moves_model.specs.Lists.{put}
use Rattle.table.specs.Rows.{some, up_to_last, kept, has_tsn, tsn_before}
use Rattle.table.specs.declared.Row.{Row}
use Rattle.gap_model.specs.Gap.{tsns_of}
use Rattle.gap_model.specs.Report.{InArc, Ordered}
use Rattle.payload_model.specs.Run.{Pairwise, Distinct}
use Rattle.payload_model.proofs.Laws.{either}

-- ── one change ──

-- what held of each pair of TSNs still does
abbrev pub Less : List Row → List Row → Type 1
Less rs rs' = (R : ℕ → ℕ → Type 0) → Pairwise R (tsns_of rs) → Pairwise R (tsns_of rs')

-- a record came whose TSN was not there, to its place
pub record More (rs rs' : List Row) : Type 0 where
  pub new : Row
  pub fresh : some (has_tsn new.tsn) rs ≡ false
  pub is : rs' ≡ put (up_to_last (tsn_before new.tsn) rs) (new ∷ []) rs

-- ── records taken out ──

kept_mem : (p : Row → Bool) (rs : List Row) {u : ℕ} → Memᴰ u (tsns_of (kept p rs)) → Memᴰ u (tsns_of rs)
unfolding kept
kept_mem p [] m = m
kept_mem p (r ∷ rs) {u} m = go (p r) (λ i. kept_mem p rs i) m
  where
    go :
        (b : Bool) → (Memᴰ u (tsns_of (kept p rs)) → Memᴰ u (tsns_of rs)) → Memᴰ u (tsns_of (cond b (r ∷ kept p rs) (kept p rs))) →
        Memᴰ u (tsns_of (r ∷ rs))
    go true h n = ⊎_elim (λ e. Memᴰ.head e) (λ i. Memᴰ.tail (h i)) (Memᴰ.cases_cons n)
    go false h n = Memᴰ.tail (h n)

pub kept_less : (p : Row → Bool) (rs : List Row) → Less rs (kept p rs)
unfolding kept
kept_less p [] R a = a
kept_less p (r ∷ rs) R a = go (p r) (kept_less p rs R a.1)
  where
    go : (b : Bool) → Pairwise R (tsns_of (kept p rs)) → Pairwise R (tsns_of (cond b (r ∷ kept p rs) (kept p rs)))
    go true h = (λ u m. a.0 u (kept_mem p rs m), h)
    go false h = h

pub tail_less : (rs : List Row) → Less rs (drop 1 rs)
tail_less [] R a = a
tail_less (r ∷ rs) R a = a.1

-- ── a record put in ──

-- the TSNs are the old ones and the new one
put_mem : (r : Row) (n : ℕ) (rs : List Row) (u : ℕ) → Memᴰ u (tsns_of (put n (r ∷ []) rs)) ↔ Memᴰ u (tsns_of (r ∷ rs))
unfolding put
put_mem r zero rs u = (λ m. m, λ m. m)
put_mem r (suc n) [] u = (λ m. m, λ m. m)
put_mem r (suc n) (x ∷ rs) u = (
  λ m. ⊎_elim
      (λ e. Memᴰ.tail (Memᴰ.head e))
      (λ i. ⊎_elim (λ e. Memᴰ.head e) (λ j. Memᴰ.tail (Memᴰ.tail j)) (Memᴰ.cases_cons ((put_mem r n rs u).0 i)))
      (Memᴰ.cases_cons m),
  λ m. ⊎_elim
      (λ e. Memᴰ.tail ((put_mem r n rs u).1 (Memᴰ.head e)))
      (λ i. ⊎_elim (λ e. Memᴰ.head e) (λ j. Memᴰ.tail ((put_mem r n rs u).1 (Memᴰ.tail j))) (Memᴰ.cases_cons i))
      (Memᴰ.cases_cons m),
)

-- it stands to the others as it should: so do all pairs
put-pairs :
    (R : ℕ → ℕ → Type 0) (r : Row) (n : ℕ) (rs : List Row) → Pairwise R (tsns_of rs) →
    ((u : ℕ) → Memᴰ u (tsns_of (take n rs)) → R u r.tsn) → ((u : ℕ) → Memᴰ u (tsns_of (drop n rs)) → R r.tsn u) →
    Pairwise R (tsns_of (put n (r ∷ []) rs))
unfolding put
put-pairs R r zero rs a front back = (back, a)
put-pairs R r (suc n) [] a front back = (back, a)
put-pairs R r (suc n) (x ∷ rs) a front back = (
  λ u m. ⊎_elim (λ e. rw e (front x.tsn (Memᴰ.head refl))) (λ i. a.0 u i) (Memᴰ.cases_cons ((put_mem r n rs u).0 m)),
  put-pairs R r n rs a.1 (λ u m. front u (Memᴰ.tail m)) back,
)

module _ (n : ℕ) (rs : List Row) where
  parts : tsns_of (take n rs) ++ tsns_of (drop n rs) ≡ tsns_of rs
  parts = rw (← (map-append (λ (r : Row). r.tsn) (take n rs) (drop n rs)), take-append-drop)

  in_front : {u : ℕ} → Memᴰ u (tsns_of (take n rs)) → Memᴰ u (tsns_of rs)
  in_front m = rw parts at (Memᴰ.append_left (tsns_of (drop n rs)) m)

  behind : {u : ℕ} → Memᴰ u (tsns_of (drop n rs)) → Memᴰ u (tsns_of rs)
  behind m = rw parts at (Memᴰ.append_right (tsns_of (take n rs)) m)

-- ── tests on the TSNs of records ──

module _ (f : ℕ → Bool) where
  abbrev p : Row → Bool
  p r = f r.tsn

  none_does : (rs : List Row) → some p rs ≡ false → (u : ℕ) → Memᴰ u (tsns_of rs) → f u ≡ false
  unfolding some
  none_does [] e u m = absurd (Memᴰ.not-nil m)
  none_does (r ∷ rs) e u m =
      let d = either (f r.tsn) (some p rs) e in
      ⊎_elim (λ h. rw h d.0) (λ i. none_does rs d.1 u i) (Memᴰ.cases_cons m)

  one_does : (rs : List Row) → some p rs ≡ true → (u : ℕ) × Memᴰ u (tsns_of rs) × (f u ≡ true)
  unfolding some
  one_does [] e = absurd (true≢false (sym e))
  one_does (r ∷ rs) e = go (f r.tsn) refl e (λ d. one_does rs d)
    where
      go :
          (b : Bool) → f r.tsn ≡ b → b || some p rs ≡ true → (some p rs ≡ true → (u : ℕ) × Memᴰ u (tsns_of rs) × (f u ≡ true)) →
          (u : ℕ) × Memᴰ u (tsns_of (r ∷ rs)) × (f u ≡ true)
      go true h d k = (r.tsn, Memᴰ.head refl, h)
      go false h d k = let w = k d in (w.0, Memᴰ.tail w.1, w.2)

  -- behind the last that does none does
  last-back : (rs : List Row) (u : ℕ) → Memᴰ u (tsns_of (drop (up_to_last p rs) rs)) → f u ≡ false
  unfolding up_to_last
  last-back [] u m = absurd (Memᴰ.not-nil m)
  last-back (r ∷ rs) u m = go (some p rs) (f r.tsn) refl refl m (λ i. last-back rs u i)
    where
      go :
          (a b : Bool) → some p rs ≡ a → f r.tsn ≡ b → Memᴰ u (tsns_of (drop (cond a (suc (up_to_last p rs)) (cond b 1 0)) (r ∷ rs))) →
          (Memᴰ u (tsns_of (drop (up_to_last p rs) rs)) → f u ≡ false) → f u ≡ false
      go true b d e i k = k i
      go false true d e i k = none_does rs d u i
      go false false d e i k = ⊎_elim (λ h. rw h e) (λ j. none_does rs d u j) (Memᴰ.cases_cons i)

  -- ahead of it all do, where each does that stands before one that does
  last-front : (rs : List Row) → Pairwise (λ t u. f u ≡ true → f t ≡ true) (tsns_of rs) → (u : ℕ) → Memᴰ u (tsns_of (take (up_to_last p rs) rs)) → f u ≡ true
  unfolding up_to_last
  last-front [] a u m = absurd (Memᴰ.not-nil m)
  last-front (r ∷ rs) a u m = go (some p rs) (f r.tsn) refl refl m (λ i. last-front rs a.1 u i)
    where
      go :
          (b c : Bool) → some p rs ≡ b → f r.tsn ≡ c → Memᴰ u (tsns_of (take (cond b (suc (up_to_last p rs)) (cond c 1 0)) (r ∷ rs))) →
          (Memᴰ u (tsns_of (take (up_to_last p rs) rs)) → f u ≡ true) → f u ≡ true
      go true c d e i k =
          let w = one_does rs d in
          ⊎_elim (λ h. rw h (a.0 w.0 w.1 w.2)) k (Memᴰ.cases_cons i)
      go false true d e i k = ⊎_elim (λ h. rw h e) (λ j. absurd (Memᴰ.not-nil j)) (Memᴰ.cases_cons i)
      go false false d e i k = absurd (Memᴰ.not-nil i)

-- ── distinct TSNs ──

-- a TSN that comes was not there
absent : {rs rs' : List Row} (m : More rs rs') (u : ℕ) → Memᴰ u (tsns_of rs) → u ≡ m.new.tsn → ⊥
absent {rs} m u i = eqb-false u m.new.tsn (none_does (λ u. eqb u m.new.tsn) rs m.fresh u i)

pub distinct_more : {rs rs' : List Row} → More rs rs' → Distinct (tsns_of rs) → Distinct (tsns_of rs')
distinct_more {rs} m a =
    let n = up_to_last (tsn_before m.new.tsn) rs in
    rw m.is (put-pairs (λ t u. t ≡ u → ⊥) m.new n rs a (λ u i. absent m u (in_front n rs i)) (λ u i e. absent m u (behind n rs i) (sym e)))

-- ── TSNs on an arc ──

-- each is before all that stand behind it: the order without an arc
abbrev pub Rising : List ℕ → Type 0
Rising ts = Pairwise (λ t u. before 32 t u ≡ true) ts

pairs-map :
    (R S : ℕ → ℕ → Type 0) (ts : List ℕ) → ((t u : ℕ) → Memᴰ t ts → Memᴰ u ts → R t u → S t u) → Pairwise R ts → Pairwise S ts
pairs-map R S [] h a = tt
pairs-map R S (t ∷ ts) h a = (
  λ u m. h t u (Memᴰ.head refl) (Memᴰ.tail m) (a.0 u m),
  pairs-map R S ts (λ v u i j. h v u (Memᴰ.tail i) (Memᴰ.tail j)) a.1,
)

-- on an arc, before is the order of the offsets, whatever number the base is
module _ (base : ℕ) (ts : List ℕ) (arc : InArc base ts) (t u : ℕ) (i : Memᴰ t ts) (j : Memᴰ u ts) where
  later : before 32 t u ≡ true → ahead 32 base t < ahead 32 base u
  unfolding ahead
  later e = let b = before_true 31 t u e in let x = arc t i in let y = arc u j in omega arith

  sooner : ahead 32 base t < ahead 32 base u → before 32 t u ≡ true
  unfolding ahead
  sooner h =
      let x = arc t i in
      let y = arc u j in
      rw (before-is 31 t u, lt-ltb 0 (ahead 32 t u) (omega arith), lt-ltb (ahead 32 t u) (2 ^ 31) (omega arith))

  -- of two one is before the other
  other : before 32 t u ≡ false → (t ≡ u → ⊥) → ahead 32 base u < ahead 32 base t
  unfolding ahead
  other e n = go (dec_le (suc (ahead 32 base u)) (ahead 32 base t))
    where
      go : Dec (ahead 32 base u < ahead 32 base t) → ahead 32 base u < ahead 32 base t
      go (yes h) = h
      go (no h) = let x = arc t i in let y = arc u j in absurd (true≢false (sym (sooner (omega arith)) ∙ e))

module _ (base : ℕ) {rs rs' : List Row} (m : More rs rs') (arc : InArc base (tsns_of rs')) (a : Rising (tsns_of rs)) where
  abbrev came : ℕ
  came = m.new.tsn

  abbrev place : ℕ
  place = up_to_last (tsn_before came) rs

  abbrev now : List ℕ
  now = came ∷ tsns_of rs

  on : InArc base now
  on u i = arc u (rw m.is ((put_mem m.new place rs u).1 i))

  here : Memᴰ came now
  here = Memᴰ.head refl

  -- what stands ahead of one that is before the new TSN is before it too
  closed : Pairwise (λ t u. before 32 u came ≡ true → before 32 t came ≡ true) (tsns_of rs)
  closed = pairs-map (λ t u. before 32 t u ≡ true) (λ t u. before 32 u came ≡ true → before 32 t came ≡ true) (tsns_of rs) go a
    where
      go :
          (t u : ℕ) → Memᴰ t (tsns_of rs) → Memᴰ u (tsns_of rs) →
          before 32 t u ≡ true → before 32 u came ≡ true → before 32 t came ≡ true
      go t u i j h k =
          let p = later base now on t u (Memᴰ.tail i) (Memᴰ.tail j) h in
          let q = later base now on u came (Memᴰ.tail j) here k in
          sooner base now on t came (Memᴰ.tail i) here (omega arith)

  -- what stands behind its place is after it
  after_it : (u : ℕ) → Memᴰ u (tsns_of (drop place rs)) → before 32 came u ≡ true
  after_it u i =
      let j = behind place rs i in
      sooner base now on came u here (Memᴰ.tail j)
      (other base now on u came (Memᴰ.tail j) here (last-back (λ u. before 32 u came) rs u i) (absent m u j))

  pub rising_more : Rising (tsns_of rs')
  rising_more = rw m.is (put-pairs (λ t u. before 32 t u ≡ true) m.new place rs a (last-front (λ u. before 32 u came) rs closed) after_it)

pub rising_ordered : (base : ℕ) (ts : List ℕ) → InArc base ts → Rising ts → Ordered base ts
rising_ordered base [] arc a = tt
rising_ordered base (t ∷ []) arc a = tt
rising_ordered base (t ∷ u ∷ ts) arc a = (
  later base (t ∷ u ∷ ts) arc t u (Memᴰ.head refl) (Memᴰ.tail (Memᴰ.head refl)) (a.0 u (Memᴰ.head refl)),
  rising_ordered base (u ∷ ts) (λ v m. arc v (Memᴰ.tail m)) a.1,
)
