-- The scan of the unordered fragments: it passes over messages of which a fragment is due, and finds the one that all came of.
-- Assumes nothing.
use mathlib.Core.Path.{◌≡◌, refl, sym, ap, ◌∙◌}
use mathlib.Core.Bool.{Bool, true, false, cond, not, ◌&&◌, and-false}
use mathlib.Core.List.{List, [], ◌∷◌, ◌++◌}
use Prim.Native.Nat.{ℕ, suc, ◌+◌, ◌^◌, ◌≤◌}
use native.Mathlib.Omega.{arith}
use lib.ListN.{length, length-append}
use lib.Dec.{ltb, eqb}
use lib.Seq.{append_snoc}
use borrow.Author.Tests.{lt-ltb, le-ltb}
use Rattle.serial_model.specs.Serial.{next}
use Rattle.fragments.specs.Frag.{Frag, begins, ends, has_tsn}
use Rattle.loose_fragments.specs.Loose.{span, starts_by, scan, scanned}
use Rattle.loose_fragments.specs.declared.Span.{Span}
use Rattle.arrival_plan.specs.Plan.{tsn_at, null, Later, Cut}
use Rattle.arrival_plan.proofs.Lists.{Is, and_both, and_first, and_last, is-append}
use Rattle.arrival_plan.proofs.Numbers.{next-at}
use Rattle.arrival_plan.proofs.Shape.{Mark, came, due, all_of, arrived, Done, Open, Within, above, after-gap, next-is}

-- what a scan finds: the message, and what stood before and after it
pub data Scan : Type 0 where
  nothing : Scan
  found : List Frag → List Frag → List Frag → Scan

-- x goes on where the run ended: there is one, and the TSN is its last's plus 1
abbrev follows : List Frag → Frag → Bool
follows [] x = false
follows (y ∷ []) x = has_tsn (next 32 y.tsn) x
follows (y ∷ z ∷ r) x = follows (z ∷ r) x

-- ── the scan by its result: from the first B whose run goes on to an E ──

abbrev pub behind : Frag → Scan → Scan
behind x nothing = nothing
behind x (found a m b) = found (x ∷ a) m b

abbrev pub grown : Frag → Scan → Scan
grown x nothing = nothing
grown x (found a m b) = found a (x ∷ m) b

abbrev pub orelse : Scan → Scan → Scan
orelse nothing s = s
orelse (found a m b) s = found a m b

-- a run from x on: it goes on by TSN ("a break in TSN forgets the start"), not over a B ("each B starts afresh"), to the first E
abbrev pub runs-from : Frag → List Frag → Scan
runs-from x [] = cond (ends x) (found [] (x ∷ []) []) nothing
runs-from x (y ∷ ys) = cond (ends x) (found [] (x ∷ []) (y ∷ ys)) (cond (not (begins y) && eqb y.tsn (next 32 x.tsn)) (grown x (runs-from y ys)) nothing)

-- "the first E reached" by a run that starts at a B
abbrev pub seek : List Frag → Scan
seek [] = nothing
seek (x ∷ xs) = orelse (cond (begins x) (runs-from x xs) nothing) (behind x (seek xs))

-- ── a run from a B ──

cond_same : {A : Type 0} (t : Bool) (a b : A) → b ≡ a → cond t b a ≡ a
cond_same true a b h = h
cond_same false a b h = refl

run-here : (x : Frag) (r : List Frag) → ends x ≡ true → runs-from x r ≡ found [] (x ∷ []) r
run-here x [] e = go (ends x) e
  where
    go : (t : Bool) → t ≡ true → cond t (found [] (x ∷ []) []) nothing ≡ found [] (x ∷ []) []
    go t e = rw e
run-here x (y ∷ r) e = go (ends x) e (cond (not (begins y) && has_tsn (next 32 x.tsn) y) (grown x (runs-from y r)) nothing)
  where
    go : (t : Bool) → t ≡ true → (s : Scan) → cond t (found [] (x ∷ []) (y ∷ r)) s ≡ found [] (x ∷ []) (y ∷ r)
    go t e s = rw e

-- not here: at the next, if that goes on
run_on : (x y : Frag) (r : List Frag) → ends x ≡ false → runs-from x (y ∷ r) ≡ cond (not (begins y) && has_tsn (next 32 x.tsn) y) (grown x (runs-from y r)) nothing
run_on x y r e = go (ends x) e (cond (not (begins y) && has_tsn (next 32 x.tsn) y) (grown x (runs-from y r)) nothing)
  where
    go : (t : Bool) → t ≡ false → (s : Scan) → cond t (found [] (x ∷ []) (y ∷ r)) s ≡ s
    go t e s = rw e

run-gap : (x : Frag) (l : List Frag) → ends x ≡ false → Is (has_tsn (next 32 x.tsn)) false l → runs-from x l ≡ nothing
run-gap x [] e h = go (ends x) e
  where
    go : (t : Bool) → t ≡ false → cond t (found [] (x ∷ []) []) nothing ≡ nothing
    go t e = rw e
run-gap x (y ∷ l) e h = run_on x y l e ∙ rw (and_last (not (begins y)) h.0)

-- ── what is passed over ──

abbrev pub passed : List Frag → Scan → Scan
passed [] s = s
passed (x ∷ l) s = behind x (passed l s)

pub passed-nothing : (l : List Frag) → passed l nothing ≡ nothing
passed-nothing [] = refl
passed-nothing (x ∷ l) = ap (λ (s : Scan). behind x s) (passed-nothing l)

pub passed_found : (l m b : List Frag) → passed l (found [] m b) ≡ found l m b
passed_found [] m b = refl
passed_found (x ∷ l) m b = ap (λ (s : Scan). behind x s) (passed_found l m b)

pub passed-append : (a b : List Frag) (s : Scan) → passed (a ++ b) s ≡ passed a (passed b s)
passed-append [] b s = refl
passed-append (x ∷ a) b s = ap (λ (t : Scan). behind x t) (passed-append a b s)

-- no B here
seek-on : (x : Frag) (l : List Frag) → begins x ≡ false → seek (x ∷ l) ≡ behind x (seek l)
seek-on x l e = go (begins x) e (runs-from x l) (behind x (seek l))
  where
    go : (t : Bool) → t ≡ false → (s r : Scan) → orelse (cond t s nothing) r ≡ r
    go t e s r = rw e

-- a B, whose run comes to nothing, or to something
seek_none : (x : Frag) (l : List Frag) → runs-from x l ≡ nothing → seek (x ∷ l) ≡ behind x (seek l)
seek_none x l e = ap (λ (s : Scan). orelse s (behind x (seek l))) (cond_same (begins x) nothing (runs-from x l) e)

seek-some : (x : Frag) (l m b : List Frag) → begins x ≡ true → runs-from x l ≡ found [] m b → seek (x ∷ l) ≡ found [] m b
seek-some x l m b e f = go (begins x) e (runs-from x l) f (behind x (seek l))
  where
    go : (t : Bool) → t ≡ true → (s : Scan) → s ≡ found [] m b → (r : Scan) → orelse (cond t s nothing) r ≡ found [] m b
    go t e s f r = rw (e, f)

-- ── the one pass comes to the same ──

-- a run under way: from z on, no B and no E, TSNs rise by 1
abbrev Going : Frag → List Frag → Type 0
Going z [] = ends z ≡ false
Going z (y ∷ r) = (ends z ≡ false) × (begins y ≡ false) × (has_tsn (next 32 z.tsn) y ≡ true) × Going y r

abbrev Live : List Frag → Type 0
Live [] = Unit {0}
Live (b ∷ r) = (begins b ≡ true) × Going b r

live_over : (z : Frag) (r l : List Frag) → Going z r → seek (r ++ l) ≡ passed r (seek l)
live_over z [] l g = refl
live_over z (y ∷ r) l g = seek-on y (r ++ l) g.1 ∙ ap (λ (s : Scan). behind y s) (live_over y r l g.3)

-- it breaks off
run-stop : (z : Frag) (r : List Frag) (x : Frag) (l : List Frag) → Going z r → not (begins x) && follows (z ∷ r) x ≡ false → runs-from z (r ++ x ∷ l) ≡ nothing
run-stop z [] x l g e = run_on z x l g ∙ rw e
run-stop z (y ∷ r) x l g e =
    run_on z y (r ++ x ∷ l) g.0
    ∙ cond_same (not (begins y) && has_tsn (next 32 z.tsn) y) nothing (grown z (runs-from y (r ++ x ∷ l))) (ap (λ (s : Scan). grown z s) (run-stop y r x l g.3 e))

live_stop : (r : List Frag) (x : Frag) (l : List Frag) → Live r → not (begins x) && follows r x ≡ false → seek (r ++ x ∷ l) ≡ passed r (seek (x ∷ l))
live_stop [] x l g e = refl
live_stop (b ∷ r) x l g e = seek_none b (r ++ x ∷ l) (run-stop b r x l g.1 e) ∙ ap (λ (s : Scan). behind b s) (live_over b r (x ∷ l) g.1)

run-over : (z : Frag) (r : List Frag) → Going z r → runs-from z (r ++ []) ≡ nothing
run-over z [] g = run-gap z [] g tt
run-over z (y ∷ r) g =
    run_on z y (r ++ []) g.0
    ∙ cond_same (not (begins y) && has_tsn (next 32 z.tsn) y) nothing (grown z (runs-from y (r ++ []))) (ap (λ (s : Scan). grown z s) (run-over y r g.3))

live_over_all : (r : List Frag) → Live r → seek (r ++ []) ≡ nothing
live_over_all [] g = refl
live_over_all (b ∷ r) g = seek_none b (r ++ []) (run-over b r g.1) ∙ ap (λ (s : Scan). behind b s) (live_over b r [] g.1 ∙ passed-nothing r)

-- it goes on, and comes to its E
run_at : (z : Frag) (r : List Frag) (x : Frag) (l : List Frag) → Going z r → begins x ≡ false → follows (z ∷ r) x ≡ true → ends x ≡ true
    → runs-from z (r ++ x ∷ l) ≡ found [] (z ∷ (r ++ (x ∷ []))) l
run_at z [] x l g b f e = run_on z x l g ∙ rw (and_both (ap not b) f) (ap (λ (s : Scan). grown z s) (run-here x l e))
run_at z (y ∷ r) x l g b f e = run_on z y (r ++ x ∷ l) g.0 ∙ rw (and_both (ap not g.1) g.2) (ap (λ (s : Scan). grown z s) (run_at y r x l g.3 b f e))

going_on : (z : Frag) (r : List Frag) (x : Frag) → Going z r → begins x ≡ false → follows (z ∷ r) x ≡ true → ends x ≡ false → Going z (r ++ (x ∷ []))
going_on z [] x g b f e = (g, b, f, e)
going_on z (y ∷ r) x g b f e = (g.0, g.1, g.2, going_on y r x g.3 b f e)

no_run : (x : Frag) → follows [] x ≡ true → ⊥
no_run x e = let z : ◌≡◌ {A = ℕ} 0 1 = cc in omega arith

live_at : (r : List Frag) (x : Frag) (l : List Frag) → Live r → begins x ≡ false → follows r x ≡ true → ends x ≡ true → seek (r ++ x ∷ l) ≡ found [] (r ++ (x ∷ [])) l
live_at [] x l g b f e = absurd (no_run x f)
live_at (z ∷ r) x l g b f e = seek-some z (r ++ x ∷ l) (z ∷ (r ++ (x ∷ []))) l g.0 (run_at z r x l g.1 b f e)

live_on : (r : List Frag) (x : Frag) → Live r → begins x ≡ false → follows r x ≡ true → ends x ≡ false → Live (r ++ (x ∷ []))
live_on [] x g b f e = absurd (no_run x f)
live_on (z ∷ r) x g b f e = (g.0, going_on z r x g.1 b f e)

-- where what was found stands
abbrev pub spanned : Scan → Span
spanned nothing = span 0 0
spanned (found a m b) = span (length a) (length a + length m)

-- the TSN with which the run goes on
abbrev Wants : ℕ → List Frag → Type 0
Wants want [] = Unit {0}
Wants want (y ∷ []) = want ≡ next 32 y.tsn
Wants want (y ∷ z ∷ r) = Wants want (z ∷ r)

wants_snoc : (r : List Frag) (x : Frag) → Wants (next 32 x.tsn) (r ++ (x ∷ []))
wants_snoc [] x = refl
wants_snoc (y ∷ []) x = refl
wants_snoc (y ∷ z ∷ r) x = wants_snoc (z ∷ r) x

wanted : (want : ℕ) (y : Frag) (r : List Frag) (x : Frag) → Wants want (y ∷ r) → has_tsn want x ≡ follows (y ∷ r) x
wanted want y [] x w = ap (λ (t : ℕ). has_tsn t x) w
wanted want y (z ∷ r) x w = wanted want z r x w

-- a run that starts at i is none
follows_is : (i start want : ℕ) (r : List Frag) (x : Frag) → i ≡ start + length r → Wants want r → ltb start i && has_tsn want x ≡ follows r x
follows_is i start want [] x e w = rw (le-ltb start i (omega arith))
follows_is i start want (y ∷ r) x e w = rw (lt-ltb start i (omega arith)) (wanted want y r x w)

-- one fragment passed at index i
abbrev turned : Bool → Bool → Bool → ℕ → ℕ → ℕ → List Frag → Span
turned begin goes end i start want l =
    let s = cond begin i (cond goes start (suc i)) in
    cond (end && ltb s (suc i)) (span s (suc i)) (scan (suc i) s want l)

scan-turn : (i start want : ℕ) (r : List Frag) (x : Frag) (l : List Frag) → i ≡ start + length r → Wants want r
    → scan i start want (x ∷ l) ≡ turned (begins x) (follows r x) (ends x) i start (next 32 x.tsn) l
unfolding scan starts_by
scan-turn i start want r x l e w = ap (λ (t : Bool). turned (begins x) t (ends x) i start (next 32 x.tsn) l) (follows_is i start want r x e w)

-- gone was passed over, and r is the run from the last B on, empty where there is none or it is forgotten
one_pass : (i start want : ℕ) (gone r l : List Frag) → start ≡ length gone → i ≡ start + length r → Wants want r → Live r → scan i start want l ≡ spanned (passed gone (seek (r ++ l)))
unfolding scan
one_pass i start want gone r [] p q w g = ap spanned (sym (ap (λ (s : Scan). passed gone s) (live_over_all r g) ∙ passed-nothing gone))
one_pass i start want gone r (x ∷ l) p q w g =
    scan-turn i start want r x l q w ∙ go (λ i s n a b. one_pass i s n a b l) (begins x) (follows r x) (ends x) refl refl refl
  where
    both : length (gone ++ r) ≡ length gone + length r
    both = length-append gone r

    more : length (r ++ (x ∷ [])) ≡ length r + 1
    more = length-append r (x ∷ [])

    all : length (gone ++ (r ++ (x ∷ []))) ≡ length gone + length (r ++ (x ∷ []))
    all = length-append gone (r ++ (x ∷ []))

    at : (a b c d : ℕ) → a ≡ c → b ≡ d → span a b ≡ span c d
    at a b c d e f = rw (e, f)

    go : ((i s n : ℕ) (a b : List Frag) → s ≡ length a → i ≡ s + length b → Wants n b → Live b → scan i s n l ≡ spanned (passed a (seek (b ++ l))))
        → (b f e : Bool) → begins x ≡ b → follows r x ≡ f → ends x ≡ e
        → turned b f e i start (next 32 x.tsn) l ≡ spanned (passed gone (seek (r ++ x ∷ l)))
    go ih true f true b k e =
        rw (lt-ltb i (suc i) (omega arith))
        (at i (suc i) (length (gone ++ r)) (length (gone ++ r) + 1) (omega (arith, both)) (omega (arith, both))
        ∙ ap spanned (sym (ap (λ (s : Scan). passed gone s)
        (live_stop r x l g (and_first (follows r x) (ap not b)) ∙ ap (λ (s : Scan). passed r s) (seek-some x l (x ∷ []) l b (run-here x l e)))
        ∙ sym (passed-append gone r (found [] (x ∷ []) l)) ∙ passed_found (gone ++ r) (x ∷ []) l)))
    go ih true f false b k e =
        ih (suc i) i (next 32 x.tsn) (gone ++ r) (x ∷ []) (omega (arith, both)) (omega arith) refl (b, e)
        ∙ ap spanned (passed-append gone r (seek (x ∷ l)) ∙ ap (λ (s : Scan). passed gone s) (sym (live_stop r x l g (and_first (follows r x) (ap not b)))))
    go ih false true true b k e =
        rw (lt-ltb start (suc i) (omega arith))
        (at start (suc i) (length gone) (length gone + length (r ++ (x ∷ []))) p (omega (arith, more))
        ∙ ap spanned (sym (ap (λ (s : Scan). passed gone s) (live_at r x l g b k e) ∙ passed_found gone (r ++ (x ∷ [])) l)))
    go ih false true false b k e =
        ih (suc i) start (next 32 x.tsn) gone (r ++ (x ∷ [])) p (omega (arith, more)) (wants_snoc r x) (live_on r x g b k e)
        ∙ ap (λ (m : List Frag). spanned (passed gone (seek m))) (append_snoc r x l)
    go ih false false e b k h =
        rw (le-ltb (suc i) (suc i) (omega arith), and-false e)
        (ih (suc i) (suc i) (next 32 x.tsn) (gone ++ (r ++ (x ∷ []))) [] (omega (arith, all, more)) (omega arith) tt tt
        ∙ ap spanned (passed-append gone (r ++ (x ∷ [])) (seek l) ∙ ap (λ (s : Scan). passed gone s)
        (passed-append r (x ∷ []) (seek l) ∙ ap (λ (s : Scan). passed r s) (sym (seek-on x l b)) ∙ sym (live_stop r x l g (and_last (not (begins x)) k)))))

pub scan_seeks : (l : List Frag) → scanned l ≡ spanned (seek l)
scan_seeks l = one_pass 0 0 0 [] [] l refl refl tt tt

-- ── over a message ──

module _ (base p : ℕ) (r : List Frag) where
  seek-later : (o : ℕ) (l : List Mark) → Later base o p (all_of l) → seek (arrived l ++ r) ≡ passed (arrived l) (seek r)
  seek-later o [] h = refl
  seek-later o (came x ∷ l) h = seek-on x (arrived l ++ r) h.0.begin ∙ ap (λ (s : Scan). behind x s) (seek-later (suc o) l h.1)
  seek-later o (due x ∷ l) h = seek-later (suc o) l h.1

  run-done : (o : ℕ) (x : Frag) (l : List Mark) → x.tsn ≡ tsn_at base o → ends x ≡ null (all_of l) → Later base (suc o) p (all_of l)
      → Done l → runs-from x (arrived l ++ r) ≡ found [] (x ∷ arrived l) r
  run-done o x [] t e h d = run-here x r e
  run-done o x (came y ∷ l) t e h d =
      run_on x y (arrived l ++ r) e
      ∙ rw (and_both (ap not h.0.begin) (next-is base p o x y t h.0.tsn)) (ap (λ (s : Scan). grown x s) (run-done (suc o) y l h.0.tsn h.0.end h.1 d))
  run-done o x (due y ∷ l) t e h d = absurd d

  module _ (e : ℕ) (arc : e ≤ 2 ^ 31) where
    run_open : (o : ℕ) (x : Frag) (l : List Mark) → x.tsn ≡ tsn_at base o → ends x ≡ null (all_of l) → Later base (suc o) p (all_of l)
        → suc o + length l ≤ e → Within base e (2 ^ 31) r → Open l → runs-from x (arrived l ++ r) ≡ nothing
    run_open o x [] t z h k w d = absurd d
    run_open o x (came y ∷ l) t z h k w d =
        run_on x y (arrived l ++ r) z
        ∙ cond_same (not (begins y) && has_tsn (next 32 x.tsn) y) nothing (grown x (runs-from y (arrived l ++ r)))
        (ap (λ (s : Scan). grown x s) (run_open (suc o) y l h.0.tsn h.0.end h.1 (omega arith) w d))
    run_open o x (due y ∷ l) t z h k w d =
        run-gap x (arrived l ++ r) z
        (is-append (has_tsn (next 32 x.tsn)) false (arrived l) r (after-gap base p o x l t (omega arith) h.1)
        (rw (t, next-at base o) (above base e (2 ^ 31) (suc o) r (omega arith) (omega arith) w).1))

    -- a fragment is due: the seek goes on behind the message
    pub seek_open : (o : ℕ) (l : List Mark) → Cut base o p (all_of l) → o + length l ≤ e → Within base e (2 ^ 31) r → Open l
        → seek (arrived l ++ r) ≡ passed (arrived l) (seek r)
    seek_open o [] h k w d = absurd d
    seek_open o (came x ∷ l) h k w d =
        seek_none x (arrived l ++ r) (run_open o x l h.0.tsn h.0.end h.1 (omega arith) w d)
        ∙ ap (λ (s : Scan). behind x s) (seek-later (suc o) l h.1)
    seek_open o (due x ∷ l) h k w d = seek-later (suc o) l h.1

  -- all came: the seek ends here, with the message
  pub seek-done : (o : ℕ) (l : List Mark) → Cut base o p (all_of l) → Done l → seek (arrived l ++ r) ≡ found [] (arrived l) r
  seek-done o [] h d = absurd h
  seek-done o (came x ∷ l) h d = seek-some x (arrived l ++ r) (x ∷ arrived l) r h.0.begin (run-done o x l h.0.tsn h.0.end h.1 d)
  seek-done o (due x ∷ l) h d = absurd d
