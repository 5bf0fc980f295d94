-- The gap report is the only one possible: the walk over TSNs that are ordered on an arc leaves the one list of separate blocks that holds their offsets.
-- Assumes nothing.
use mathlib.Core.Path.{◌≡◌, refl, sym, ap, ◌∙◌}
use mathlib.Core.Bool.{Bool, true, false, cond, ◌&&◌}
use mathlib.Core.Logic.{◌↔◌, ◌⊎◌, inl, inr, ⊎_elim}
use mathlib.Core.List.Memᴰ
use mathlib.Core.List.{List, [], ◌∷◌, Memᴰ}
use Prim.Native.Nat.{ℕ, ◌+◌, ◌^◌, ◌<◌, ◌≤◌}
use native.Mathlib.Omega.{arith}
use native.Mathlib.Decide.{dec_le}
use lib.Dec.{eqb, ltb, leb}
use borrow.Author.Tests.{ltb-true, leb-true, eqb-true, eqb-false}
use Rattle.serial_model.specs.Serial.{ahead, plus}
use Rattle.serial_model.specs.Facts.{plus-ahead, ahead-plus}
use Rattle.gap_model.specs.Gap.{Block, block, counts, extend, walk, blocks}
use Rattle.gap_model.proofs.Walk.{counted, want_from}
use Rattle.gap_model.specs.Report.{Each, Separate, Proper, In, Received, Covers, InArc, Ordered}

-- ── separate blocks, by where the next one may start ──

-- the blocks start at k or later, and each at its forerunner's end plus 2 or later
abbrev From : ℕ → List Block → Type 0
From k [] = Unit {0}
From k (b ∷ bs) = (k ≤ b.start) × (b.start ≤ b.end) × (b.end ≤ 65535) × From (b.end + 2) bs

-- what they hold is k or later
least : (k : ℕ) (bs : List Block) (o : ℕ) → From k bs → In o bs → k ≤ o
least k [] o f h = absurd h
least k (b ∷ bs) o f (inl h) = omega arith
least k (b ∷ bs) o f (inr h) = let l = least (b.end + 2) bs o f.3 h in omega arith

-- the first list holds no offset that the second does not
abbrev Less : List Block → List Block → Type 0
Less bs cs = (o : ℕ) → In o bs → In o cs

module _ (k l : ℕ) (b c : Block) (bs cs : List Block) (f : From k (b ∷ bs)) (g : From l (c ∷ cs)) (h : Less (b ∷ bs) (c ∷ cs)) where
  -- so its first block starts no earlier, ..
  start-late : c.start ≤ b.start
  start-late = go (h b.start (inl (omega arith)))
    where
      go : In b.start (c ∷ cs) → c.start ≤ b.start
      go (inl x) = x.0
      go (inr x) = let y = least (c.end + 2) cs b.start g.3 x in omega arith

  -- .. ends no later where it starts at the same offset: right after that end there is a break, ..
  end_early : b.start ≡ c.start → b.end ≤ c.end
  end_early e = go (dec_le b.end c.end)
    where
      past : In (c.end + 1) (c ∷ cs) → ⊥
      past (inl x) = omega arith
      past (inr x) = let y = least (c.end + 2) cs (c.end + 1) g.3 x in omega arith

      go : Dec (b.end ≤ c.end) → b.end ≤ c.end
      go (yes p) = p
      go (no p) = absurd (past (h (c.end + 1) (inl (omega arith))))

  -- .. and where it ends there too, the rests are so as well
  rest_less : b.end ≡ c.end → Less bs cs
  rest_less e o x = go (least (b.end + 2) bs o f.3 x) (h o (inr x))
    where
      go : b.end + 2 ≤ o → In o (c ∷ cs) → In o cs
      go y (inl z) = absurd (omega arith)
      go y (inr z) = z

-- where each holds no more than the other, the lists are the same
only : (k : ℕ) (bs cs : List Block) → From k bs → From k cs → Less bs cs → Less cs bs → bs ≡ cs
only k [] [] f g h i = refl
only k [] (c ∷ cs) f g h i = absurd (i c.start (inl (omega arith)))
only k (b ∷ bs) [] f g h i = absurd (h b.start (inl (omega arith)))
only k (b ∷ bs) (c ∷ cs) f g h i =
    let s = start-late k k b c bs cs f g h in
    let t = start-late k k c b cs bs g f i in
    let x : b.start ≡ c.start = omega arith in
    let u = end_early k k b c bs cs f g h x in
    let v = end_early k k c b cs bs g f i (sym x) in
    let y : b.end ≡ c.end = omega arith in
    let z : bs ≡ cs = only (b.end + 2) bs cs f.3 (rw y g.3) (rest_less k k b c bs cs f g h y) (rest_less k k c b cs bs g f i (sym y)) in
    pair x y z
  where
    pair : {s t e f : ℕ} {xs ys : List Block} → s ≡ t → e ≡ f → xs ≡ ys → ◌≡◌ {A = List Block} (block s e ∷ xs) (block t f ∷ ys)
    pair p q r = cc

-- ── the same as Proper ──

to_from : (k : ℕ) (b : Block) (bs : List Block) → k ≤ b.start → Each (b ∷ bs) → Separate (b ∷ bs) → From k (b ∷ bs)
to_from k b [] h e s = (h, e.0.upward, e.0.small, tt)
to_from k b (c ∷ bs) h e s = (h, e.0.upward, e.0.small, to_from (b.end + 2) c bs (omega arith) e.1 s.1)

proper_from : (bs : List Block) → Proper bs → From 1 bs
proper_from [] p = tt
proper_from (b ∷ bs) p = to_from 1 b bs p.each.0.first p.each p.separate

from_each : (k : ℕ) (bs : List Block) → 1 ≤ k → From k bs → Each bs
from_each k [] h f = tt
from_each k (b ∷ bs) h f = (record { first = omega arith; upward = f.1; small = f.2 }, from_each (b.end + 2) bs (omega arith) f.3)

from_separate : (k : ℕ) (bs : List Block) → From k bs → Separate bs
from_separate k [] f = tt
from_separate k (b ∷ []) f = tt
from_separate k (b ∷ c ∷ bs) f = (omega arith, from_separate (b.end + 2) (c ∷ bs) f.3)

-- Separate blocks that hold the same offsets are the same.
pub only_one : (bs cs : List Block) → Proper bs → Proper cs → ((o : ℕ) → In o bs ↔ In o cs) → bs ≡ cs
only_one bs cs p q h = only 1 bs cs (proper_from bs p) (proper_from cs q) (λ o. (h o).0) (λ o. (h o).1)

-- ── one offset more ──

-- an offset past the last block's end keeps the blocks separate, and is the last end
extend-from : (k : ℕ) (bs : List Block) (o : ℕ) → From k bs → want_from k bs ≤ o → o ≤ 65535 → From k (extend bs o)
unfolding extend want_from
extend-from k [] o f h q = (h, omega arith, q, tt)
extend-from k (b ∷ []) o f h q = go (eqb o (b.end + 1)) refl
  where
    go : (t : Bool) → eqb o (b.end + 1) ≡ t → From k (cond t (block b.start o ∷ []) (b ∷ block o o ∷ []))
    go true e = (f.0, omega arith, q, tt)
    go false e = let n = eqb-false o (b.end + 1) e in (f.0, f.1, f.2, (omega arith, omega arith, q, tt))
extend-from k (b ∷ c ∷ bs) o f h q = (f.0, f.1, f.2, extend-from (b.end + 2) (c ∷ bs) o f.3 h q)

extend-want : (k : ℕ) (bs : List Block) (o : ℕ) → want_from k (extend bs o) ≡ o + 1
unfolding extend want_from
extend-want k [] o = refl
extend-want k (b ∷ []) o = go (eqb o (b.end + 1))
  where
    go : (t : Bool) → want_from k (cond t (block b.start o ∷ []) (b ∷ block o o ∷ [])) ≡ o + 1
    go true = refl
    go false = refl
extend-want k (b ∷ c ∷ bs) o = extend-want (b.end + 1) (c ∷ bs) o

-- the blocks hold what they held ..
in_old : (bs : List Block) (o x : ℕ) → In x bs → In x (extend bs o)
unfolding extend
in_old [] o x h = absurd h
in_old (b ∷ []) o x h = go (eqb o (b.end + 1)) refl h
  where
    go : (t : Bool) → eqb o (b.end + 1) ≡ t → In x (b ∷ []) → In x (cond t (block b.start o ∷ []) (b ∷ block o o ∷ []))
    go true e (inl h) = inl (h.0, omega (arith, eqb-true o (b.end + 1) e))
    go true e (inr h) = absurd h
    go false e (inl h) = inl h
    go false e (inr h) = absurd h
in_old (b ∷ c ∷ bs) o x (inl h) = inl h
in_old (b ∷ c ∷ bs) o x (inr h) = inr (in_old (c ∷ bs) o x h)

-- .. and o ..
in_new : (k : ℕ) (bs : List Block) (o : ℕ) → From k bs → In o (extend bs o)
unfolding extend
in_new k [] o f = inl (omega arith)
in_new k (b ∷ []) o f = go (eqb o (b.end + 1)) refl
  where
    go : (t : Bool) → eqb o (b.end + 1) ≡ t → In o (cond t (block b.start o ∷ []) (b ∷ block o o ∷ []))
    go true e = inl (omega (arith, eqb-true o (b.end + 1) e))
    go false e = inr (inl (omega arith))
in_new k (b ∷ c ∷ bs) o f = inr (in_new (b.end + 2) (c ∷ bs) o f.3)

-- .. and nothing else
in_only : (bs : List Block) (o x : ℕ) → In x (extend bs o) → In x bs ⊎ (x ≡ o)
unfolding extend
in_only [] o x (inl h) = inr (omega arith)
in_only [] o x (inr h) = absurd h
in_only (b ∷ []) o x h = go (eqb o (b.end + 1)) refl (dec_le x b.end) h
  where
    go :
        (t : Bool) → eqb o (b.end + 1) ≡ t → Dec (x ≤ b.end) → In x (cond t (block b.start o ∷ []) (b ∷ block o o ∷ [])) →
        In x (b ∷ []) ⊎ (x ≡ o)
    go true e (yes p) (inl h) = inl (inl (h.0, p))
    go true e (no p) (inl h) = inr (omega (arith, eqb-true o (b.end + 1) e))
    go true e d (inr h) = absurd h
    go false e d (inl h) = inl (inl h)
    go false e d (inr (inl h)) = inr (omega arith)
    go false e d (inr (inr h)) = absurd h
in_only (b ∷ c ∷ bs) o x (inl h) = inl (inl h)
in_only (b ∷ c ∷ bs) o x (inr h) = ⊎_elim (λ i. inl (inr i)) (λ e. inr e) (in_only (c ∷ bs) o x h)

-- ── offsets rise along an arc ──

-- From any number on, offsets of 16 bits rise as the TSNs do on the arc: to wrap between two of them takes more than the arc.
rise :
    (base cum t u : ℕ) → t < 2 ^ 32 → u < 2 ^ 32 → ahead 32 base t < ahead 32 base u → ahead 32 base u < 2 ^ 31 →
    ahead 32 cum t ≤ 65535 → ahead 32 cum u ≤ 65535 → ahead 32 cum t < ahead 32 cum u
unfolding ahead
rise base cum t u ht hu l a p q = omega arith

-- on the arc a TSN's offset is below those of all that stand behind it in the list
ordered-first : (base t : ℕ) (ts : List ℕ) → Ordered base (t ∷ ts) → (u : ℕ) → Memᴰ u ts → ahead 32 base t < ahead 32 base u
ordered-first base t [] r u m = absurd (Memᴰ.not-nil m)
ordered-first base t (v ∷ ts) r u m =
    ⊎_elim (λ e. rw e r.0) (λ i. let l = ordered-first base v ts r.1 u i in omega arith) (Memᴰ.cases_cons m)

-- one TSN more on the arc
pub arc-more : (base t : ℕ) (ts : List ℕ) → t < 2 ^ 32 → ahead 32 base t < 2 ^ 31 → InArc base ts → InArc base (t ∷ ts)
arc-more base t ts h k a u m = ⊎_elim (λ e. rw e (h, omega arith)) (λ i. a u i) (Memᴰ.cases_cons m)

ordered-rest : (base t : ℕ) (ts : List ℕ) → Ordered base (t ∷ ts) → Ordered base ts
ordered-rest base t [] r = tt
ordered-rest base t (u ∷ ts) r = r.1

-- ── the walk ──

-- offsets that a report can name
abbrev Counted : ℕ → Type 0
Counted o = (1 ≤ o) × (o ≤ 65535)

counts_true : (o : ℕ) → counts o ≡ true → Counted o
counts_true o = go (ltb 0 o) (leb o 65535) refl refl
  where
    go : (s t : Bool) → ltb 0 o ≡ s → leb o 65535 ≡ t → s && t ≡ true → Counted o
    go true true p q e = (ltb-true 0 o p, leb-true o 65535 q)
    go true false p q e = let z : ◌≡◌ {A = ℕ} 0 1 = cc in absurd (omega arith)
    go false t p q e = let z : ◌≡◌ {A = ℕ} 0 1 = cc in absurd (omega arith)

counts_false : (o : ℕ) → counts o ≡ false → Counted o → ⊥
counts_false o e c = let f = counted o c.0 c.1 in let z : ◌≡◌ {A = ℕ} 0 1 = cc in omega arith

-- those of the TSNs are k or later
abbrev Later : ℕ → ℕ → List ℕ → Type 0
Later cum k ts = (t : ℕ) → Memᴰ t ts → Counted (ahead 32 cum t) → k ≤ ahead 32 cum t

-- the blocks cs are separate, and hold what bs held, the counted offsets of the TSNs, and nothing else
record Walked (cum : ℕ) (ts : List ℕ) (bs cs : List Block) : Type 0 where
  from : From 1 cs
  old : (o : ℕ) → In o bs → In o cs
  new : (o : ℕ) → Counted o → Received cum ts o → In o cs
  only : (o : ℕ) → In o cs → In o bs ⊎ (Counted o × Received cum ts o)

-- received: the first one, or one of the rest
received_first : (cum t : ℕ) (ts : List ℕ) (o : ℕ) → Received cum (t ∷ ts) o → (o ≡ ahead 32 cum t) ⊎ Received cum ts o
received_first cum t ts o (u, m, e) = ⊎_elim (λ i. inl (sym e ∙ ap (ahead 32 cum) i)) (λ i. inr (u, i, e)) (Memᴰ.cases_cons m)

received_rest : (cum t : ℕ) (ts : List ℕ) (o : ℕ) → Received cum ts o → Received cum (t ∷ ts) o
received_rest cum t ts o (u, m, e) = (u, Memᴰ.tail m, e)

module _ (cum t : ℕ) (ts : List ℕ) (bs : List Block) where
  abbrev off : ℕ
  off = ahead 32 cum t

  -- a TSN whose offset counts
  one_more : From 1 bs → Counted off → {cs : List Block} → Walked cum ts (extend bs off) cs → Walked cum (t ∷ ts) bs cs
  one_more f c {cs} w = record { from = w.from; old = λ o i. w.old o (in_old bs off o i); new = new; only = only' }
    where
      new : (o : ℕ) → Counted o → Received cum (t ∷ ts) o → In o cs
      new o d r = ⊎_elim (λ e. w.old o (rw e (in_new 1 bs off f))) (λ i. w.new o d i) (received_first cum t ts o r)

      only' : (o : ℕ) → In o cs → In o bs ⊎ (Counted o × Received cum (t ∷ ts) o)
      only' o i =
          ⊎_elim
          (λ j. ⊎_elim (λ k. inl k) (λ e. inr (rw e c, (t, Memᴰ.head refl, sym e))) (in_only bs off o j))
          (λ p. inr (p.0, received_rest cum t ts o p.1))
          (w.only o i)

  -- a TSN whose offset does not
  no_more : (Counted off → ⊥) → {cs : List Block} → Walked cum ts bs cs → Walked cum (t ∷ ts) bs cs
  no_more n {cs} w = record { from = w.from; old = w.old; new = new; only = only' }
    where
      new : (o : ℕ) → Counted o → Received cum (t ∷ ts) o → In o cs
      new o d r = ⊎_elim (λ e. absurd (n (rw e at d))) (λ i. w.new o d i) (received_first cum t ts o r)

      only' : (o : ℕ) → In o cs → In o bs ⊎ (Counted o × Received cum (t ∷ ts) o)
      only' o i = ⊎_elim (λ j. inl j) (λ p. inr (p.0, received_rest cum t ts o p.1)) (w.only o i)

-- the walk over TSNs ordered on an arc, whose counted offsets all come after the blocks so far
walked :
    (base cum : ℕ) (bs : List Block) (ts : List ℕ) → From 1 bs → InArc base ts → Ordered base ts → Later cum (want_from 1 bs) ts →
    Walked cum ts bs (walk cum bs ts)
unfolding walk
walked base cum bs [] f a r h = record { from = f; old = λ o i. i; new = λ o c w. absurd (Memᴰ.not-nil w.1); only = λ o i. inl i }
walked base cum bs (t ∷ ts) f a r h =
    go (counts (ahead 32 cum t)) refl (λ cs g k. walked base cum cs ts g (λ u m. a u (Memᴰ.tail m)) (ordered-rest base t ts r) k)
  where
    rises : Counted (ahead 32 cum t) → Later cum (want_from 1 (extend bs (ahead 32 cum t))) ts
    rises c u m d =
        let x = a t (Memᴰ.head refl) in
        let y = a u (Memᴰ.tail m) in
        let l = rise base cum t u x.0 y.0 (ordered-first base t ts r u m) y.1 c.1 d.1 in
        omega (arith, extend-want 1 bs (ahead 32 cum t))

    go :
        (v : Bool) → counts (ahead 32 cum t) ≡ v →
        ((cs : List Block) → From 1 cs → Later cum (want_from 1 cs) ts → Walked cum ts cs (walk cum cs ts)) →
        Walked cum (t ∷ ts) bs (walk cum (cond v (extend bs (ahead 32 cum t)) bs) ts)
    go true e rest =
        let c = counts_true (ahead 32 cum t) e in
        let g = extend-from 1 bs (ahead 32 cum t) f (h t (Memᴰ.head refl) c) c.1 in
        one_more cum t ts bs f c (rest (extend bs (ahead 32 cum t)) g (rises c))
    go false e rest = no_more cum t ts bs (counts_false (ahead 32 cum t) e) (rest bs f (λ u m. h u (Memᴰ.tail m)))

-- ── the theorems ──

module _ (base cum : ℕ) (tsns : List ℕ) (a : InArc base tsns) (r : Ordered base tsns) where
  all : Walked cum tsns [] (blocks cum tsns)
  unfolding want_from
  all = walked base cum [] tsns tt a r (λ t m c. c.0)

  -- Of TSNs that are ordered on an arc, and any cumulative TSN at all, the report's blocks are separate and hold just the offsets received.
  pub report_covers : Proper (blocks cum tsns) × Covers cum tsns (blocks cum tsns)
  report_covers = (
    record { each = from_each 1 (blocks cum tsns) (omega arith) all.from; separate = from_separate 1 (blocks cum tsns) all.from },
    λ o. (λ i. ⊎_elim (λ z. absurd z) (λ p. (p.0.0, p.0.1, p.1)) (all.only o i), λ p. all.new o (p.0, p.1) p.2),
  )

  -- No other separate blocks do.
  pub report_unique : (bs : List Block) → Proper bs → Covers cum tsns bs → bs ≡ blocks cum tsns
  report_unique bs p c =
      let k = report_covers in
      only_one bs (blocks cum tsns) p k.0 (λ o. (λ i. (k.1 o).1 ((c o).0 i), λ i. (c o).1 ((k.1 o).0 i)))

-- The report depends on the TSNs as a set: on whatever arcs they are ordered, the same TSNs give the same blocks.
pub same-report :
    (base base' cum : ℕ) (tsns tsns' : List ℕ) → InArc base tsns → Ordered base tsns → InArc base' tsns' → Ordered base' tsns' →
    ((t : ℕ) → Memᴰ t tsns ↔ Memᴰ t tsns') → blocks cum tsns ≡ blocks cum tsns'
same-report base base' cum tsns tsns' a r a' r' same =
    let k = report_covers base cum tsns a r in
    report_unique base' cum tsns' a' r' (blocks cum tsns) k.0
    (λ o. (
      λ i. let p = (k.1 o).0 i in (p.0, p.1, (p.2.0, (same p.2.0).0 p.2.1, p.2.2)),
      λ p. (k.1 o).1 (p.0, p.1, (p.2.0, (same p.2.0).1 p.2.1, p.2.2)),
    ))

-- "To calculate the actual TSN number the Cumulative TSN Ack is added to this offset number": the blocks hold o just where that TSN was received.
pub covers_sum :
    (base cum : ℕ) (tsns : List ℕ) (bs : List Block) → cum < 2 ^ 32 → InArc base tsns → Covers cum tsns bs →
    (o : ℕ) → In o bs ↔ ((1 ≤ o) × (o ≤ 65535) × Memᴰ (plus 32 cum o) tsns)
covers_sum base cum tsns bs hc a c o = (λ i. let p = (c o).0 i in (p.0, p.1, to p.2), λ p. (c o).1 (p.0, p.1, (plus 32 cum o, p.2, ahead-plus 32 cum o hc (omega arith))))
  where
    to : Received cum tsns o → Memᴰ (plus 32 cum o) tsns
    to (t, m, e) = Memᴰ.cast (rw (← e) (plus-ahead 32 cum t hc (a t m).0)) m
