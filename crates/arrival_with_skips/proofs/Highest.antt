-- How far skips go: every skip is within the highest SSN and the highest TSN.
-- Assumes nothing.
use mathlib.Core.Path.{◌≡◌, refl, sym, ◌∙◌}
use mathlib.Core.Bool.{Bool, true, false, cond, true≢false}
use mathlib.Core.List.{List, [], ◌∷◌, map}
use mathlib.Core.Logic.{inl, inr}
use Prim.Native.Nat.{ℕ, suc, ◌^◌, ◌<◌, ◌≤◌}
use native.Mathlib.Decide.{dec_lt}
use native.Mathlib.Omega.{arith}
use lib.Dec.{ltb}
use lib.ListN.{length}
use borrow.Author.Tests.{lt-ltb, le-ltb, ltb-true, ltb-false}
use Rattle.serial_model.specs.Serial.{before}
use Rattle.data_fields.specs.Fields.{data_sent}
use Rattle.reassembly_state.specs.State.{fragment_of}
use Rattle.reassembly_state.proofs.Chunk.{chunk-ssn}
use Rattle.arrival_plan.specs.Plan.{tsn_at}
use Rattle.arrival.proofs.Planned.{frag_of, piece_of}
use Rattle.arrival.specs.Calls.{Chunk, Sent, Loose, Cut, Whole}
use Rattle.arrival_plan.proofs.Numbers.{tsn-lt, tsn_ge}
use Rattle.arrival_plan.proofs.Maps.{Each}
use Rattle.arrival_with_skips.specs.Skips.{Call, Push, Take, SkipOrdered, SkipUnordered, ssns, tsns, Named, AllInArc, numbers_up_to, highest, AllAfter, Untouched, Touched, up_to, Needless, AllNeedless}
use Rattle.skips_plan.proofs.Each.{each_weaker}
use Rattle.skips_plan.proofs.Runs.{Event, SkipOrdered as skip, Frame, Place, Within, Far, Marked, GivenUp}
use Rattle.arrival_with_skips.proofs.Walk.{events}

-- ── numbers ──

up_to_lem : (s l : ℕ) → (s < cond (ltb s l) l (suc s)) × (l ≤ cond (ltb s l) l (suc s))
up_to_lem s l = go (ltb s l) refl
  where
    go : (t : Bool) → ltb s l ≡ t → (s < cond t l (suc s)) × (l ≤ cond t l (suc s))
    go true e = (ltb-true s l e, omega arith)
    go false e = let h = ltb-false s l e in (omega arith, omega arith)

pub numbers_bound : (l : List ℕ) → Each (λ (s : ℕ). s < numbers_up_to l) l
numbers_bound [] = tt
numbers_bound (s ∷ l) =
    let u = up_to_lem s (numbers_up_to l) in
    (u.0, each_weaker (λ (k : ℕ). k < numbers_up_to l) (λ (k : ℕ). k < cond (ltb s (numbers_up_to l)) (numbers_up_to l) (suc s)) (λ k h. omega (arith, u.1)) l (numbers_bound l))

pub numbers_known : (os : List Sent) (l : List ℕ) → Named os l → numbers_up_to l ≤ length os
numbers_known os [] h = omega arith
numbers_known os (s ∷ l) h = go (ltb s (numbers_up_to l)) (numbers_known os l h.1)
  where
    go : (t : Bool) → numbers_up_to l ≤ length os → cond t (numbers_up_to l) (suc s) ≤ length os
    go true k = k
    go false k = omega (arith, h.0)

-- ── places ──

module _ (base : ℕ) where
  -- the highest of these places, from p on
  abbrev pub top : ℕ → (l : List ℕ) → AllInArc base l → ℕ
  top p [] a = p
  top p (t ∷ l) a = top (cond (ltb p a.0.place) a.0.place p) l a.1

  abbrev pub places_up_to : (l : List ℕ) → AllInArc base l → ℕ
  places_up_to [] a = 0
  places_up_to (t ∷ l) a = suc (top a.0.place l a.1)

  two : (p k : ℕ) → (p ≤ cond (ltb p k) k p) × (k ≤ cond (ltb p k) k p)
  two p k = go (ltb p k) refl
    where
      go : (t : Bool) → ltb p k ≡ t → (p ≤ cond t k p) × (k ≤ cond t k p)
      go true e = let h = ltb-true p k e in (omega arith, omega arith)
      go false e = let h = ltb-false p k e in (omega arith, omega arith)

  top_high : (p : ℕ) (l : List ℕ) (a : AllInArc base l) → p ≤ top p l a
  top_high p [] a = omega arith
  top_high p (t ∷ l) a = let h = two p a.0.place in omega (arith, h.0, top_high (cond (ltb p a.0.place) a.0.place p) l a.1)

  top-arc : (p : ℕ) (l : List ℕ) (a : AllInArc base l) → p < 2 ^ 31 → top p l a < 2 ^ 31
  top-arc p [] a h = h
  top-arc p (t ∷ l) a h = top-arc (cond (ltb p a.0.place) a.0.place p) l a.1 (go (ltb p a.0.place))
    where
      go : (b : Bool) → cond b a.0.place p < 2 ^ 31
      go true = a.0.arc
      go false = h

  top_places : (p k : ℕ) (l : List ℕ) (a : AllInArc base l) → top p l a < k → Each (Place base k) l
  top_places p k [] a h = tt
  top_places p k (t ∷ l) a h =
      let n = cond (ltb p a.0.place) a.0.place p in
      (record { place = a.0.place; is = a.0.is; low = omega (arith, (two p a.0.place).1, top_high n l a.1) }, top_places n k l a.1 h)

  pub places_bound : (l : List ℕ) (a : AllInArc base l) → Each (Place base (places_up_to l a)) l
  places_bound [] a = tt
  places_bound (t ∷ l) a =
      (record { place = a.0.place; is = a.0.is; low = omega (arith, top_high a.0.place l a.1) }, top_places a.0.place (suc (top a.0.place l a.1)) l a.1 (omega arith))

  pub places_arc : (l : List ℕ) (a : AllInArc base l) → places_up_to l a ≤ 2 ^ 31
  places_arc [] a = omega arith
  places_arc (t ∷ l) a = omega (arith, top-arc a.0.place l a.1 a.0.arc)

  -- the highest TSN is at the highest place
  later-at : (p k : ℕ) → p < 2 ^ 31 → k < 2 ^ 31 → cond (before 32 (tsn_at base p) (tsn_at base k)) (tsn_at base k) (tsn_at base p) ≡ tsn_at base (cond (ltb p k) k p)
  later-at p k h g = go (dec_lt p k)
    where
      go : Dec (p < k) → cond (before 32 (tsn_at base p) (tsn_at base k)) (tsn_at base k) (tsn_at base p) ≡ tsn_at base (cond (ltb p k) k p)
      go (yes l) = rw (tsn-lt base p k l g, lt-ltb p k l)
      go (no l) = rw (tsn_ge base p k (omega arith) h, le-ltb p k (omega arith))

  highest-at : (p t : ℕ) (l : List ℕ) (a : AllInArc base l) → p < 2 ^ 31 → t ≡ tsn_at base p → highest t l ≡ tsn_at base (top p l a)
  highest-at p t [] a h e = e
  highest-at p t (u ∷ l) a h e =
      let k = a.0.place in
      highest-at (cond (ltb p k) k p) (cond (before 32 t u) u t) l a.1 (go (ltb p k)) (rw (e, a.0.is) (later-at p k h a.0.arc))
    where
      go : (b : Bool) → cond b a.0.place p < 2 ^ 31
      go true = a.0.arc
      go false = h

  -- ── a message that begins at or before it is touched ──

  module _ (si max : ℕ) where
    not_after_lem : (o : ℕ) (m : Sent) → Whole si base max Loose m → m.first ≤ o → o < 2 ^ 31 → AllAfter (tsn_at base o) m.chunks → ⊥
    not_after_lem o m w h b u = go m.chunks w.cut u
      where
        go : (cs : List Chunk) → Cut si base Loose m.ppi m.first cs → AllAfter (tsn_at base o) cs → ⊥
        go [] c k = c
        go (x ∷ cs) c k =
            let e : before 32 (tsn_at base o) x.fields.tsn ≡ false = rw c.0.tsn (tsn_ge base o m.first h b) in
            true≢false (sym k.0 ∙ e)

    touched_one : (l : List ℕ) (a : AllInArc base l) (m : Sent) → Whole si base max Loose m → m.first < places_up_to l a → Untouched l m.chunks → ⊥
    touched_one [] a m w h u = absurd (omega arith)
    touched_one (t ∷ l) a m w h u =
        let e = highest-at a.0.place t l a.1 a.0.arc a.0.is in
        not_after_lem (top a.0.place l a.1) m w (omega arith) (top-arc a.0.place l a.1 a.0.arc) (rw e at u)

    pub touched_all : (l : List ℕ) (a : AllInArc base l) (ms : List Sent) → Each (Whole si base max Loose) ms → Each (λ (m : Sent). m.first < places_up_to l a) ms → Touched l ms
    touched_all l a [] w h = tt
    touched_all l a (m ∷ ms) w h = (touched_one l a m w.0 h.0, touched_all l a ms w.1 h.1)

  -- ── a TSN that is not after it has a place up to it ──

  not_behind : (l : List ℕ) (a : AllInArc base l) (c : Chunk) → (Untouched l (c ∷ []) → ⊥) → (o : ℕ) → c.fields.tsn ≡ tsn_at base o → o < 2 ^ 31 → o < places_up_to l a
  not_behind [] a c u o e h = absurd (u tt)
  not_behind (t ∷ l) a c u o e h = go (dec_lt (top a.0.place l a.1) o)
    where
      go : Dec (top a.0.place l a.1 < o) → o < suc (top a.0.place l a.1)
      go (yes k) = absurd (u (rw (highest-at a.0.place t l a.1 a.0.arc a.0.is, e) (tsn-lt base (top a.0.place l a.1) o k h), tt))
      go (no k) = omega arith

-- ── the events ──

pub within : (c : Frame) (calls : List Call) → Each (λ (s : ℕ). s < c.numbers) (ssns calls) → Each (Place c.base c.places) (tsns calls) → Each (Within c) (events calls)
within c [] s t = tt
within c (Push k ∷ cs) s t = (tt, within c cs s t)
within c (Take b ∷ cs) s t = (tt, within c cs s t)
within c (SkipOrdered k ∷ cs) s t = (s.0, within c cs s.1 t)
within c (SkipUnordered k ∷ cs) s t = (t.0, within c cs s t.1)

-- the highest skip is one of them
reaches_one : (c : Frame) (k n : ℕ) (es : List Event) (t : Bool) → c.numbers ≤ cond t n (suc k) → (c.numbers ≤ n → Far c 0 es) → Far c 0 (skip k ∷ es)
reaches_one c k n es true h ih = further (ih h)
  where
    further : Far c 0 es → Far c 0 (skip k ∷ es)
    further (inl l) = inl l
    further (inr l) = inr (inr l)
reaches_one c k n es false h ih = inr (inl h)

pub reaches : (c : Frame) (calls : List Call) → c.numbers ≤ up_to calls → Far c 0 (events calls)
reaches c [] h = inl h
reaches c (Push k ∷ cs) h = reaches c cs h
reaches c (Take b ∷ cs) h = reaches c cs h
reaches c (SkipOrdered k ∷ cs) h = reaches_one c k (numbers_up_to (ssns cs)) (events cs) (ltb k (numbers_up_to (ssns cs))) h (reaches c cs)
reaches c (SkipUnordered t ∷ cs) h = reaches c cs h

-- ── the chunks that do not come ──

module _ (c : Frame) (calls : List Call) (a : AllInArc c.base (tsns calls)) (numbers : c.numbers ≡ up_to calls) (few : c.numbers ≤ 32767)
    (places : c.places ≡ places_up_to c.base (tsns calls) a) where
  needless_one : (k : Chunk) (u : Bool) → Needless calls u k → Marked c u (frag_of k)
  unfolding fragment_of data_sent
  needless_one k true h = λ o e l. rw places (not_behind c.base (tsns calls) a k h o e l)
  needless_one k false h = rw (chunk-ssn k.fields k.bytes (omega (arith, numbers))) (rw numbers h)

  pub needless : (ks : List Chunk) → AllNeedless calls ks → Each (GivenUp c) (map piece_of ks)
  needless [] h = tt
  needless (k ∷ ks) h = (needless_one k k.fields.unordered h.0, needless ks h.1)
