-- A push: of an ordered chunk that is before the expected number, of another ordered one, and of an unordered one.
-- Assumes nothing.
use mathlib.Core.Path.{◌≡◌, refl, sym, ap, subst, ◌∙◌}
use mathlib.Core.Bool.{true, false}
use mathlib.Core.List.{List, [], ◌∷◌, ◌++◌, map, map-append, append_assoc}
use mathlib.Core.Logic.{◌⊎◌, inl, inr}
use Prim.Native.Nat.{ℕ, suc, ◌+◌, ◌<◌, ◌≤◌}
use native.Mathlib.Omega.{arith}
use lib.ListN.{length, length-append, length-map}
use Rattle.fragments.specs.Frag.{Frag}
use Rattle.reassembly_state.specs.Model.{Queue, room_for}
use Rattle.arrival_plan.specs.Plan.{Msg, chunk, frags_of, Message, message}
use Rattle.arrival_plan.proofs.Shape.{Mark, came, arrived, Done, Open, done_or_open, done_all}
use Rattle.arrival_plan.proofs.Shape as shape
use Rattle.arrival_plan.proofs.Pushes.{Enters}
use Rattle.arrival_plan.proofs.Loose as loose
use Rattle.arrival_plan.proofs.Loose.{Listed, Part, part, msg, held_of, Opens, opens_append, opens_split}
use Rattle.arrival_plan.proofs.Sets as sets
use Rattle.arrival_plan.proofs.Sorts.{swap}
use Rattle.arrival_plan.proofs.Arrived.{cuts-snoc, frags-snoc}
use Rattle.skips_plan.proofs.Each.{each_at, each_change, each_without}
use Rattle.skips_plan.proofs.Fates.{Fate, held, coming, lost, marks, Safe, done-pending, marks-append, safe_came, bare-away, Item, item, part_of, parts, msg-of, msgs, all}
use Rattle.skips_plan.proofs.Runs.{Event, Push, Frame, Far, Past, whole, over, its, waits, Settled, due, numbered, state, Sound, Good, Owed, Runs, by_push}

-- ── a message, before and after its chunk came or was turned away ──

module _ (o i : ℕ) (u : List Fate) (f : Frag) (v : List Fate) where
  abbrev pub was : Item
  was = item o i (u ++ coming f ∷ v)

  abbrev pub is : Item
  is = item o i (u ++ held f ∷ v)

  abbrev pub away : Item
  away = item o i (u ++ lost f ∷ v)

  was-part : part_of was ≡ part o i (marks u ++ shape.due f ∷ marks v)
  was-part = ap (λ (l : List Mark). part o i l) (marks-append u (coming f ∷ v))

  is-part : part_of is ≡ part o i (marks u ++ came f ∷ marks v)
  is-part = ap (λ (l : List Mark). part o i l) (marks-append u (held f ∷ v))

  away-part : part_of away ≡ part_of was
  away-part = ap (λ (l : List Mark). part o i l) (marks-append u (lost f ∷ v) ∙ sym (marks-append u (coming f ∷ v)))

  was-parts : (a b : List Item) → parts (a ++ was ∷ b) ≡ loose.was (parts a) o i (marks u) f (marks v) (parts b)
  was-parts a b = map-append part_of a (was ∷ b) ∙ ap (λ (p : Part). parts a ++ p ∷ parts b) was-part

  is-parts : (a b : List Item) → parts (a ++ is ∷ b) ≡ loose.is (parts a) o i (marks u) f (marks v) (parts b)
  is-parts a b = map-append part_of a (is ∷ b) ∙ ap (λ (p : Part). parts a ++ p ∷ parts b) is-part

  away-parts : (a b : List Item) → parts (a ++ away ∷ b) ≡ parts (a ++ was ∷ b)
  away-parts a b = map-append part_of a (away ∷ b) ∙ ap (λ (p : Part). parts a ++ p ∷ parts b) away-part ∙ sym (map-append part_of a (was ∷ b))

  is-msgs : (a b : List Item) → msgs (a ++ is ∷ b) ≡ msgs (a ++ was ∷ b)
  is-msgs a b = ap (λ (l : List Part). map msg l) (is-parts a b) ∙ loose.same-msgs o i (marks u) f (marks v) (parts a) (parts b) ∙ sym (ap (λ (l : List Part). map msg l) (was-parts a b))

-- ── ordered chunks ──

same-waits : (n : ℕ) (a : List Past) (x y : Item) (b : List Past) → waits n (a ++ over x ∷ b) ≡ waits n (a ++ over y ∷ b)
same-waits n [] x y b = refl
same-waits n (whole p ∷ a) x y b = ap (λ (l : List Message). message n (msg-of p) ∷ l) (same-waits (suc n) a x y b)
same-waits n (over p ∷ a) x y b = same-waits (suc n) a x y b

module _ (c : Frame) (es : List Event) (ih : Runs c es) (o i : ℕ) (u : List Fate) (f : Frag) (v : List Fate) (us : List Item) (fin : List Msg) where
  -- not before the expected number: stored
  pub push-set : (early : List Past) (a b : List Item) → Sound c early (a ++ was o i u f v ∷ b) us fin → Far c (length early) es → Owed c es early (a ++ is o i u f v ∷ b) us
      → Good c (Push (chunk false f) ∷ es) (waits 0 early) (length early) (msgs (a ++ was o i u f v ∷ b)) (msgs us) fin (state c early (a ++ was o i u f v ∷ b) us fin)
  push-set early a b s far k =
      let e = map its early in
      let old : List Item = a ++ was o i u f v ∷ b in
      let new : List Item = a ++ is o i u f v ∷ b in
      let x : parts (numbered early old) ≡ loose.was (parts (e ++ a)) o i (marks u) f (marks v) (parts b) =
      ap (λ (l : List Item). parts l) (sym (append_assoc e a (was o i u f v ∷ b))) ∙ was-parts o i u f v (e ++ a) b in
      let y : parts (numbered early new) ≡ loose.is (parts (e ++ a)) o i (marks u) f (marks v) (parts b) =
      ap (λ (l : List Item). parts l) (sym (append_assoc e a (is o i u f v ∷ b))) ∙ is-parts o i u f v (e ++ a) b in
      let z : msgs (numbered early new) ≡ msgs (numbered early old) =
      ap (λ (l : List Item). msgs l) (sym (append_assoc e a (is o i u f v ∷ b))) ∙ is-msgs o i u f v (e ++ a) b ∙ ap (λ (l : List Item). msgs l) (append_assoc e a (was o i u f v ∷ b)) in
      let n : length new ≡ length old = length-append a (is o i u f v ∷ b) ∙ sym (length-append a (was o i u f v ∷ b)) in
      let sound : Sound c early new us fin =
      record {
        few = rw n s.few;
        known = rw n s.known;
        ordered = rw z s.ordered;
        settled = s.settled;
        safe = each_change (λ (p : Item). Safe p.fates) a (was o i u f v) (is o i u f v) b
            (safe_came u f v (each_at (λ (p : Item). Safe p.fates) a (was o i u f v) b s.safe)) s.safe;
        unordered = s.unordered;
        opens = s.opens;
        spared = s.spared;
        cuts = s.cuts;
      } in
      let long : length (parts (numbered early old)) ≡ length early + length old =
      length-map (numbered early old) part_of ∙ length-append e old ∙ ap (λ (m : ℕ). m + length old) (length-map early its) in
      let few : 0 + length (loose.was (parts (e ++ a)) o i (marks u) f (marks v) (parts b)) ≤ 32767 = omega (arith, s.few, ap length x, long) in
      let low : length early ≤ 0 + length (parts (e ++ a)) = omega (arith, length-map (e ++ a) part_of, length-append e a, length-map early its) in
      by_push c es (waits 0 early) (length early) (msgs old) (msgs us) fin (state c early old us fin) (chunk false f) (state c early new us fin)
      (rw (x, y) (sets.set-pushed-at (parts (e ++ a)) o i (marks u) f (marks v) (parts b) c.base c.max 0 few (rw x at s.ordered) (length early) c.si (frags_of fin) (held_of (parts us)) low))
      (subst (λ (m : List Msg). Good c es (waits 0 early) (length early) m (msgs us) fin (state c early new us fin)) (is-msgs o i u f v a b) (ih early new us fin sound far k))

  -- before it: turned away
  pub push-old : (a b : List Past) (os : List Item) → Sound c (a ++ over (was o i u f v) ∷ b) os us fin → Far c (length (a ++ over (was o i u f v) ∷ b)) es
      → Owed c es (a ++ over (away o i u f v) ∷ b) os us
      → Good c (Push (chunk false f) ∷ es) (waits 0 (a ++ over (was o i u f v) ∷ b)) (length (a ++ over (was o i u f v) ∷ b)) (msgs os) (msgs us) fin (state c (a ++ over (was o i u f v) ∷ b) os us fin)
  push-old a b os s far k =
      let old : List Past = a ++ over (was o i u f v) ∷ b in
      let new : List Past = a ++ over (away o i u f v) ∷ b in
      let e = map its a in
      let t = map its b ++ os in
      let split : (x : Item) → numbered (a ++ over x ∷ b) os ≡ e ++ x ∷ t = λ x. ap (λ (l : List Item). l ++ os) (map-append its a (over x ∷ b)) ∙ append_assoc e (x ∷ map its b) os in
      let x : parts (numbered old os) ≡ loose.was (parts e) o i (marks u) f (marks v) (parts t) = ap (λ (l : List Item). parts l) (split (was o i u f v)) ∙ was-parts o i u f v e t in
      let y : parts (numbered new os) ≡ parts (numbered old os) =
      ap (λ (l : List Item). parts l) (split (away o i u f v)) ∙ away-parts o i u f v e t ∙ sym (ap (λ (l : List Item). parts l) (split (was o i u f v))) in
      let n : length new ≡ length old = length-append a (over (away o i u f v) ∷ b) ∙ sym (length-append a (over (was o i u f v) ∷ b)) in
      let sound : Sound c new os us fin =
      record {
        few = rw n s.few;
        known = rw n s.known;
        ordered = rw y s.ordered;
        settled = each_change Settled a (over (was o i u f v)) (over (away o i u f v)) b (bare-away u f v (each_at Settled a (over (was o i u f v)) b s.settled)) s.settled;
        safe = s.safe;
        unordered = s.unordered;
        opens = s.opens;
        spared = s.spared;
        cuts = s.cuts;
      } in
      let long : length (parts (numbered old os)) ≡ length old + length os =
      length-map (numbered old os) part_of ∙ length-append (map its old) os ∙ ap (λ (m : ℕ). m + length os) (length-map old its) in
      let few : 0 + length (loose.was (parts e) o i (marks u) f (marks v) (parts t)) ≤ 32767 = omega (arith, s.few, ap length x, long) in
      let low : 0 + length (parts e) < length old = omega (arith, length-map e part_of, length-map a its, length-append a (over (was o i u f v) ∷ b)) in
      let g = ih new os us fin sound (rw n far) k in
      by_push c es (waits 0 old) (length old) (msgs os) (msgs us) fin (state c old os us fin) (chunk false f) (state c old os us fin)
      (λ r. rw x (sets.set-turned-away (parts e) o i (marks u) f (marks v) (parts t) c.base c.max 0 few (rw x at s.ordered) (length old) c.si (frags_of fin) (held_of (parts us)) low (omega (arith, s.few))))
      (rw (n, y, same-waits 0 a (away o i u f v) (was o i u f v) b) at g)

-- ── unordered chunks ──

-- the message finished is one of those that come
finish_one : (c : Frame) (es : List Event) (w : List Message) (n : ℕ) (os x : List Msg) (m : Msg) (y fin : List Msg) (q : Queue)
    → Good c es w n os (x ++ y) (fin ++ (m ∷ [])) q → Good c es w n os (x ++ m ∷ y) fin q
finish_one c es w n os x m y fin q g r =
    let h = g r in
    let e = h.1 in (
      h.0,
      record {
        taken = e.taken;
        picked = e.picked;
        here = e.here;
        gone = e.gone;
        split = swap e.split fin (m ∷ []) x y (append_assoc fin (m ∷ []) (x ++ y));
        merged = e.merged;
        touched = e.touched;
        pieces = e.pieces;
      },
    )

none_due : (a : List Item) (p : Item) (b : List Item) → due p ≡ [] → all due (a ++ p ∷ b) ≡ all due (a ++ b)
none_due [] p b e = ap (λ (l : List Frag). l ++ all due b) e
none_due (x ∷ a) p b e = ap (λ (l : List Frag). due x ++ l) (none_due a p b e)

abbrev Spared : Frame → Item → Type 0
Spared c p = c.places ≤ p.first → Safe p.fates

module _ (c : Frame) (es : List Event) (ih : Runs c es) (o i : ℕ) (u : List Fate) (f : Frag) (v : List Fate) (early : List Past) (os : List Item) (fin : List Msg) (a b : List Item)
    (s : Sound c early os (a ++ was o i u f v ∷ b) fin) (far : Far c (length early) es) (k : Owed c es early os (a ++ is o i u f v ∷ b)) where
  abbrev pub old : List Item
  old = a ++ was o i u f v ∷ b

  abbrev new : List Item
  new = a ++ is o i u f v ∷ b

  abbrev came-marks : List Mark
  came-marks = marks u ++ came f ∷ marks v

  was-listed : Listed c.base c.max 0 (map msg (loose.was (parts a) o i (marks u) f (marks v) (parts b)))
  was-listed = rw (was-parts o i u f v a b) at s.unordered

  ab : Opens (parts a) × Opens (parts b)
  ab = opens_split (parts a) (part o i (marks u ++ shape.due f ∷ marks v)) (parts b) (rw (was-parts o i u f v a b) at s.opens)

  abbrev Entering : List Item → List Msg → Type 0
  Entering l ms = room_for (state c early os old fin) f ≡ true → Enters (state c early os old fin) (chunk true f) (state c early os l ms)

  to : (l : List Item) (ms : List Msg) → Entering l ms → Good c es (waits 0 early) (length early) (msgs os) (msgs old) fin (state c early os l ms)
      → Good c (Push (chunk true f) ∷ es) (waits 0 early) (length early) (msgs os) (msgs old) fin (state c early os old fin)
  to l ms e g = by_push c es (waits 0 early) (length early) (msgs os) (msgs old) fin (state c early os old fin) (chunk true f) (state c early os l ms) e g

  -- a chunk is still missing
  push-part : Open came-marks → Good c (Push (chunk true f) ∷ es) (waits 0 early) (length early) (msgs os) (msgs old) fin (state c early os old fin)
  push-part d =
      let w = opens_append (parts a) (part o i came-marks ∷ parts b) ab.0 (d, ab.1) in
      let sound : Sound c early os new fin =
      record {
        few = s.few;
        known = s.known;
        ordered = s.ordered;
        settled = s.settled;
        safe = s.safe;
        unordered = rw (is-msgs o i u f v a b) s.unordered;
        opens = rw (is-parts o i u f v a b) w;
        spared = each_change (Spared c) a (was o i u f v) (is o i u f v) b (λ l. safe_came u f v (each_at (Spared c) a (was o i u f v) b s.spared l)) s.spared;
        cuts = s.cuts;
      } in
      let g = ih early os new fin sound far k in
      to new fin
      (rw (was-parts o i u f v a b, is-parts o i u f v a b)
      (λ r. loose.loose_open (parts a) o i (marks u) f (marks v) (parts b) c.base c.max was-listed c.si (length early) (frags_of fin) (held_of (parts (numbered early os))) r w))
      (subst (λ (l : List Msg). Good c es (waits 0 early) (length early) (msgs os) l fin (state c early os new fin)) (is-msgs o i u f v a b) g)

  -- it was the last
  push-last : Done came-marks → Good c (Push (chunk true f) ∷ es) (waits 0 early) (length early) (msgs os) (msgs old) fin (state c early os old fin)
  push-last d =
      let m = msg (part o i came-marks) in
      let e : frags_of fin ++ arrived came-marks ≡ frags_of (fin ++ (m ∷ [])) =
      ap (λ (l : List Frag). frags_of fin ++ l) (done_all came-marks d) ∙ sym (frags-snoc c.si c.base c.max fin m) in
      let x : msgs (a ++ b) ≡ map msg (parts a ++ parts b) = ap (λ (l : List Part). map msg l) (map-append part_of a b) in
      let done : Done (marks (u ++ held f ∷ v)) = rw (marks-append u (held f ∷ v)) d in
      let z : all due new ≡ all due (a ++ b) = none_due a (is o i u f v) b (done-pending (u ++ held f ∷ v) done) in
      let sound : Sound c early os (a ++ b) (fin ++ (m ∷ [])) =
      record {
        few = s.few;
        known = s.known;
        ordered = s.ordered;
        settled = s.settled;
        safe = s.safe;
        unordered = rw x (loose.without (parts a) o i (marks u) f (marks v) (parts b) c.base c.max was-listed);
        opens = rw (map-append part_of a b) (opens_append (parts a) (parts b) ab.0 ab.1);
        spared = each_without (Spared c) a (was o i u f v) b s.spared;
        cuts = cuts-snoc c.si c.base c.max fin m s.cuts (loose.its-cut (parts a) o i (marks u) f (marks v) (parts b) c.base c.max was-listed);
      } in
      let g = ih early os (a ++ b) (fin ++ (m ∷ [])) sound far (rw z at k) in
      let y : msgs a ++ m ∷ msgs b ≡ msgs old =
      sym (map-append msg (parts a) (part o i came-marks ∷ parts b)) ∙ ap (λ (l : List Part). map msg l) (sym (is-parts o i u f v a b)) ∙ is-msgs o i u f v a b in
      to (a ++ b) (fin ++ (m ∷ []))
      (rw (was-parts o i u f v a b, map-append part_of a b, ← e)
      (λ r. loose.loose-done (parts a) o i (marks u) f (marks v) (parts b) c.base c.max was-listed c.si (length early) (frags_of fin) (held_of (parts (numbered early os))) r ab.0 d))
      (subst (λ (l : List Msg). Good c es (waits 0 early) (length early) (msgs os) l fin (state c early os (a ++ b) (fin ++ (m ∷ [])))) y
      (finish_one c es (waits 0 early) (length early) (msgs os) (msgs a) m (msgs b) fin (state c early os (a ++ b) (fin ++ (m ∷ [])))
      (subst (λ (l : List Msg). Good c es (waits 0 early) (length early) (msgs os) l (fin ++ (m ∷ [])) (state c early os (a ++ b) (fin ++ (m ∷ [])))) (x ∙ map-append msg (parts a) (parts b)) g)))

  pub push-loose : Good c (Push (chunk true f) ∷ es) (waits 0 early) (length early) (msgs os) (msgs old) fin (state c early os old fin)
  push-loose = go (done_or_open came-marks)
    where
      go : Done came-marks ⊎ Open came-marks → Good c (Push (chunk true f) ∷ es) (waits 0 early) (length early) (msgs os) (msgs old) fin (state c early os old fin)
      go (inl d) = push-last d
      go (inr d) = push-part d
