-- Arrival order does not matter: the invariant of a run, and the theorem.
-- Assumes nothing.
use mathlib.Core.Path.{◌≡◌, refl, sym, ap, subst, ◌∙◌}
use mathlib.Core.Bool.{true, false, true≢false}
use mathlib.Core.List.{List, [], ◌∷◌, ◌++◌, map, map-append, append_assoc, append-nil, cons≢nil}
use mathlib.Core.Logic.{◌⊎◌, inl, inr}
use Prim.Native.Nat.{ℕ, suc, ◌+◌, ◌^◌, ◌<◌, ◌≤◌}
use native.Mathlib.Omega.{arith}
use lib.ListN.{length, length-append}
use lib.Seq.{append_snoc}
use Rattle.fragments.specs.Frag.{Frag, has_ssn}
use Rattle.fragments.specs.Words.{size, joined}
use Rattle.fragment_sets.specs.Sets.{complete}
use Rattle.reassembly_state.specs.Model.{Queue, queue, held, room_for, readable}
use Rattle.arrival_plan.specs.Plan.{Msg, Cut, Ordered, Carried, chunk, frags_of, chunks_of, Message, message, in_order, Event, Push, Take, pushes, after_take, final, out, Roomy, Order, none_left, one_of, Merge, neither, left, right, Came, starts, Unrefused}
use Rattle.arrival_plan.proofs.Lists.{Is}
use Rattle.arrival_plan.proofs.Shape.{Mark, came, due, all_of, arrived, missing, Done, Open, done_or_open, done_all, done-missing, length-all, complete-done, complete_open}
use Rattle.arrival_plan.proofs.Pushes.{Enters}
use Rattle.arrival_plan.proofs.Loose.{Listed, Part, part, msg, held_of, missing-of, Opens, opens_append, opens_split, same-msgs, was, is, is-listed, without, its-cut, loose_open, loose-done}
use Rattle.arrival_plan.proofs.Sets.{has_it, high_sets, later-sets, is-ordered, set-pushed}
use Rattle.arrival_plan.proofs.Takes.{Gives, mess, take-oldest, take_open, take_whole}
use Rattle.arrival_plan.proofs.Locate.{Picked, order_nil, order_cons, At, chunks, at-chunks, in_parts}

-- ── nothing is due ──

pub missing-done : (l : List Mark) → missing l ≡ [] → Done l
missing-done [] e = tt
missing-done (came x ∷ l) e = missing-done l e
missing-done (due x ∷ l) e = absurd (cons≢nil e)

pub append-nil-both : {A : Type 0} (a b : List A) → a ++ b ≡ [] → (a ≡ []) × (b ≡ [])
append-nil-both [] b e = (refl, e)
append-nil-both (x ∷ a) b e = absurd (cons≢nil e)

pub map-nil : {A B : Type 0} (g : A → B) (l : List A) → map g l ≡ [] → l ≡ []
map-nil g [] e = refl
map-nil g (x ∷ l) e = absurd (cons≢nil e)

open_missing : (l : List Mark) → Open l → missing l ≡ [] → ⊥
open_missing [] o e = o
open_missing (came x ∷ l) o e = open_missing l o e
open_missing (due x ∷ l) o e = cons≢nil e

no_bytes : {l : List Frag} → l ≡ [] → size l ≡ 0
unfolding size
no_bytes e = ap size e

-- all of a set came
pub whole_set : (base si n max : ℕ) (uno r : List Frag) (o p : ℕ) (l : List Mark) → Cut base o p (all_of l) → Done l → Is (has_ssn n) true (arrived l)
    → Is (has_ssn n) false r → n < 2 ^ 15
    → Gives (queue si n max [] uno (arrived l ++ r)) (mess n p (joined (all_of l)) ∷ []) (queue si (suc n) max [] uno r)
whole_set base si n max uno r o p [] h d k g b = absurd h
whole_set base si n max uno r o p (came x ∷ l) h d k g b =
    subst (λ (m : Message). Gives (queue si n max [] uno (x ∷ (arrived l ++ r))) (m ∷ []) (queue si (suc n) max [] uno r))
    (λ j. mess n (h.0.ppi j) (joined (x ∷ done_all l d j)))
    (take_whole si n max uno x (arrived l) r k (complete-done base p o (came x ∷ l) h d) g b)
whole_set base si n max uno r o p (due x ∷ l) h d k g b = absurd d

-- ── the invariant ──

module _ (si base max : ℕ) where
  abbrev pub Cuts : List Msg → Type 0
  Cuts [] = Unit {0}
  Cuts (m ∷ ms) = Cut base m.first m.ppi m.frags × Cuts ms

  pub cuts-snoc : (ms : List Msg) (m : Msg) → Cuts ms → Cut base m.first m.ppi m.frags → Cuts (ms ++ (m ∷ []))
  cuts-snoc [] m h k = (k, tt)
  cuts-snoc (x ∷ ms) m h k = (h.0, cuts-snoc ms m h.1 k)

  -- ordered messages from number n on, unordered ones of which a chunk is due, and finished ones
  record Sound (n : ℕ) (os us : List Part) (fin : List Msg) : Type 0 where
    few : n + length os ≤ 32767
    ordered : Ordered base max n (map msg os)
    unordered : Listed base max 0 (map msg us)
    opens : Opens us
    cuts : Cuts fin

  abbrev state : ℕ → List Part → List Part → List Msg → Queue
  state n os us fin = queue si n max (frags_of fin) (held_of us) (held_of os)

  -- what is still to come out comes out
  record Ended (n : ℕ) (os us : List Msg) (fin : List Msg) (ms : List Message) (q : Queue) : Type 0 where
    loose : List Message
    some_order : Order Message loose (map (message 0) us)
    merged : Merge Message (in_order n os) (map (message 0) fin ++ loose) ms
    nothing-held : held q ≡ []

  -- no push is refused, and at the end everything came out; ms came before
  abbrev After : List Event → ℕ → List Msg → List Msg → List Msg → List Message → Queue → Type 0
  After es n os us fin ms q = Roomy q es → Unrefused q es × (readable (final q es) ≡ false → Ended n os us fin (ms ++ out q es) (final q es))

  abbrev Good : List Event → ℕ → List Msg → List Msg → List Msg → Queue → Type 0
  Good es n os us fin q = After es n os us fin [] q

  abbrev Runs : List Event → Type 0
  Runs es =
      (n : ℕ) (os us : List Part) (fin : List Msg) → Sound n os us fin → Order Carried (pushes es) (chunks (missing-of os) (missing-of us))
      → Good es n (map msg os) (map msg us) fin (state n os us fin)

  -- ── a take ──

  took-finished : (n : ℕ) (os us : List Part) (m : Msg) (fin : List Msg) → Sound n os us (m ∷ fin) → Gives (state n os us (m ∷ fin)) (message 0 m ∷ []) (state n os us fin)
  took-finished n os us m fin s = take-oldest base m.first m.ppi si n max m.frags (frags_of fin) (held_of us) (held_of os) s.cuts.0

  module _ (n : ℕ) (p : Part) (os us : List Part) (s : Sound n (p ∷ os) us []) where
    others : Is (has_ssn n) false (held_of os)
    others = (high_sets base max (suc n) n os s.ordered.2 (omega arith) (omega (arith, s.few))).1

    took_none : Open p.marks → Gives (state n (p ∷ os) us []) [] (state n (p ∷ os) us [])
    took_none o =
        take_open si n max (held_of us) (arrived p.marks) (held_of os) (has_it n p.marks s.ordered.1)
        (complete_open base p.ppi p.first p.marks s.ordered.0.cut (omega (arith, s.ordered.0.arc, length-all p.marks)) o) others
        (later-sets base max (suc n) n os s.ordered.2 (omega arith) (omega (arith, s.few)))

    took-whole : Done p.marks → Gives (state n (p ∷ os) us []) (message n (msg p) ∷ []) (state (suc n) os us [])
    took-whole d =
        whole_set base si n max (held_of us) (held_of os) p.first p.ppi p.marks s.ordered.0.cut d (has_it n p.marks s.ordered.1) others (omega (arith, s.few))

  nothing-there : (n : ℕ) (us : List Part) → Gives (state n [] us []) [] (state n [] us [])
  unfolding complete
  nothing-there n us = take_open si n max (held_of us) [] [] tt refl tt tt

  by_take : (es : List Event) (n : ℕ) (os us fin : List Msg) (q : Queue) (ms : List Message) (k : Queue) → Gives q ms k
      → After es n os us fin ms k → Good (Take ∷ es) n os us fin q
  by_take es n os us fin q ms k g h r =
      let s : After es n os us fin ms (after_take q) = subst (λ (k : Queue). After es n os us fin ms k) (sym g.after) h in
      let e = s r in
      (e.0, λ t. subst (λ (l : List Message). Ended n os us fin l (final (after_take q) es)) (sym (g.said (out (after_take q) es))) (e.1 t))

  take_step : (es : List Event) → Runs es → Runs (Take ∷ es)
  take_step es ih n os us (m ∷ fin) s o =
      by_take es n (map msg os) (map msg us) (m ∷ fin) (state n os us (m ∷ fin)) (message 0 m ∷ []) (state n os us fin) (took-finished n os us m fin s)
      (λ r.
      let h = ih n os us fin (record { few = s.few; ordered = s.ordered; unordered = s.unordered; opens = s.opens; cuts = s.cuts.1 }) o r in
      (h.0, λ t. let e = h.1 t in record { loose = e.loose; some_order = e.some_order; merged = right e.merged; nothing-held = e.nothing-held }))
  take_step es ih n [] us [] s o = by_take es n [] (map msg us) [] (state n [] us []) [] (state n [] us []) (nothing-there n us) (ih n [] us [] s o)
  take_step es ih n (p ∷ os) us [] s o = go (done_or_open p.marks)
    where
      go : Done p.marks ⊎ Open p.marks → Good (Take ∷ es) n (map msg (p ∷ os)) (map msg us) [] (state n (p ∷ os) us [])
      go (inl d) =
          by_take es n (map msg (p ∷ os)) (map msg us) [] (state n (p ∷ os) us []) (message n (msg p) ∷ []) (state (suc n) os us []) (took-whole n p os us s d)
          (λ r.
          let z : Order Carried (pushes es) (chunks (missing-of os) (missing-of us)) = rw (done-missing p.marks d) at o in
          let h = ih (suc n) os us [] (record { few = omega (arith, s.few); ordered = s.ordered.2; unordered = s.unordered; opens = s.opens; cuts = tt }) z r in
          (h.0, λ t. let e = h.1 t in record { loose = e.loose; some_order = e.some_order; merged = left e.merged; nothing-held = e.nothing-held }))
      go (inr d) =
          by_take es n (map msg (p ∷ os)) (map msg us) [] (state n (p ∷ os) us []) [] (state n (p ∷ os) us []) (took_none n p os us s d) (ih n (p ∷ os) us [] s o)

  -- ── a push ──

  by_push : (es : List Event) (n : ℕ) (os us fin : List Msg) (q : Queue) (c : Carried) (k : Queue) → (room_for q c.frag ≡ true → Enters q c k)
      → Good es n os us fin k → Good (Push c ∷ es) n os us fin q
  by_push es n os us fin q c k e g r =
      let i = e r.0 in
      let h = subst (λ (l : Queue). Good es n os us fin l) (sym i.after) g r.1 in
      ((i.quiet, h.0), h.1)

  push-set : (es : List Event) → Runs es → (n : ℕ) (a : List Part) (o i : ℕ) (u : List Mark) (f : Frag) (v : List Mark) (b us : List Part) (fin : List Msg)
      → Sound n (was a o i u f v b) us fin → Order Carried (pushes es) (chunks (missing-of (is a o i u f v b)) (missing-of us))
      → Good (Push (chunk false f) ∷ es) n (map msg (was a o i u f v b)) (map msg us) fin (state n (was a o i u f v b) us fin)
  push-set es ih n a o i u f v b us fin s k =
      let y = length-append a (part o i (u ++ due f ∷ v) ∷ b) in
      let z = length-append a (part o i (u ++ came f ∷ v) ∷ b) in
      let g = ih n (is a o i u f v b) us fin
      (record { few = omega (arith, s.few); ordered = is-ordered a o i u f v b base max n s.few s.ordered; unordered = s.unordered; opens = s.opens; cuts = s.cuts }) k in
      by_push es n (map msg (was a o i u f v b)) (map msg us) fin (state n (was a o i u f v b) us fin) (chunk false f) (state n (is a o i u f v b) us fin)
      (set-pushed a o i u f v b base max n s.few s.ordered si (frags_of fin) (held_of us))
      (subst (λ (m : List Msg). Good es n m (map msg us) fin (state n (is a o i u f v b) us fin)) (same-msgs o i u f v a b) g)

  pub frags-snoc : (ms : List Msg) (m : Msg) → frags_of (ms ++ (m ∷ [])) ≡ frags_of ms ++ m.frags
  frags-snoc [] m = append-nil m.frags
  frags-snoc (x ∷ ms) m = ap (λ (l : List Frag). x.frags ++ l) (frags-snoc ms m) ∙ sym (append_assoc x.frags (frags_of ms) m.frags)

  none_missing : (a : List Part) (p : Part) (b : List Part) → missing p.marks ≡ [] → missing-of (a ++ p ∷ b) ≡ missing-of (a ++ b)
  none_missing [] p b e = ap (λ (l : List Frag). l ++ missing-of b) e
  none_missing (x ∷ a) p b e = ap (λ (l : List Frag). missing x.marks ++ l) (none_missing a p b e)

  -- the message finished is one of those that come out
  finish_one : (es : List Event) (n : ℕ) (os x : List Msg) (m : Msg) (y fin : List Msg) (q : Queue) → Good es n os (x ++ y) (fin ++ (m ∷ [])) q → Good es n os (x ++ m ∷ y) fin q
  finish_one es n os x m y fin q g r = (
    (g r).0,
    λ t.
        let e = (g r).1 t in
        record {
          loose = message 0 m ∷ e.loose;
          some_order = rw map-append (one_of (map (message 0) x) (message 0 m) (map (message 0) y) (rw map-append at e.some_order));
          merged = rw (map-append, append_snoc) at e.merged;
          nothing-held = e.nothing-held;
        },
  )

  push-loose : (es : List Event) → Runs es → (n : ℕ) (a : List Part) (o i : ℕ) (u : List Mark) (f : Frag) (v : List Mark) (b os : List Part) (fin : List Msg)
      → Sound n os (was a o i u f v b) fin → Order Carried (pushes es) (chunks (missing-of os) (missing-of (is a o i u f v b)))
      → Good (Push (chunk true f) ∷ es) n (map msg os) (map msg (was a o i u f v b)) fin (state n os (was a o i u f v b) fin)
  push-loose es ih n a o i u f v b os fin s k = go (done_or_open (u ++ came f ∷ v))
    where
      m : Msg
      m = msg (part o i (u ++ came f ∷ v))

      ab : Opens a × Opens b
      ab = opens_split a (part o i (u ++ due f ∷ v)) b s.opens

      to : (l : List Part) (ms : List Msg) → (room_for (state n os (was a o i u f v b) fin) f ≡ true → Enters (state n os (was a o i u f v b) fin) (chunk true f) (state n os l ms))
          → Good es n (map msg os) (map msg (was a o i u f v b)) fin (state n os l ms)
          → Good (Push (chunk true f) ∷ es) n (map msg os) (map msg (was a o i u f v b)) fin (state n os (was a o i u f v b) fin)
      to l ms e g = by_push es n (map msg os) (map msg (was a o i u f v b)) fin (state n os (was a o i u f v b) fin) (chunk true f) (state n os l ms) e g

      go : Done (u ++ came f ∷ v) ⊎ Open (u ++ came f ∷ v)
          → Good (Push (chunk true f) ∷ es) n (map msg os) (map msg (was a o i u f v b)) fin (state n os (was a o i u f v b) fin)
      go (inr d) =
          let w = opens_append a (part o i (u ++ came f ∷ v) ∷ b) ab.0 (d, ab.1) in
          let g = ih n os (is a o i u f v b) fin
          (record { few = s.few; ordered = s.ordered; unordered = is-listed a o i u f v b base max s.unordered; opens = w; cuts = s.cuts }) k in
          to (is a o i u f v b) fin (λ r. loose_open a o i u f v b base max s.unordered si n (frags_of fin) (held_of os) r w)
          (subst (λ (l : List Msg). Good es n (map msg os) l fin (state n os (is a o i u f v b) fin)) (same-msgs o i u f v a b) g)
      go (inl d) =
          let e : frags_of fin ++ arrived (u ++ came f ∷ v) ≡ frags_of (fin ++ (m ∷ [])) =
          ap (λ (l : List Frag). frags_of fin ++ l) (done_all (u ++ came f ∷ v) d) ∙ sym (frags-snoc fin m) in
          let z : Order Carried (pushes es) (chunks (missing-of os) (missing-of (a ++ b))) =
          subst (λ (l : List Frag). Order Carried (pushes es) (chunks (missing-of os) l)) (none_missing a (part o i (u ++ came f ∷ v)) b (done-missing (u ++ came f ∷ v) d)) k in
          let g = ih n os (a ++ b) (fin ++ (m ∷ []))
          (record {
            few = s.few;
            ordered = s.ordered;
            unordered = without a o i u f v b base max s.unordered;
            opens = opens_append a b ab.0 ab.1;
            cuts = cuts-snoc fin m s.cuts (its-cut a o i u f v b base max s.unordered);
          }) z in
          to (a ++ b) (fin ++ (m ∷ []))
          (λ r. subst (λ (l : List Frag). Enters (state n os (was a o i u f v b) fin) (chunk true f) (queue si n max l (held_of (a ++ b)) (held_of os))) e
          (loose-done a o i u f v b base max s.unordered si n (frags_of fin) (held_of os) r ab.0 d))
          (subst (λ (l : List Msg). Good es n (map msg os) l fin (state n os (a ++ b) (fin ++ (m ∷ [])))) (sym (map-append msg a (part o i (u ++ came f ∷ v) ∷ b)) ∙ same-msgs o i u f v a b)
          (finish_one es n (map msg os) (map msg a) m (map msg b) fin (state n os (a ++ b) (fin ++ (m ∷ []))) (rw (map-append msg a b) at g)))

  push_step : (c : Carried) (es : List Event) → Runs es → Runs (Push c ∷ es)
  push_step c es ih n os us fin s o = let k = order_cons o in go k (at-chunks (missing-of os) (missing-of us) k.front c k.back k.is)
    where
      go : (k : Picked Carried c (pushes es) (chunks (missing-of os) (missing-of us)))
          → At (chunk false) c (missing-of os) (λ (r : List Frag). chunks r (missing-of us)) (k.front ++ k.back)
          ⊎ At (chunk true) c (missing-of us) (λ (r : List Frag). chunks (missing-of os) r) (k.front ++ k.back)
          → Good (Push c ∷ es) n (map msg os) (map msg us) fin (state n os us fin)
      go k (inl h) =
          let w = in_parts os h.front h.it h.back h.is in
          subst (λ (d : Carried). Good (Push d ∷ es) n (map msg os) (map msg us) fin (state n os us fin)) (sym h.chunk-is)
          (subst (λ (l : List Part). Good (Push (chunk false h.it) ∷ es) n (map msg l) (map msg us) fin (state n l us fin)) (sym w.before)
          (push-set es ih n w.a w.o w.i w.u h.it w.v w.b us fin (subst (λ (l : List Part). Sound n l us fin) w.before s)
          (subst (λ (l : List Frag). Order Carried (pushes es) (chunks l (missing-of us))) (sym w.after) (subst (λ (l : List Carried). Order Carried (pushes es) l) h.others_are k.others))))
      go k (inr h) =
          let w = in_parts us h.front h.it h.back h.is in
          subst (λ (d : Carried). Good (Push d ∷ es) n (map msg os) (map msg us) fin (state n os us fin)) (sym h.chunk-is)
          (subst (λ (l : List Part). Good (Push (chunk true h.it) ∷ es) n (map msg os) (map msg l) fin (state n os l fin)) (sym w.before)
          (push-loose es ih n w.a w.o w.i w.u h.it w.v w.b os fin (subst (λ (l : List Part). Sound n os l fin) w.before s)
          (subst (λ (l : List Frag). Order Carried (pushes es) (chunks (missing-of os) l)) (sym w.after) (subst (λ (l : List Carried). Order Carried (pushes es) l) h.others_are k.others))))

  -- ── the end ──

  ended : (n : ℕ) (os us : List Part) (fin : List Msg) → Sound n os us fin → missing-of os ≡ [] → missing-of us ≡ [] → readable (state n os us fin) ≡ false
      → Ended n (map msg os) (map msg us) fin [] (state n os us fin)
  ended n os us (m ∷ fin) s e g t =
      absurd (true≢false (sym (took-finished n os us m fin s).is ∙ t))
  ended n os (p ∷ us) [] s e g t = absurd (open_missing p.marks s.opens.0 (append-nil-both (missing p.marks) (missing-of us) g).0)
  ended n (p ∷ os) [] [] s e g t =
      let d = missing-done p.marks (append-nil-both (missing p.marks) (missing-of os) e).0 in
      absurd (true≢false (sym (took-whole n p os [] s d).is ∙ t))
  ended n [] [] [] s e g t = record { loose = []; some_order = none_left; merged = neither; nothing-held = refl }

  last_step : Runs []
  last_step n os us fin s o r =
      let e = append-nil-both (map (chunk false) (missing-of os)) (map (chunk true) (missing-of us)) (order_nil o) in
      (tt, λ t. ended n os us fin s (map-nil (chunk false) (missing-of os) e.0) (map-nil (chunk true) (missing-of us) e.1) t)

  arrives : (es : List Event) → Runs es
  arrives [] = last_step
  arrives (Push c ∷ es) = push_step c es (arrives es)
  arrives (Take ∷ es) = take_step es (arrives es)

-- ── the start, and the theorem ──

-- a message of which nothing came yet
abbrev dues : List Frag → List Mark
dues [] = []
dues (f ∷ l) = due f ∷ dues l

abbrev all-due : List Msg → List Part
all-due [] = []
all-due (m ∷ ms) = part m.first m.ppi (dues m.frags) ∷ all-due ms

dues-all : (l : List Frag) → all_of (dues l) ≡ l
dues-all [] = refl
dues-all (f ∷ l) = ap (λ (r : List Frag). f ∷ r) (dues-all l)

dues-missing : (l : List Frag) → missing (dues l) ≡ l
dues-missing [] = refl
dues-missing (f ∷ l) = ap (λ (r : List Frag). f ∷ r) (dues-missing l)

dues-arrived : (l : List Frag) → arrived (dues l) ≡ []
dues-arrived [] = refl
dues-arrived (f ∷ l) = dues-arrived l

due-msgs : (ms : List Msg) → map msg (all-due ms) ≡ ms
due-msgs [] = refl
due-msgs (m ∷ ms) = λ i. ◌∷◌ (record { first = m.first; ppi = m.ppi; frags = dues-all m.frags i }) (due-msgs ms i)

due-missing : (ms : List Msg) → missing-of (all-due ms) ≡ frags_of ms
due-missing [] = refl
due-missing (m ∷ ms) = λ i. dues-missing m.frags i ++ due-missing ms i

due-held : (ms : List Msg) → held_of (all-due ms) ≡ []
due-held [] = refl
due-held (m ∷ ms) = ap (λ (l : List Frag). l ++ held_of (all-due ms)) (dues-arrived m.frags) ∙ due-held ms

due-length : (ms : List Msg) → length (all-due ms) ≡ length ms
due-length [] = refl
due-length (m ∷ ms) = ap suc (due-length ms)

dues_open : (base o p : ℕ) (l : List Frag) → Cut base o p l → Open (dues l)
dues_open base o p [] h = h
dues_open base o p (f ∷ l) h = tt

due_open : (base max o : ℕ) (ms : List Msg) → Listed base max o ms → Opens (all-due ms)
due_open base max o [] h = tt
due_open base max o (m ∷ ms) h = (dues_open base m.first m.ppi m.frags h.0.cut, due_open base max (m.first + length m.frags) ms h.2)

-- arrival order does not matter, where the unordered messages are listed as they lie in the arc
pub arrival-listed : (si base max : ℕ) (os us : List Msg) → length os ≤ 32767 → Ordered base max 0 os → Listed base max 0 us
    → (es : List Event) → Order Carried (pushes es) (chunks_of os us) → Roomy (starts si max) es
    → Unrefused (starts si max) es × (readable (final (starts si max) es) ≡ false → Came os us (out (starts si max) es) (final (starts si max) es))
arrival-listed si base max os us few ho hu es o r =
    let s : Sound si base max 0 (all-due os) (all-due us) [] =
    record {
      few = omega (arith, due-length os);
      ordered = rw (due-msgs os) ho;
      unordered = rw (due-msgs us) hu;
      opens = due_open base max 0 us hu;
      cuts = tt;
    } in
    let y : Order Carried (pushes es) (chunks (missing-of (all-due os)) (missing-of (all-due us))) = rw (due-missing os, due-missing us) o in
    let g = arrives si base max es 0 (all-due os) (all-due us) [] s y in
    let h : Good si base max es 0 os us [] (starts si max) = rw (due-msgs os, due-msgs us, due-held os, due-held us) at g in (
      (h r).0,
      λ z.
          let e = (h r).1 z in
          record { loose = e.loose; some_order = e.some_order; merged = e.merged; nothing-held = e.nothing-held; no_bytes = no_bytes e.nothing-held },
    )
