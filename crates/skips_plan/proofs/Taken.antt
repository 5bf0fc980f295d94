-- A take: the oldest finished message, else the first ordered one that waits, else the expected one if all of it is held.
-- Assumes nothing.
use mathlib.Core.Path.{◌≡◌, refl, sym, ap, subst, ◌∙◌}
use mathlib.Core.Bool.{true, false, true≢false}
use mathlib.Core.List.{List, [], ◌∷◌, ◌++◌, map, map-append, append_assoc, append-nil}
use mathlib.Core.Logic.{◌⊎◌, inl, inr}
use Prim.Native.Nat.{ℕ, suc, ◌+◌, ◌^◌, ◌<◌, ◌≤◌}
use native.Mathlib.Omega.{arith}
use lib.ListN.{length, length-append, length-map}
use Rattle.fragments.specs.Frag.{Frag, has_ssn}
use Rattle.fragments.specs.Words.{joined}
use Rattle.fragment_sets.specs.Sets.{complete}
use Rattle.reassembly_state.specs.Model.{Queue, queue, readable}
use Rattle.arrival_plan.specs.Plan.{Msg, Cut, Ordered, frags_of, Message, message, in_order, one_of, left, right}
use Rattle.arrival_plan.proofs.Lists.{Is}
use Rattle.arrival_plan.proofs.Shape.{Mark, came, due, all_of, arrived, Done, Open, done_or_open, done_all, length-all, complete-done, complete_open}
use Rattle.arrival_plan.proofs.Loose.{held_of}
use Rattle.arrival_plan.proofs.Sets.{has_it, high_sets, later-sets}
use Rattle.arrival_plan.proofs.Takes.{Gives, mess, take-oldest, take_open, take_waiting}
use Rattle.arrival_plan.proofs.Arrived.{whole_set}
use Rattle.arrival_plan.proofs.Maps.{Each, each_append}
use Rattle.skips_plan.proofs.Each.{each_parts, each_change}
use Rattle.skips_plan.proofs.Fates.{marks, bare-arrived, emptied, emptied-bare, emptied-pending, emptied-all, safe_done, Item, item, part_of, parts, msg-of, msgs, all, all_append}
use Rattle.skips_plan.proofs.Runs as runs
use Rattle.skips_plan.proofs.Runs.{Event, Take, Frame, takes, Far, farther, Outcome, Past, whole, over, its, waits, Settled, late, numbered, state, Sound, Good, Owed, Runs, by_take}
use Rattle.skips_plan.proofs.SkippedSets.{ordered-behind, waits-append}

-- ── which one waits first ──

-- none waits
abbrev pub Idle : List Past → Type 0
Idle [] = Unit {0}
Idle (whole p ∷ l) = ⊥
Idle (over p ∷ l) = Idle l

pub record Waiting (early : List Past) : Type 0 where
  pub a : List Past
  pub p : Item
  pub b : List Past
  pub is : early ≡ a ++ whole p ∷ b
  pub idle : Idle a

pub waiting_or_idle : (early : List Past) → Waiting early ⊎ Idle early
waiting_or_idle [] = inr tt
waiting_or_idle (whole p ∷ l) = inl (record { a = []; p = p; b = l; is = refl; idle = tt })
waiting_or_idle (over p ∷ l) = go (waiting_or_idle l)
  where
    go : Waiting l ⊎ Idle l → Waiting (over p ∷ l) ⊎ Idle (over p ∷ l)
    go (inl w) = inl (record { a = over p ∷ w.a; p = w.p; b = w.b; is = ap (λ (r : List Past). over p ∷ r) w.is; idle = w.idle })
    go (inr i) = inr i

pub idle_held : (early : List Past) (l : List Item) → Idle early → Each Settled early → held_of (parts (map its early ++ l)) ≡ held_of (parts l)
idle_held [] l i s = refl
idle_held (whole p ∷ early) l i s = absurd i
idle_held (over p ∷ early) l i s = rw (bare-arrived p.fates s.0) (idle_held early l i s.1)

pub idle_waits : (n : ℕ) (early : List Past) → Idle early → waits n early ≡ []
idle_waits n [] i = refl
idle_waits n (whole p ∷ early) i = absurd i
idle_waits n (over p ∷ early) i = idle_waits (suc n) early i

-- its message is let go
abbrev pub let_go : Item → Past
let_go p = over (item p.first p.ppi (emptied p.fates))

pub same-message : (p : Item) → msg-of (its (let_go p)) ≡ msg-of p
same-message p = λ i. record { first = p.first; ppi = p.ppi; frags = emptied-all p.fates i }

same-msgs : (l : List Item) (x y : Item) (r : List Item) → msg-of x ≡ msg-of y → msgs (l ++ x ∷ r) ≡ msgs (l ++ y ∷ r)
same-msgs [] x y r e = ap (λ (m : Msg). m ∷ msgs r) e
same-msgs (z ∷ l) x y r e = ap (λ (k : List Msg). msg-of z ∷ k) (same-msgs l x y r e)

same-late : (a : List Past) (x y : Past) (b : List Past) → late x ≡ late y → all late (a ++ x ∷ b) ≡ all late (a ++ y ∷ b)
same-late [] x y b e = ap (λ (l : List Frag). l ++ all late b) e
same-late (z ∷ a) x y b e = ap (λ (l : List Frag). late z ++ l) (same-late a x y b e)

-- ── all of a set is held ──

waiting_set : (base si n m max : ℕ) (uno r : List Frag) (o p : ℕ) (l : List Mark) → Cut base o p (all_of l) → Done l → Is (has_ssn m) true (arrived l)
    → Is (has_ssn m) false r → m < n → n < 2 ^ 15
    → Gives (queue si n max [] uno (arrived l ++ r)) (mess m p (joined (all_of l)) ∷ []) (queue si n max [] uno r)
waiting_set base si n m max uno r o p [] h d k g b e = absurd h
waiting_set base si n m max uno r o p (came x ∷ l) h d k g b e =
    subst (λ (i : Message). Gives (queue si n max [] uno (x ∷ (arrived l ++ r))) (i ∷ []) (queue si n max [] uno r))
    (λ j. mess m (h.0.ppi j) (joined (x ∷ done_all l d j)))
    (take_waiting si n max uno m x (arrived l) r k (complete-done base p o (came x ∷ l) h d) g b e)
waiting_set base si n m max uno r o p (due x ∷ l) h d k g b e = absurd d

-- a message of a list of numbered ones, and those behind it
pub ordered_at : (base max k : ℕ) (a : List Past) (p : Item) (l : List Item) → Ordered base max k (msgs (map its a ++ p ∷ l)) → Ordered base max (k + length a) (msgs (p ∷ l))
ordered_at base max k [] p l o = let e : k + 0 ≡ k = omega arith in rw e o
ordered_at base max k (x ∷ a) p l o = let e : k + suc (length a) ≡ suc k + length a = omega arith in rw e (ordered_at base max (suc k) a p l o.2)

-- ── the steps ──

module _ (c : Frame) (us : List Item) where
  -- a finished one
  took-finished : (early : List Past) (os : List Item) (m : Msg) (fin : List Msg) → Sound c early os us (m ∷ fin)
      → Gives (state c early os us (m ∷ fin)) (message 0 m ∷ []) (state c early os us fin)
  took-finished early os m fin s =
      take-oldest c.base m.first m.ppi c.si (length early) c.max m.frags (frags_of fin) (held_of (parts us)) (held_of (parts (numbered early os))) s.cuts.0

  -- one that waits
  module _ (a : List Past) (p : Item) (b : List Past) (os : List Item) (idle : Idle a) (s : Sound c (a ++ whole p ∷ b) os us []) where
    abbrev left_over : List Past
    left_over = a ++ let_go p ∷ b

    few : length a + suc (length b) + length os ≤ 32767
    few = omega (arith, s.few, length-append a (whole p ∷ b))

    as_long : length left_over ≡ length (a ++ whole p ∷ b)
    as_long = length-append a (let_go p ∷ b) ∙ sym (length-append a (whole p ∷ b))

    items : (x : Past) → numbered (a ++ x ∷ b) os ≡ map its a ++ its x ∷ numbered b os
    items x = rw (map-append its a (x ∷ b)) (append_assoc (map its a) (its x ∷ map its b) os)

    settled : Each Settled a × Done (marks p.fates) × Each Settled b
    settled = let k = each_parts Settled a (whole p ∷ b) s.settled in (k.0, k.1.0, k.1.1)

    ordered : Ordered c.base c.max (length a) (msgs (p ∷ numbered b os))
    ordered =
        let e : 0 + length a ≡ length a = omega arith in
        rw e at (ordered_at c.base c.max 0 a p (numbered b os) (rw (items (whole p)) at s.ordered))

    others : Is (has_ssn (length a)) false (held_of (parts (numbered b os)))
    others =
        (high_sets c.base c.max (suc (length a)) (length a) (parts (numbered b os)) ordered.2 (omega arith)
        (omega (arith, few, length-map (numbered b os) part_of, length-append (map its b) os, length-map b its))).1

    now : held_of (parts (numbered (a ++ whole p ∷ b) os)) ≡ arrived (marks p.fates) ++ held_of (parts (numbered b os))
    now = rw (items (whole p)) (idle_held a (p ∷ numbered b os) idle settled.0)

    then : held_of (parts (numbered left_over os)) ≡ held_of (parts (numbered b os))
    then = rw (items (let_go p)) (idle_held a (its (let_go p) ∷ numbered b os) idle settled.0 ∙ rw (bare-arrived (emptied p.fates) (emptied-bare p.fates)))

    took_waiting : Gives (state c (a ++ whole p ∷ b) os us []) (message (length a) (msg-of p) ∷ []) (state c left_over os us [])
    took_waiting =
        rw (now, then, as_long)
        (waiting_set c.base c.si (length (a ++ whole p ∷ b)) (length a) c.max (held_of (parts us)) (held_of (parts (numbered b os))) p.first p.ppi (marks p.fates)
        ordered.0.cut settled.1 (has_it (length a) (marks p.fates) ordered.1) others (omega (arith, length-append a (whole p ∷ b))) (omega (arith, few, length-append a (whole p ∷ b))))

    sound_left : Sound c left_over os us []
    sound_left =
        record {
          few = rw as_long s.few;
          known = rw as_long s.known;
          ordered = rw (items (let_go p), same-msgs (map its a) (its (let_go p)) p (numbered b os) (same-message p)) (rw (items (whole p)) at s.ordered);
          settled = each_change Settled a (whole p) (let_go p) b (emptied-bare p.fates) s.settled;
          safe = s.safe;
          unordered = s.unordered;
          opens = s.opens;
          spared = s.spared;
          cuts = tt;
        }

    waits-now : waits 0 (a ++ whole p ∷ b) ≡ message (length a) (msg-of p) ∷ waits 0 left_over
    waits-now =
        let e : 0 + length a ≡ length a = omega arith in
        rw (waits-append 0 a (whole p ∷ b), waits-append 0 a (let_go p ∷ b), idle_waits 0 a idle, e)

    ends_waiting : (E : Type 0) (loose : List Msg) (ms : List Message) (q : Queue) → Outcome c E (waits 0 left_over ++ in_order (length left_over) (msgs os)) loose ms q
        → Outcome c E (waits 0 (a ++ whole p ∷ b) ++ in_order (length (a ++ whole p ∷ b)) (msgs os)) loose (message (length a) (msg-of p) ∷ ms) q
    ends_waiting E loose ms q e =
        record {
          taken = message (length a) (msg-of p) ∷ e.taken;
          picked = rw waits-now (takes (rw as_long at e.picked));
          here = e.here;
          gone = e.gone;
          split = e.split;
          merged = left e.merged;
          touched = e.touched;
          pieces = e.pieces;
        }

    take-one : (es : List Event) → Runs c es → Far c (length (a ++ whole p ∷ b)) es → Owed c es (a ++ whole p ∷ b) os us
        → Good c (Take ∷ es) (waits 0 (a ++ whole p ∷ b)) (length (a ++ whole p ∷ b)) (msgs os) (msgs us) [] (state c (a ++ whole p ∷ b) os us [])
    take-one es ih far k =
        by_take c es (waits 0 (a ++ whole p ∷ b)) (length (a ++ whole p ∷ b)) (msgs os) (msgs us) [] (state c (a ++ whole p ∷ b) os us []) (message (length a) (msg-of p) ∷ [])
        (state c left_over os us []) took_waiting
        (λ r. let h = ih left_over os us [] sound_left (rw as_long far) (rw (same-late a (let_go p) (whole p) b (emptied-pending p.fates)) k) r in (h.0, ends_waiting _ _ _ _ h.1))

  -- none waits
  module _ (early : List Past) (idle : Idle early) where
    nothing-there : Sound c early [] us [] → Gives (state c early [] us []) [] (state c early [] us [])
    unfolding complete
    nothing-there s = rw (idle_held early [] idle s.settled) (take_open c.si (length early) c.max (held_of (parts us)) [] [] tt refl tt tt)

    module _ (p : Item) (os : List Item) (s : Sound c early (p ∷ os) us []) where
      its-ordered : Ordered c.base c.max (length early) (msgs (p ∷ os))
      its-ordered = ordered-behind c.base c.max early (p ∷ os) s.ordered

      behind_it : Is (has_ssn (length early)) false (held_of (parts os))
      behind_it = (high_sets c.base c.max (suc (length early)) (length early) (parts os) its-ordered.2 (omega arith) (omega (arith, s.few, length-map os part_of))).1

      took_none : Open (marks p.fates) → Gives (state c early (p ∷ os) us []) [] (state c early (p ∷ os) us [])
      took_none o =
          rw (idle_held early (p ∷ os) idle s.settled)
          (take_open c.si (length early) c.max (held_of (parts us)) (arrived (marks p.fates)) (held_of (parts os)) (has_it (length early) (marks p.fates) its-ordered.1)
          (complete_open c.base p.ppi p.first (marks p.fates) its-ordered.0.cut (omega (arith, its-ordered.0.arc, length-all (marks p.fates))) o) behind_it
          (later-sets c.base c.max (suc (length early)) (length early) (parts os) its-ordered.2 (omega arith) (omega (arith, s.few, length-map os part_of))))

      abbrev next : List Past
      next = early ++ let_go p ∷ []

      one_more : length next ≡ suc (length early)
      one_more = length-append early (let_go p ∷ []) ∙ omega arith

      moved : (x : Past) → numbered (early ++ x ∷ []) os ≡ map its early ++ its x ∷ os
      moved x = rw (map-append its early (x ∷ [])) (append_assoc (map its early) (its x ∷ []) os)

      gone_by : held_of (parts (numbered next os)) ≡ held_of (parts os)
      gone_by = rw (moved (let_go p)) (idle_held early (its (let_go p) ∷ os) idle s.settled ∙ rw (bare-arrived (emptied p.fates) (emptied-bare p.fates)))

      took-whole : Done (marks p.fates) → Gives (state c early (p ∷ os) us []) (message (length early) (msg-of p) ∷ []) (state c next os us [])
      took-whole d =
          rw (idle_held early (p ∷ os) idle s.settled, gone_by, one_more)
          (whole_set c.base c.si (length early) c.max (held_of (parts us)) (held_of (parts os)) p.first p.ppi (marks p.fates) its-ordered.0.cut d
          (has_it (length early) (marks p.fates) its-ordered.1) behind_it (omega (arith, s.few)))

      sound_next : Sound c next os us []
      sound_next =
          record {
            few = omega (arith, one_more, s.few);
            known = omega (arith, one_more, s.known);
            ordered = rw (moved (let_go p), same-msgs (map its early) (its (let_go p)) p os (same-message p)) s.ordered;
            settled = each_append Settled early (let_go p ∷ []) s.settled (emptied-bare p.fates, tt);
            safe = s.safe.1;
            unordered = s.unordered;
            opens = s.opens;
            spared = s.spared;
            cuts = tt;
          }

      still_ahead : all late next ++ all runs.due os ≡ all late early ++ all runs.due (p ∷ os)
      still_ahead =
          rw (all_append late early (let_go p ∷ []), emptied-pending p.fates)
          (append_assoc (all late early) (runs.due p ++ []) (all runs.due os) ∙ ap (λ (l : List Frag). all late early ++ (l ++ all runs.due os)) (append-nil (runs.due p)))

      ends-whole : (E : Type 0) (loose : List Msg) (ms : List Message) (q : Queue) → Outcome c E (waits 0 next ++ in_order (length next) (msgs os)) loose ms q
          → Outcome c E (waits 0 early ++ in_order (length early) (msgs (p ∷ os))) loose (message (length early) (msg-of p) ∷ ms) q
      ends-whole E loose ms q e =
          let w : waits 0 next ≡ [] = rw (waits-append 0 early (let_go p ∷ []), idle_waits 0 early idle) in
          record {
            taken = message (length early) (msg-of p) ∷ e.taken;
            picked = rw (idle_waits 0 early idle) (takes (rw (w, one_more) at e.picked));
            here = e.here;
            gone = e.gone;
            split = e.split;
            merged = left e.merged;
            touched = e.touched;
            pieces = e.pieces;
          }

      take_next : (es : List Event) → Runs c es → Far c (length early) es → Owed c es early (p ∷ os) us → Done (marks p.fates) ⊎ Open (marks p.fates)
          → Good c (Take ∷ es) (waits 0 early) (length early) (msgs (p ∷ os)) (msgs us) [] (state c early (p ∷ os) us [])
      take_next es ih far k (inl d) =
          by_take c es (waits 0 early) (length early) (msgs (p ∷ os)) (msgs us) [] (state c early (p ∷ os) us []) (message (length early) (msg-of p) ∷ []) (state c next os us []) (took-whole d)
          (λ r. let h = ih next os us [] sound_next (farther c (length early) (length next) es (omega (arith, one_more)) far) (rw still_ahead k) r in (h.0, ends-whole _ _ _ _ h.1))
      take_next es ih far k (inr d) =
          by_take c es (waits 0 early) (length early) (msgs (p ∷ os)) (msgs us) [] (state c early (p ∷ os) us []) [] (state c early (p ∷ os) us []) (took_none d) (ih early (p ∷ os) us [] s far k)

module _ (c : Frame) (es : List Event) (ih : Runs c es) where
  take-set : (early : List Past) (os us : List Item) → Sound c early os us [] → Far c (length early) es → Owed c es early os us → Waiting early ⊎ Idle early
      → Good c (Take ∷ es) (waits 0 early) (length early) (msgs os) (msgs us) [] (state c early os us [])
  take-set early os us s far k (inl w) =
      subst (λ (l : List Past). Good c (Take ∷ es) (waits 0 l) (length l) (msgs os) (msgs us) [] (state c l os us [])) (sym w.is)
      (take-one c us w.a w.p w.b os w.idle (subst (λ (l : List Past). Sound c l os us []) w.is s) es ih (subst (λ (l : List Past). Far c (length l) es) w.is far)
      (subst (λ (l : List Past). Owed c es l os us) w.is k))
  take-set early [] us s far k (inr i) =
      by_take c es (waits 0 early) (length early) [] (msgs us) [] (state c early [] us []) [] (state c early [] us []) (nothing-there c us early i s) (ih early [] us [] s far k)
  take-set early (p ∷ os) us s far k (inr i) = take_next c us early i p os s es ih far k (done_or_open (marks p.fates))

  pub take_step : Runs c (Take ∷ es)
  take_step early os us [] s far k = take-set early os us s far k (waiting_or_idle early)
  take_step early os us (m ∷ fin) s far k =
      by_take c es (waits 0 early) (length early) (msgs os) (msgs us) (m ∷ fin) (state c early os us (m ∷ fin)) (message 0 m ∷ []) (state c early os us fin) (took-finished c us early os m fin s)
      (λ r.
      let new : Sound c early os us fin =
      record {
        few = s.few;
        known = s.known;
        ordered = s.ordered;
        settled = s.settled;
        safe = s.safe;
        unordered = s.unordered;
        opens = s.opens;
        spared = s.spared;
        cuts = s.cuts.1;
      } in
      let h = ih early os us fin new far k r in
      let e = h.1 in (
        h.0,
        record {
          taken = e.taken;
          picked = e.picked;
          here = m ∷ e.here;
          gone = e.gone;
          split = one_of [] m (fin ++ msgs us) e.split;
          merged = right e.merged;
          touched = e.touched;
          pieces = e.pieces;
        },
      ))

-- what is readable comes: a finished message, one that waits, or the expected one
module _ (c : Frame) where
  abbrev Unreadable : List Past → List Item → List Item → List Msg → Type 0
  Unreadable early os us fin = readable (state c early os us fin) ≡ false

  never : {q : Queue} {m : Message} {k : Queue} → Gives q (m ∷ []) k → readable q ≡ false → ⊥
  never g e = true≢false (sym g.is ∙ e)

  -- so where nothing is, and the expected one is not waited for, none of these is left
  pub all-taken : (early : List Past) (os us : List Item) (fin : List Msg) → Sound c early os us fin → Unreadable early os us fin
      → ((p : Item) (l : List Item) → os ≡ p ∷ l → runs.due p ≡ []) → (fin ≡ []) × (os ≡ []) × Idle early
  all-taken early os us (m ∷ fin) s u e = absurd (never (took-finished c us early os m fin s) u)
  all-taken early os us [] s u e = let g = go os s u e (waiting_or_idle early) in (refl, g.0, g.1)
    where
      go : (os : List Item) → Sound c early os us [] → Unreadable early os us [] → ((p : Item) (l : List Item) → os ≡ p ∷ l → runs.due p ≡ []) → Waiting early ⊎ Idle early
          → (os ≡ []) × Idle early
      go os s u e (inl w) =
          let t = subst (λ (l : List Past). Sound c l os us []) w.is s in
          let v = subst (λ (l : List Past). Unreadable l os us []) w.is u in
          absurd (never (took_waiting c us w.a w.p w.b os w.idle t) v)
      go [] s u e (inr i) = (refl, i)
      go (p ∷ os) s u e (inr i) = absurd (never (took-whole c us early i p os s (safe_done p.fates s.safe.0 (e p os refl))) u)
