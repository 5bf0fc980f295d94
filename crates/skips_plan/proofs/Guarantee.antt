-- The guarantee on the model: the end of a run, its start, and all events between.
-- Assumes nothing.
use mathlib.Core.Path.{◌≡◌, refl, ap, subst, ◌∙◌}
use mathlib.Core.Bool.{true, false}
use mathlib.Core.List.{List, [], ◌∷◌, ◌++◌, map, append-nil, cons≢nil}
use Prim.Native.Nat.{ℕ, suc, ◌+◌, ◌^◌, ◌<◌, ◌≤◌}
use mathlib.Core.Logic.{inl, inr}
use native.Mathlib.Decide.{dec_lt}
use native.Mathlib.Omega.{arith}
use lib.ListN.{length}
use Rattle.fragments.specs.Frag.{Frag, ssn_of}
use Rattle.arrival_plan.specs.Plan.{Msg, Cut, Whole, Numbered, Ordered, Plan, Message, in_order, Carried, chunk, frags_of, chunks_of, Order, none_left, one_of, Merge, neither, left, right, starts}
use Rattle.arrival_plan.proofs.Shape.{all_of, arrived, Open, length-all, Places, places_cut}
use Rattle.arrival_plan.proofs.Loose.{Listed, held_of, Opens}
use Rattle.arrival_plan.proofs.Sorts.{sorted, listed_sorted, flat, sorted_flat, sorted_back, flat-chunks}
use Rattle.arrival_plan.proofs.Maps.{Each, each_append}
use Rattle.skips_plan.proofs.Each.{each_parts, each_back, each_unmap}
use Rattle.skips_plan.proofs.Fates.{Fate, held, coming, lost, marks, pending, Safe, safe_open, length-marks, Item, item, parts, msg-of, msgs, all}
use Rattle.skips_plan.proofs.Runs.{Event, Push, Take, SkipOrdered, SkipUnordered, pushes, Frame, Within, Far, Marked, GivenUp, End, Picks, no_more, leaves, Passed, Pieces, Outcome, Past, waits, due, late, numbered, state, ahead, Sound, Good, Runs}
use Rattle.skips_plan.proofs.SkippedLoose.{skip_loose}
use Rattle.skips_plan.proofs.SkippedSets.{ordered-behind, skip_sets}
use Rattle.skips_plan.proofs.Taken.{Idle, idle_held, idle_waits, take_step, all-taken}
use Rattle.skips_plan.proofs.Located.{push_step}

order_same : {A : Type 0} (l : List A) → Order A l l
order_same [] = none_left
order_same (x ∷ l) = one_of [] x l (order_same l)

-- ── what is missing ──

-- what is not held of messages
abbrev unheld : List Fate → List Frag
unheld [] = []
unheld (held x ∷ l) = unheld l
unheld (coming x ∷ l) = x ∷ unheld l
unheld (lost x ∷ l) = x ∷ unheld l

abbrev unheld-of : Item → List Frag
unheld-of p = unheld p.fates

parted_one : (l : List Fate) (a b t : List Frag) → Merge Frag a b t → Merge Frag (arrived (marks l) ++ a) (unheld l ++ b) (all_of (marks l) ++ t)
parted_one [] a b t m = m
parted_one (held x ∷ l) a b t m = left (parted_one l a b t m)
parted_one (coming x ∷ l) a b t m = right (parted_one l a b t m)
parted_one (lost x ∷ l) a b t m = right (parted_one l a b t m)

parted_all : (us : List Item) → Merge Frag (held_of (parts us)) (all unheld-of us) (frags_of (msgs us))
parted_all [] = neither
parted_all (p ∷ us) = parted_one p.fates (held_of (parts us)) (all unheld-of us) (frags_of (msgs us)) (parted_all us)

module _ (c : Frame) where
  -- no chunk of a number that is not below the bound is given up
  none_numbered : (n : ℕ) (l : List Fate) → Numbered n (all_of (marks l)) → c.numbers ≤ n → Each (λ (f : Frag). ssn_of f < c.numbers) (pending l) → pending l ≡ []
  none_numbered n [] h k g = refl
  none_numbered n (held x ∷ l) h k g = none_numbered n l h.1 k g
  none_numbered n (coming x ∷ l) h k g = absurd (omega (arith, h.0, g.0))
  none_numbered n (lost x ∷ l) h k g = none_numbered n l h.1 k g

  -- nor one of a place that is not
  none_placed : (o : ℕ) (l : List Fate) → Places c.base o (marks l) → o + length l ≤ 2 ^ 31 → c.places ≤ o → Each (Marked c true) (pending l) → pending l ≡ []
  none_placed o [] h k b g = refl
  none_placed o (held x ∷ l) h k b g = none_placed (suc o) l h.1 (omega arith) (omega arith) g
  none_placed o (coming x ∷ l) h k b g = absurd (omega (arith, g.0 o h.0 (omega arith)))
  none_placed o (lost x ∷ l) h k b g = none_placed (suc o) l h.1 (omega arith) (omega arith) g

  -- something is missing of it, and what is missing is given up or lost: it was touched
  touched_one : (p : Item) → Whole c.base c.max (msg-of p) → Open (marks p.fates) → (c.places ≤ p.first → Safe p.fates) → Each (Marked c true) (due p) → p.first < c.places
  touched_one p w o s g = go (dec_lt p.first c.places)
    where
      go : Dec (p.first < c.places) → p.first < c.places
      go (yes l) = l
      go (no l) =
          let k = marks p.fates in
          let e = none_placed p.first p.fates (places_cut c.base p.ppi p.first k w.cut) (omega (arith, w.arc, length-all k, length-marks p.fates)) (omega arith) g in
          absurd (safe_open p.fates o e (s (omega arith)))

  touched_all : (E : Type 0) (o : ℕ) (us : List Item) → Listed c.base c.max o (msgs us) → Opens (parts us) → Each (λ (p : Item). c.places ≤ p.first → Safe p.fates) us
      → (E → Each (Marked c true) (all due us)) → Each (λ (m : Msg). E → m.first < c.places) (msgs us)
  touched_all E o [] l h s g = tt
  touched_all E o (p ∷ us) l h s g = (
    λ e. touched_one p l.0 h.0 s.0 (each_parts (Marked c true) (due p) (all due us) (g e)).0,
    touched_all E (p.first + length (all_of (marks p.fates))) us l.2 h.1 s.1 (λ e. (each_parts (Marked c true) (due p) (all due us) (g e)).1),
  )

  leave_all : (P : Message → Type 0) (E : Type 0) (l : List Message) → (E → l ≡ []) → ((m : Message) → (E → ⊥) → P m) → Picks P l []
  leave_all P E [] h g = no_more
  leave_all P E (m ∷ l) h g = leaves (g m (λ e. cons≢nil (h e))) (leave_all P E l (λ e. absurd (cons≢nil (h e))) g)

  none_of : (P : Msg → Type 0) (E : Type 0) (l : List Msg) → (E → l ≡ []) → Each (λ (m : Msg). E → P m) l
  none_of P E [] h = tt
  none_of P E (m ∷ l) h = (λ e. absurd (cons≢nil (h e)), none_of P E l (λ e. absurd (cons≢nil (h e))))

  -- ── the end ──

  module _ (early : List Past) (os us : List Item) (fin : List Msg) (s : Sound c early os us fin) (far : c.numbers ≤ length early) (o : Order Carried c.never (ahead early os us)) where
    abbrev E : Type 0
    E = End c (state c early os us fin)

    owed : E → Each (λ (f : Frag). ssn_of f < c.numbers) (all late early ++ all due os) × Each (Marked c true) (all due us)
    owed e =
        let k = each_parts (GivenUp c) (map (chunk false) (all late early ++ all due os)) (map (chunk true) (all due us)) (each_back (GivenUp c) o e.0) in
        (each_unmap (GivenUp c) (chunk false) (all late early ++ all due os) k.0, each_unmap (GivenUp c) (chunk true) (all due us) k.1)

    -- the expected one is not waited for
    no_wait : E → (p : Item) (l : List Item) → os ≡ p ∷ l → due p ≡ []
    no_wait e p l h =
        let g = (each_parts (λ (f : Frag). ssn_of f < c.numbers) (all late early) (all due os) (owed e).0).1 in
        let k = (each_parts (λ (f : Frag). ssn_of f < c.numbers) (due p) (all due l) (subst (λ (r : List Item). Each (λ (f : Frag). ssn_of f < c.numbers) (all due r)) h g)).0 in
        let n = subst (λ (r : List Item). Ordered c.base c.max (length early) (msgs r)) h (ordered-behind c.base c.max early os s.ordered) in
        none_numbered (length early) p.fates n.1 far k

    none_left_over : E → (fin ≡ []) × (os ≡ []) × Idle early
    none_left_over e = all-taken c early os us fin s e.1 (no_wait e)

    pieces : E → Pieces (state c early os us fin) (fin ++ msgs us)
    pieces e =
        let g = none_left_over e in
        let h : held_of (parts (numbered early os)) ≡ [] = ap (λ (l : List Item). held_of (parts (numbered early l))) g.1 ∙ idle_held early [] g.2 s.settled in
        record { others = all unheld-of us; parted = rw (g.0, h, append-nil (held_of (parts us))) (parted_all us) }

    at_end : Outcome c E (waits 0 early ++ in_order (length early) (msgs os)) (fin ++ msgs us) [] (state c early os us fin)
    at_end =
        record {
          taken = [];
          picked = leave_all (Passed c E) E (waits 0 early ++ in_order (length early) (msgs os))
              (λ e.
              let g = none_left_over e in
              ap (λ (l : List Item). waits 0 early ++ in_order (length early) (msgs l)) g.1 ∙ ap (λ (l : List Message). l ++ []) (idle_waits 0 early g.2)) (λ m n e. absurd (n e));
          here = [];
          gone = fin ++ msgs us;
          split = order_same (fin ++ msgs us);
          merged = neither;
          touched = each_append (λ (m : Msg). E → m.first < c.places) fin (msgs us) (none_of (λ (m : Msg). m.first < c.places) E fin (λ e. (none_left_over e).0))
              (touched_all E 0 us s.unordered s.opens s.spared (λ e. (owed e).1));
          pieces = pieces;
        }

  last_step : Runs c []
  last_step early os us fin s (inl far) o r = (tt, at_end early os us fin s far o)
  last_step early os us fin s (inr far) o r = absurd far

  -- ── all events ──

  run : (es : List Event) → Each (Within c) es → Runs c es
  run [] w = last_step
  run (Push k ∷ es) w = push_step c k es (run es w.1)
  run (Take ∷ es) w = take_step c es (run es w.1)
  run (SkipOrdered s ∷ es) w = skip_sets c s es (run es w.1) (omega (arith, w.0))
  run (SkipUnordered t ∷ es) w = skip_loose c t w.0 es (run es w.1)

-- ── the start: everything is still to come ──

abbrev comings : List Frag → List Fate
comings l = map coming l

abbrev expected : Msg → Item
expected m = item m.first m.ppi (comings m.frags)

comings-all : (l : List Frag) → all_of (marks (comings l)) ≡ l
comings-all [] = refl
comings-all (f ∷ l) = ap (λ (r : List Frag). f ∷ r) (comings-all l)

comings-due : (l : List Frag) → pending (comings l) ≡ l
comings-due [] = refl
comings-due (f ∷ l) = ap (λ (r : List Frag). f ∷ r) (comings-due l)

comings-arrived : (l : List Frag) → arrived (marks (comings l)) ≡ []
comings-arrived [] = refl
comings-arrived (f ∷ l) = comings-arrived l

comings_safe : (l : List Frag) → Safe (comings l)
comings_safe [] = tt
comings_safe (f ∷ l) = comings_safe l

expected-msgs : (ms : List Msg) → msgs (map expected ms) ≡ ms
expected-msgs [] = refl
expected-msgs (m ∷ ms) = λ i. ◌∷◌ (record { first = m.first; ppi = m.ppi; frags = comings-all m.frags i }) (expected-msgs ms i)

expected-due : (ms : List Msg) → all due (map expected ms) ≡ frags_of ms
expected-due [] = refl
expected-due (m ∷ ms) = λ i. comings-due m.frags i ++ expected-due ms i

expected-held : (ms : List Msg) → held_of (parts (map expected ms)) ≡ []
expected-held [] = refl
expected-held (m ∷ ms) = ap (λ (l : List Frag). l ++ held_of (parts (map expected ms))) (comings-arrived m.frags) ∙ expected-held ms

expected_safe : (ms : List Msg) → Each (λ (p : Item). Safe p.fates) (map expected ms)
expected_safe [] = tt
expected_safe (m ∷ ms) = (comings_safe m.frags, expected_safe ms)

expected_spared : (places : ℕ) (ms : List Msg) → Each (λ (p : Item). places ≤ p.first → Safe p.fates) (map expected ms)
expected_spared places [] = tt
expected_spared places (m ∷ ms) = (λ l. comings_safe m.frags, expected_spared places ms)

expected-length : (ms : List Msg) → length (map expected ms) ≡ length ms
expected-length [] = refl
expected-length (m ∷ ms) = ap suc (expected-length ms)

comings_open : (base o p : ℕ) (l : List Frag) → Cut base o p l → Open (marks (comings l))
comings_open base o p [] h = h
comings_open base o p (f ∷ l) h = tt

expected_open : (base max o : ℕ) (ms : List Msg) → Listed base max o ms → Opens (parts (map expected ms))
expected_open base max o [] h = tt
expected_open base max o (m ∷ ms) h = (comings_open base m.first m.ppi m.frags h.0.cut, expected_open base max (m.first + length m.frags) ms h.2)

module _ (c : Frame) (os : List Msg) (few : length os ≤ 32767) (ordered : Ordered c.base c.max 0 os) (known : c.numbers ≤ length os) (es : List Event) (w : Each (Within c) es) (far : Far c 0 es) where
  listed : (us : List Msg) → Listed c.base c.max 0 us → Order Carried (pushes es ++ c.never) (chunks_of os us) → Good c es [] 0 os us [] (starts c.si c.max)
  listed us h o =
      let s : Sound c [] (map expected os) (map expected us) [] =
      record {
        few = omega (arith, expected-length os);
        known = omega (arith, expected-length os);
        ordered = rw (expected-msgs os) ordered;
        settled = tt;
        safe = expected_safe os;
        unordered = rw (expected-msgs us) h;
        opens = expected_open c.base c.max 0 us h;
        spared = expected_spared c.places us;
        cuts = tt;
      } in
      let g = run c es w [] (map expected os) (map expected us) [] s far (rw (expected-due os, expected-due us) o) in
      rw (expected-msgs os, expected-msgs us, expected-held os, expected-held us) at g

-- ── unordered messages may be listed in any order ──

flat-same : (l : List Msg) → flat (λ (m : Msg). m ∷ []) l ≡ l
unfolding flat
flat-same [] = refl
flat-same (m ∷ l) = ap (λ (r : List Msg). m ∷ r) (flat-same l)

pub guarantee : (c : Frame) (os us : List Msg) → Plan c.base c.max os us → c.numbers ≤ length os
    → (es : List Event) → Each (Within c) es → Far c 0 es → Order Carried (pushes es ++ c.never) (chunks_of os us) → Good c es [] 0 os us [] (starts c.si c.max)
guarantee c os us plan known es w far o r =
    let one : Msg → List Msg = λ m. m ∷ [] in
    let k : Order Carried (pushes es ++ c.never) (chunks_of os (sorted us)) =
    rw (flat-chunks (sorted us)) (sorted_flat (λ (m : Msg). map (chunk true) m.frags) (pushes es ++ c.never) (map (chunk false) (frags_of os)) us (rw (flat-chunks us) at o)) in
    let g = listed c os plan.few plan.ordered known es w far (sorted us) (listed_sorted c.base c.max us plan.unordered) k r in
    let e = g.1 in (
      g.0,
      record {
        taken = e.taken;
        picked = e.picked;
        here = e.here;
        gone = e.gone;
        split = rw (flat-same us) at (sorted_back one (e.here ++ e.gone) [] us (rw (flat-same (sorted us)) e.split));
        merged = e.merged;
        touched = e.touched;
        pieces = e.pieces;
      },
    )
