-- An ordered skip: up to its number, messages of which all is held wait to be taken, and nothing is held of the others.
-- Assumes nothing.
use mathlib.Core.Path.{◌≡◌, refl, sym, ap, subst, ◌∙◌}
use mathlib.Core.Bool.{Bool, true, false, not, ◌&&◌, cond, and-false}
use mathlib.Core.List.{List, [], ◌∷◌, ◌++◌, map, map-append, append_assoc}
use mathlib.Core.Logic.{◌⊎◌, inl, inr}
use Prim.Native.Nat.{ℕ, suc, ◌+◌, ◌-◌, ◌^◌, ◌<◌, ◌≤◌}
use native.Mathlib.Decide.{dec_lt}
use native.Mathlib.Omega.{arith}
use lib.ListN.{length, take, drop, length-append, length-map, take-append-drop}
use lib.Seq.{length-take-le}
use borrow.Author.Tests.{eq-eqb, ne_eqb, eqb-true}
use Rattle.serial_model.specs.Serial.{next, at_or_before}
use Rattle.fragments.specs.Frag.{Frag, ssn_of, has_ssn}
use Rattle.fragment_sets.specs.Sets.{complete, skipped}
use Rattle.fragment_sets.proofs.Sets.{skipped-nil, skipped-cons}
use Rattle.reassembly_state.specs.Model.{Queue, queue, skip_ordered}
use Rattle.arrival_plan.specs.Plan.{Msg, Ordered, frags_of, Message, message, in_order}
use Rattle.arrival_plan.proofs.Lists.{Is, while-is, past_is}
use Rattle.arrival_plan.proofs.Numbers.{ssn-lt, ssn_ge}
use Rattle.arrival_plan.proofs.Shape.{arrived, Done, Open, done_or_open, length-all, complete-done, complete_open}
use Rattle.arrival_plan.proofs.Loose.{msg, held_of, held-append}
use Rattle.arrival_plan.proofs.Sets.{has_it, high_sets}
use Rattle.arrival_plan.proofs.Maps.{Each, each_append}
use Rattle.skips_plan.proofs.Each.{each_parts}
use Rattle.skips_plan.proofs.Fates.{marks, Safe, bare-arrived, emptied, emptied-bare, emptied-pending, emptied-all, Item, item, part_of, parts, msg-of, msgs, all, all_append}
use Rattle.skips_plan.proofs.Runs.{Event, SkipOrdered, Frame, Far, Picks, takes, leaves, Passed, Outcome, Past, whole, over, its, waits, Settled, due, late, numbered, state, Sound, Good, Owed, Runs, by_skip_ordered}

-- ── numbers ──

not_after_lem : (k s : ℕ) → k ≤ s → s < 2 ^ 15 → at_or_before 16 k s ≡ true
not_after_lem k s h b = go (dec_lt k s)
  where
    go : Dec (k < s) → at_or_before 16 k s ≡ true
    go (yes l) = rw (ssn-lt k s l b, ne_eqb k s (λ e. omega arith))
    go (no l) = rw (eq-eqb k s (omega arith))

is-after : (k s : ℕ) → s < k → k < 2 ^ 15 → at_or_before 16 k s ≡ false
is-after k s h b = rw (ssn_ge k s (omega arith) b, ne_eqb k s (λ e. omega arith))

-- ── one set, in front of others ──

module _ (s k : ℕ) where
  set-skipped : (m r : List Frag) → Is (has_ssn k) true m → Is (has_ssn k) false r → skipped s (m ++ r) ≡ cond (at_or_before 16 k s && not (complete m)) [] m ++ skipped s r
  set-skipped [] r h g = go (at_or_before 16 k s && not (complete []))
    where
      go : (b : Bool) → skipped s r ≡ cond b [] [] ++ skipped s r
      go true = refl
      go false = refl
  set-skipped (x ∷ m) r h g =
      let e : ssn_of x ≡ k = eqb-true (ssn_of x) k h.0 in
      skipped-cons s x (m ++ r)
      ∙ rw (e, while-is (has_ssn k) m r h.1 g, past_is (has_ssn k) m r h.1 g) (go (at_or_before 16 k s && not (complete (x ∷ m))))
    where
      go : (b : Bool) → cond b (skipped s r) ((x ∷ m) ++ skipped s r) ≡ cond b [] (x ∷ m) ++ skipped s r
      go true = refl
      go false = refl

-- a message below its own number in a list of numbered ones
module _ (base max s k : ℕ) (p : Item) (os : List Item) (o : Ordered base max k (msgs (p ∷ os))) (few : k + suc (length os) ≤ 32767) where
  abbrev own : List Frag
  own = arrived (marks p.fates)

  abbrev rest : List Frag
  rest = held_of (parts os)

  by_set : skipped s (own ++ rest) ≡ cond (at_or_before 16 k s && not (complete own)) [] own ++ skipped s rest
  by_set =
      set-skipped s k own rest (has_it k (marks p.fates) o.1)
      (high_sets base max (suc k) k (parts os) o.2 (omega arith) (omega (arith, length-map os part_of))).1

  whole-stays : Done (marks p.fates) → skipped s (own ++ rest) ≡ own ++ skipped s rest
  whole-stays d = by_set ∙ rw (complete-done base p.ppi p.first (marks p.fates) o.0.cut d, and-false (at_or_before 16 k s))

  later-stays : s < k → skipped s (own ++ rest) ≡ own ++ skipped s rest
  later-stays h = by_set ∙ rw (is-after k s h (omega arith))

  part_goes : k ≤ s → s < 2 ^ 15 → Open (marks p.fates) → skipped s (own ++ rest) ≡ skipped s rest
  part_goes h b d =
      by_set
      ∙ rw (
        not_after_lem k s h b,
        complete_open base p.ppi p.first (marks p.fates) o.0.cut (omega (arith, o.0.arc, length-all (marks p.fates))) d,
      )

-- ── many ──

-- a message that the skip passes
settle_by : (p : Item) → Done (marks p.fates) ⊎ Open (marks p.fates) → Past
settle_by p (inl d) = whole p
settle_by p (inr d) = over (item p.first p.ppi (emptied p.fates))

settle : Item → Past
settle p = settle_by p (done_or_open (marks p.fates))

-- what is taken of the ones may be taken of the others
abbrev Into : (Message → Type 0) → List Message → List Message → Type 0
Into P a b = (t : List Message) → Picks P a t → Picks P b t

module _ (p : Item) where
  abbrev Sorted : Type 0
  Sorted = Done (marks p.fates) ⊎ Open (marks p.fates)

  settled-msg : (d : Sorted) → msg-of (its (settle_by p d)) ≡ msg-of p
  unfolding settle_by
  settled-msg (inl d) = refl
  settled-msg (inr d) = λ i. record { first = p.first; ppi = p.ppi; frags = emptied-all p.fates i }

  settled-due : (d : Sorted) → late (settle_by p d) ≡ due p
  unfolding settle_by
  settled-due (inl d) = refl
  settled-due (inr d) = emptied-pending p.fates

  settled_is : (d : Sorted) → Settled (settle_by p d)
  unfolding settle_by
  settled_is (inl d) = d
  settled_is (inr d) = emptied-bare p.fates

  -- it is among those that wait, or has a number below the bound
  settled_picks : (P : Message → Type 0) (n : ℕ) (l : List Past) (a b : List Message) → P (message n (msg-of p)) → Into P (waits (suc n) l ++ a) b
      → (d : Sorted) → Into P (waits n (settle_by p d ∷ l) ++ a) (message n (msg-of p) ∷ b)
  unfolding settle_by
  settled_picks P n l a b h g (inl d) _ (takes {r} k) = takes (g r k)
  settled_picks P n l a b h g (inl d) t (leaves e k) = leaves e (g t k)
  settled_picks P n l a b h g (inr d) t k = leaves h (g t k)

  settled-held : (base max s k : ℕ) (os : List Item) → Ordered base max k (msgs (p ∷ os)) → k + suc (length os) ≤ 32767 → k ≤ s → s < 2 ^ 15 → (d : Sorted)
      → skipped s (arrived (marks p.fates) ++ held_of (parts os)) ≡ arrived (marks (its (settle_by p d)).fates) ++ skipped s (held_of (parts os))
  unfolding settle_by
  settled-held base max s k os o few h b (inl d) = whole-stays base max s k p os o few d
  settled-held base max s k os o few h b (inr d) =
      part_goes base max s k p os o few h b d ∙ ap (λ (l : List Frag). l ++ skipped s (held_of (parts os))) (sym (bare-arrived (emptied p.fates) (emptied-bare p.fates)))

abbrev passed : List Item → List Past
passed f = map settle f

passed-msgs : (f : List Item) → msgs (map its (passed f)) ≡ msgs f
unfolding settle
passed-msgs [] = refl
passed-msgs (p ∷ f) = λ i. ◌∷◌ (settled-msg p (done_or_open (marks p.fates)) i) (passed-msgs f i)

passed-due : (f : List Item) → all late (passed f) ≡ all due f
unfolding settle
passed-due [] = refl
passed-due (p ∷ f) = λ i. settled-due p (done_or_open (marks p.fates)) i ++ passed-due f i

passed-settled : (f : List Item) → Each Settled (passed f)
unfolding settle
passed-settled [] = tt
passed-settled (p ∷ f) = (settled_is p (done_or_open (marks p.fates)), passed-settled f)

passed_picks : (P : Message → Type 0) (n : ℕ) (f : List Item) (ms : List Msg) → ((k : ℕ) (m : Msg) → k < n + length f → P (message k m))
    → Into P (waits n (passed f) ++ in_order (n + length f) ms) (in_order n (msgs f ++ ms))
unfolding settle
passed_picks P n [] ms h t k = let e : n + 0 ≡ n = omega arith in rw e at k
passed_picks P n (p ∷ f) ms h t k =
    let e : n + suc (length f) ≡ suc n + length f = omega arith in
    settled_picks p P n (passed f) (in_order (suc n + length f) ms) (in_order (suc n) (msgs f ++ ms)) (h n (msg-of p) (omega arith))
    (λ r g. passed_picks P (suc n) f ms (λ i m l. h i m (omega arith)) r g) (done_or_open (marks p.fates)) t (rw e at k)

-- behind others
picks_behind : (P : Message → Type 0) (w : List Message) {a b : List Message} → Into P a b → Into P (w ++ a) (w ++ b)
picks_behind P [] h t k = h t k
picks_behind P (m ∷ w) h _ (takes {r} k) = takes (picks_behind P w h r k)
picks_behind P (m ∷ w) h t (leaves e k) = leaves e (picks_behind P w h t k)

module _ (base max s : ℕ) where
  -- those behind its number stay
  later-held : (k : ℕ) (os : List Item) → Ordered base max k (msgs os) → k + length os ≤ 32767 → s < k → skipped s (held_of (parts os)) ≡ held_of (parts os)
  later-held k [] o few h = skipped-nil s
  later-held k (p ∷ os) o few h =
      later-stays base max s k p os o few h ∙ ap (λ (l : List Frag). arrived (marks p.fates) ++ l) (later-held (suc k) os o.2 (omega arith) (omega arith))

  -- those up to it are passed
  passed-held : (k : ℕ) (f b : List Item) → Ordered base max k (msgs (f ++ b)) → k + length (f ++ b) ≤ 32767 → k + length f ≡ suc s
      → skipped s (held_of (parts (f ++ b))) ≡ held_of (parts (map its (passed f) ++ b))
  unfolding settle
  passed-held k [] b o few e = later-held k b o few (omega arith)
  passed-held k (p ∷ f) b o few e =
      settled-held p base max s k (f ++ b) o few (omega arith) (omega (arith, length-append f b)) (done_or_open (marks p.fates))
      ∙ ap (λ (l : List Frag). arrived (marks (its (settle_by p (done_or_open (marks p.fates)))).fates) ++ l) (passed-held (suc k) f b o.2 (omega arith) (omega arith))

  -- those before the expected one, of which all or nothing is held, stay as they are
  early_held : (k : ℕ) (early : List Past) (os : List Item) (r : List Frag) → Ordered base max k (msgs (numbered early os)) → k + (length early + length os) ≤ 32767 → Each Settled early
      → skipped s (held_of (parts os)) ≡ r → skipped s (held_of (parts (numbered early os))) ≡ held_of (parts (map its early)) ++ r
  early_held k [] os r o few d e = e
  early_held k (whole p ∷ early) os r o few d e =
      whole-stays base max s k p (numbered early os) o (omega (arith, length-append (map its early) os, length-map early its)) d.0
      ∙ ap (λ (l : List Frag). arrived (marks p.fates) ++ l) (early_held (suc k) early os r o.2 (omega arith) d.1 e)
      ∙ sym (append_assoc (arrived (marks p.fates)) (held_of (parts (map its early))) r)
  early_held k (over p ∷ early) os r o few d e =
      rw (bare-arrived p.fates d.0) (early_held (suc k) early os r o.2 (omega arith) d.1 e)

pub waits-append : (n : ℕ) (a b : List Past) → waits n (a ++ b) ≡ waits n a ++ waits (n + length a) b
waits-append n [] b = let e : n + 0 ≡ n = omega arith in rw e
waits-append n (whole p ∷ a) b = let e : n + suc (length a) ≡ suc n + length a = omega arith in rw e (ap (λ (l : List Message). message n (msg-of p) ∷ l) (waits-append (suc n) a b))
waits-append n (over p ∷ a) b = let e : n + suc (length a) ≡ suc n + length a = omega arith in rw e (waits-append (suc n) a b)

ordered-from : (base max k : ℕ) (early : List Past) (os : List Item) → Ordered base max k (msgs (numbered early os)) → Ordered base max (k + length early) (msgs os)
ordered-from base max k [] os o = let e : k + 0 ≡ k = omega arith in rw e o
ordered-from base max k (x ∷ early) os o = let e : k + suc (length early) ≡ suc k + length early = omega arith in rw e (ordered-from base max (suc k) early os o.2)

pub ordered-behind : (base max : ℕ) (early : List Past) (os : List Item) → Ordered base max 0 (msgs (numbered early os)) → Ordered base max (length early) (msgs os)
ordered-behind base max early os o = let e : 0 + length early ≡ length early = omega arith in rw e at (ordered-from base max 0 early os o)

-- ── the step ──

module _ (c : Frame) (s : ℕ) (es : List Event) (ih : Runs c es) where
  -- the expected number is behind the skip
  nearer : (n m : ℕ) → n ≤ m → suc s ≤ m → Far c n (SkipOrdered s ∷ es) → Far c m es
  nearer n m h g (inl k) = inl (omega arith)
  nearer n m h g (inr (inl k)) = inl (omega arith)
  nearer n m h g (inr (inr k)) = inr k

  module _ (early : List Past) (f b us : List Item) (fin : List Msg) (h : Sound c early (f ++ b) us fin) where
    abbrev later : List Past
    later = early ++ passed f

    same_items : numbered later b ≡ map its early ++ (map its (passed f) ++ b)
    same_items = rw (map-append its early (passed f)) (append_assoc (map its early) (map its (passed f)) b)

    same_ones : (g : List Item) → msgs g ≡ msgs f → msgs (map its early ++ (g ++ b)) ≡ msgs (numbered early (f ++ b))
    same_ones g e =
        rw (map-append part_of (map its early) (g ++ b), map-append msg (parts (map its early)) (parts (g ++ b)), map-append part_of g b, map-append msg (parts g) (parts b), e)
        (rw (map-append part_of (map its early) (f ++ b), map-append msg (parts (map its early)) (parts (f ++ b)), map-append part_of f b, map-append msg (parts f) (parts b)))

    same-due : all late later ++ all due b ≡ all late early ++ all due (f ++ b)
    same-due =
        rw (all_append late early (passed f), passed-due f, all_append due f b) (append_assoc (all late early) (all due f) (all due b))

    later-long : length later ≡ length early + length f
    later-long = length-append early (passed f) ∙ ap (λ (n : ℕ). length early + n) (length-map f settle)

    module _ (low : length early ≤ s) (long : length early + length f ≡ suc s) (known : suc s ≤ c.numbers) where
      few : length early + length (f ++ b) ≤ 32767
      few = h.few

      sound : Sound c later b us fin
      sound =
          let y = length-append f b in
          record {
            few = omega (arith, later-long, h.few);
            known = omega (arith, later-long, h.known);
            ordered = rw (same_items, same_ones (map its (passed f)) (passed-msgs f)) h.ordered;
            settled = each_append Settled early (passed f) h.settled (passed-settled f);
            safe = (each_parts (λ (p : Item). Safe p.fates) f b h.safe).1;
            unordered = h.unordered;
            opens = h.opens;
            spared = h.spared;
            cuts = h.cuts;
          }

      sets : skipped s (held_of (parts (numbered early (f ++ b)))) ≡ held_of (parts (numbered later b))
      sets =
          let o = ordered-behind c.base c.max early (f ++ b) h.ordered in
          early_held c.base c.max s 0 early (f ++ b) (held_of (parts (map its (passed f) ++ b))) h.ordered (omega (arith, few)) h.settled
          (passed-held c.base c.max s (length early) f b o few long)
          ∙ rw (same_items, map-append part_of (map its early) (map its (passed f) ++ b), held-append (parts (map its early)) (parts (map its (passed f) ++ b)))

      expected : cond (at_or_before 16 (length early) s) (next 16 s) (length early) ≡ length later
      expected = rw (not_after_lem (length early) s low (omega (arith, few, length-append f b)), later-long) (omega (arith, few, long, length-append f b))

      skips : skip_ordered (state c early (f ++ b) us fin) s ≡ state c later b us fin
      unfolding skip_ordered
      skips = λ i. queue c.si (expected i) c.max (frags_of fin) (held_of (parts us)) (sets i)

      ends : (E : Type 0) (loose : List Msg) (ms : List Message) (q : Queue) → Outcome c E (waits 0 later ++ in_order (length later) (msgs b)) loose ms q
          → Outcome c E (waits 0 early ++ in_order (length early) (msgs (f ++ b))) loose ms q
      ends E loose ms q e =
          let z : 0 + length early ≡ length early = omega arith in
          let k : Picks (Passed c E) (waits 0 early ++ (waits (length early) (passed f) ++ in_order (length early + length f) (msgs b))) e.taken =
          rw (waits-append 0 early (passed f), z, later-long, append_assoc) at e.picked in
          record {
            taken = e.taken;
            picked = rw (map-append part_of f b, map-append msg (parts f) (parts b))
                (picks_behind (Passed c E) (waits 0 early) (passed_picks (Passed c E) (length early) f (msgs b) (λ n m l x. omega arith)) e.taken k);
            here = e.here;
            gone = e.gone;
            split = e.split;
            merged = e.merged;
            touched = e.touched;
            pieces = e.pieces;
          }

      passes : Far c (length early) (SkipOrdered s ∷ es) → Owed c es early (f ++ b) us
          → Good c (SkipOrdered s ∷ es) (waits 0 early) (length early) (msgs (f ++ b)) (msgs us) fin (state c early (f ++ b) us fin)
      passes far k =
          let g = ih later b us fin sound (nearer (length early) (length later) (omega (arith, later-long)) (omega (arith, later-long)) far) (rw same-due k) in
          by_skip_ordered c es (waits 0 early) (length early) (msgs (f ++ b)) (msgs us) fin (state c early (f ++ b) us fin) s (state c later b us fin) skips
          (λ r. let i = g r in (i.0, ends _ _ _ _ i.1))

  -- a skip to a number before the expected one changes nothing
  module _ (early : List Past) (os us : List Item) (fin : List Msg) (h : Sound c early os us fin) (low : s < length early) where
    old : skip_ordered (state c early os us fin) s ≡ state c early os us fin
    unfolding skip_ordered
    old =
        let n = length early in
        let e : cond (at_or_before 16 n s) (next 16 s) n ≡ n = rw (is-after n s low (omega (arith, h.few))) in
        let o = ordered-behind c.base c.max early os h.ordered in
        let l : skipped s (held_of (parts (numbered early os))) ≡ held_of (parts (numbered early os)) =
        early_held c.base c.max s 0 early os (held_of (parts os)) h.ordered (omega (arith, h.few)) h.settled (later-held c.base c.max s n os o h.few low)
        ∙ rw (map-append part_of (map its early) os, held-append (parts (map its early)) (parts os)) in
        λ i. queue c.si (e i) c.max (frags_of fin) (held_of (parts us)) (l i)

  pub skip_sets : suc s ≤ c.numbers → Runs c (SkipOrdered s ∷ es)
  skip_sets known early os us fin h far k = go (dec_lt s (length early))
    where
      go : Dec (s < length early) → Good c (SkipOrdered s ∷ es) (waits 0 early) (length early) (msgs os) (msgs us) fin (state c early os us fin)
      go (yes l) =
          by_skip_ordered c es (waits 0 early) (length early) (msgs os) (msgs us) fin (state c early os us fin) s (state c early os us fin) (old early os us fin h l)
          (ih early os us fin h (nearer (length early) (length early) (omega arith) (omega arith) far) k)
      go (no l) =
          let d = suc s - length early in
          let e = take-append-drop d os in
          let long : length (take d os) ≡ d = length-take-le d os (omega (arith, h.known)) in
          subst (λ (x : List Item). Good c (SkipOrdered s ∷ es) (waits 0 early) (length early) (msgs x) (msgs us) fin (state c early x us fin)) e
          (passes early (take d os) (drop d os) us fin (rw e h) (omega arith) (omega arith) known far (rw e k))
