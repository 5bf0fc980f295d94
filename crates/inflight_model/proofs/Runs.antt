-- Runs of calls from `new` on: the queue stays sound and its TSNs distinct, no call answers refusal 0, and what is released is released once.
-- Assumes nothing.
use mathlib.Core.Path.{◌≡◌, refl, sym, ap, ◌∙◌}
use mathlib.Core.Bool.{cond, Bool, true, false}
use mathlib.Core.Logic.{◌⊎◌, inl, inr, ⊎_elim}
use mathlib.Core.List.{List, [], ◌∷◌, map}
use Prim.Native.Nat.{ℕ, zero, suc, ◌+◌, ◌*◌, ◌<◌, ◌≤◌}
use native.Mathlib.Omega.{arith}
use lib.Dec.{leb, eqb}
use lib.ListN.{length, get_or, take, drop, set, length-append, length-take, length-drop, length-map, length-set}
use borrow.Author.Tests.{leb-false, le-ltb, eq-eqb}
use Rattle.wire_model.specs.BigEndian.{over}
use Rattle.wire_model.specs.Facts.{over-length}
use Rattle.wire_model.specs.Refusal.{none, refuse}
use Rattle.moves_model.specs.Lists.{put}
use Rattle.table.specs.Rows.{blank, total, some, up_to_last, kept, short_length, has_tsn, tsn_before}
use Rattle.table.specs.declared.Row.{Row}
use Rattle.table.proofs.Columns.{rows_long}
use Rattle.gap_model.specs.Gap.{tsns_of}
use Rattle.payload_model.specs.Limits.{tsns_most}
use Rattle.payload_model.specs.Queue.{stays_after}
use Rattle.payload_model.specs.Run.{Sane, Distinct}
use Rattle.payload_model.proofs.Laws.{Sound, kept_within, front-back}
use Rattle.payload_model.proofs.Held.{Less, More, kept_less, tail_less, distinct_more}
use Rattle.inflight_model.specs.Queue.{Queue, held, numbers, unsound, After, Given, with_head, again_row, abandoned_head, abandoned_among, kept_beside, stored, pushed_no_check, remarked, place, marked_acked, marked_all, abandoned, left, popped, popped_up_to, got, counted, is_empty, num_bytes}
use Rattle.inflight_model.specs.Run.{Call, push_no_check, mark_as_acked, mark_all_to_retransmit, abandon_message, pop, pop_up_to, step, starts, ran, tsns_held, AllSane}
use Rattle.inflight_model.proofs.Marks.{abandoned-long}
use Rattle.inflight_model.proofs.Passes.{beside_within}
use Rattle.inflight_model.proofs.Laws.{as_tsns, sound, held-long, numbers-long}

-- ── one call, as a change of the held records ──

-- a sound queue, with its table and its numbers
pub record Fit (q : Queue) : Type 0 where
  pub ok : unsound q ≡ false
  pub long : length q.rows ≡ tsns_most
  pub wide : length q.messages ≡ tsns_most

fit : (q : Queue) → q.count ≤ tsns_most → total short_length (held q) ≡ q.bytes → length q.rows ≡ tsns_most → length q.messages ≡ tsns_most → Fit q
unfolding unsound
fit q few sum long wide = record { ok = rw (le-ltb tsns_most q.count few, eq-eqb (total short_length (held q)) q.bytes sum); long = long; wide = wide }

pub record Next (q q' : Queue) : Type 1 where
  pub fits : Fit q'
  pub moved : Less (held q) (held q') ⊎ More (held q) (held q')

length-put : {A : Type 0} (n : ℕ) (x : A) (xs : List A) → length (put n (x ∷ []) xs) ≡ length xs + 1
unfolding put
length-put n x xs = simp (length-append, length-take, length-drop) (omega arith)

total-put : (n : ℕ) (r : Row) (rs : List Row) → total short_length (put n (r ∷ []) rs) ≡ total short_length rs + short_length r.head
unfolding total put
total-put zero r rs = omega arith
total-put (suc n) r [] = omega arith
total-put (suc n) r (x ∷ rs) = omega (arith, total-put n r rs)

-- other heads leave the TSNs as they were
set-tsns : (rs : List Row) (at h : ℕ) → tsns_of (set rs at (with_head h (get_or rs at blank))) ≡ tsns_of rs
set-tsns [] at h = refl
set-tsns (r ∷ rs) zero h = refl
set-tsns (r ∷ rs) (suc at) h = ap (λ (l : List ℕ). r.tsn ∷ l) (set-tsns rs at h)

again-tsns : (rs : List Row) → tsns_of (map again_row rs) ≡ tsns_of rs
again-tsns [] = refl
again-tsns (r ∷ rs) = ap (λ (l : List ℕ). r.tsn ∷ l) (again-tsns rs)

abandoned-tsns : (message : ℕ) (rs : List Row) (ms : List ℕ) → length ms ≡ length rs → tsns_of (abandoned_among message rs ms) ≡ tsns_of rs
unfolding abandoned_among
abandoned-tsns message [] ms e = refl
abandoned-tsns message (r ∷ rs) [] e = absurd (omega arith)
abandoned-tsns message (r ∷ rs) (m ∷ ms) e = go (eqb m message) (abandoned-tsns message rs ms (omega arith))
  where
    go : (b : Bool) → tsns_of (abandoned_among message rs ms) ≡ tsns_of rs → tsns_of (cond b (with_head (abandoned_head r.head) r) r ∷ abandoned_among message rs ms) ≡ r.tsn ∷ tsns_of rs
    go true f = ap (λ (l : List ℕ). r.tsn ∷ l) f
    go false f = ap (λ (l : List ℕ). r.tsn ∷ l) f

module _ {q : Queue} (f : Fit q) where
  s : Sound (as_tsns q)
  s = sound q f.ok

  count_long : length (held q) ≡ q.count
  count_long = held-long q s f.long

  beside : length (numbers q) ≡ length (held q)
  beside = numbers-long q s f.long f.wide

  stays : Next q q
  stays = record { fits = f; moved = inl (λ R p. p) }

  -- other records and numbers at the front
  left_fits : (rs : List Row) (ms : List ℕ) → length rs ≤ tsns_most → length ms ≤ tsns_most → Fit (left q rs ms)
  left_fits rs ms h k =
      fit (left q rs ms) h (ap (total short_length) (front-back q.rows rs)) (over-length q.rows rs (omega (arith, f.long)) ∙ f.long) (over-length q.messages ms (omega (arith, f.wide)) ∙ f.wide)

  drops : (rs : List Row) (ms : List ℕ) → length rs ≤ length (held q) → length ms ≤ length (numbers q) → Less (held q) rs → Next q (left q rs ms)
  drops rs ms h k l =
      record { fits = left_fits rs ms (omega (arith, count_long, s.few)) (omega (arith, count_long, beside, s.few)); moved = inl (λ R p. rw (front-back q.rows rs) (l R p)) }

  -- the same records with other heads
  marks : (rs : List Row) → length rs ≡ length (held q) → tsns_of rs ≡ tsns_of (held q) → Next q (remarked q rs)
  marks rs e t =
      let c : q.count ≡ length rs = sym (e ∙ count_long) in
      let now : held (remarked q rs) ≡ rs = front q.count c in
      record {
        fits = fit (remarked q rs) s.few (ap (total short_length) now) (over-length q.rows rs (omega (arith, f.long, s.few)) ∙ f.long) f.wide;
        moved = inl (λ R p. rw (now, t) p);
      }
    where
      front : (n : ℕ) → n ≡ length rs → take n (over q.rows rs) ≡ rs
      front n d = rw d (front-back q.rows rs)

  stores : (r : Row) (message : ℕ) → some (has_tsn r.tsn) (held q) ≡ false → q.count < tsns_most → Next q (stored q r message)
  unfolding stored
  stores r message e h =
      let n = up_to_last (tsn_before r.tsn) (held q) in
      let rs = put n (r ∷ []) (held q) in
      let ms = put n (message ∷ []) (numbers q) in
      let l : length rs ≡ q.count + 1 = length-put n r (held q) ∙ omega (arith, count_long) in
      let t : total short_length rs ≡ q.bytes + short_length r.head = total-put n r (held q) ∙ omega (arith, s.sum) in
      let m : length ms ≡ q.count + 1 = length-put n message (numbers q) ∙ omega (arith, count_long, beside) in
      let same : left q rs ms ≡ stored q r message = rw (l, t) in
      record {
        fits = rw same at (left_fits rs ms (omega (arith, l)) (omega (arith, m)));
        moved = inr (record { new = r; fresh = e; is = ap held (sym same) ∙ front-back q.rows rs });
      }

-- ── each call ──

-- the cases of a test
by {ℓ} : {X : Type 0} (P : X → Type ℓ) (b : Bool) (x y : X) → (b ≡ true → P x) → (b ≡ false → P y) → P (cond b x y)
by P true x y h k = h refl
by P false x y h k = k refl

abbrev Leaves : {A : Type 0} → Queue → After A → Type 1
Leaves q a = Next q a.queue

pub next : (q : Queue) → Fit q → (c : Call) → Next q (step q c)
unfolding step pushed_no_check marked_acked marked_all abandoned popped popped_up_to
next q f (push_no_check r message) =
    by (Leaves q) (unsound q) _ _ (λ e. stays f)
    (λ _. by (Leaves q) (some (has_tsn r.tsn) (held q)) _ _ (λ e. stays f)
    (λ d. by (Leaves q) (leb tsns_most q.count) _ _ (λ e. stays f)
    (λ e. stores f r message d (leb-false tsns_most q.count e))))
next q f (mark_as_acked tsn) =
    by (Leaves q) (unsound q) _ _ (λ e. stays f)
    (λ _. by (Leaves q) (some (has_tsn tsn) (held q)) _ _ (λ e. marks f _ (length-set (held q) (place q tsn) _) (set-tsns (held q) (place q tsn) _))
    (λ e. stays f))
next q f mark_all_to_retransmit = by (Leaves q) (unsound q) _ _ (λ e. stays f) (λ e. marks f (map again_row (held q)) (length-map (held q) again_row) (again-tsns (held q)))
next q f (abandon_message message) =
    by (Leaves q) (unsound q) _ _ (λ e. stays f)
    (λ e. marks f (abandoned_among message (held q) (numbers q)) (abandoned-long message (held q) (numbers q) (beside f)) (abandoned-tsns message (held q) (numbers q) (beside f)))
next q f (pop tsn) =
    by (Leaves q) (unsound q) _ _ (λ e. stays f)
    (λ _. by (Leaves q) (some (has_tsn tsn) (take 1 (held q))) _ _
    (λ e. drops f (drop 1 (held q)) (drop 1 (numbers q)) (rw length-drop (omega arith)) (rw length-drop (omega arith)) (tail_less (held q)))
    (λ e. stays f))
next q f (pop_up_to tsn) =
    by (Leaves q) (unsound q) _ _ (λ e. stays f)
    (λ e. drops f (kept (stays_after tsn) (held q)) (kept_beside (stays_after tsn) (held q) (numbers q)) (kept_within (stays_after tsn) (held q)) (beside_within (stays_after tsn) (held q) (numbers q)) (kept_less (stays_after tsn) (held q)))

-- ── no refusal 0 ──

never : (k : ℕ) → 0 < k → refuse k ≡ refuse 0 → ⊥
never k h e = let z : k ≡ 0 = cc in omega arith

fine : none ≡ refuse 0 → ⊥
fine e = let z : ◌≡◌ {A = ℕ} 0 1 = cc in omega arith

all_sane : (q : Queue) → unsound q ≡ false → AllSane q
unfolding pushed_no_check marked_acked marked_all abandoned popped popped_up_to got counted is_empty num_bytes
all_sane q e =
    record {
      push_no_check = λ r message. rw e (by (λ (a : After Bool). Sane a.told) (some (has_tsn r.tsn) (held q)) _ _ (λ _. never 18 (omega arith)) (λ _. by (λ (a : After Bool). Sane a.told) (leb tsns_most q.count) _ _ (λ _. never 8 (omega arith)) (λ _. fine)));
      mark_as_acked = λ tsn. rw e (by (λ (a : After ℕ). Sane a.told) (some (has_tsn tsn) (held q)) _ _ (λ _. fine) (λ _. fine));
      mark_all = rw e fine;
      abandon_message = λ message. rw e fine;
      pop = λ tsn. rw e (by (λ (a : After Given). Sane a.told) (some (has_tsn tsn) (take 1 (held q))) _ _ (λ _. fine) (λ _. fine));
      pop_up_to = λ tsn. rw e fine;
      get = λ tsn. rw e (by Sane (some (has_tsn tsn) (held q)) _ _ (λ _. fine) (λ _. fine));
      len = rw e fine;
      is_empty = rw e fine;
      num_bytes = rw e fine;
    }

-- ── runs ──

start_fits : (ws ms : List ℕ) → length ws ≡ 4 * tsns_most → length ms ≡ tsns_most → Fit (starts ws ms)
unfolding total
start_fits ws ms long wide = fit (starts ws ms) (omega arith) refl (rows_long tsns_most ws long) wide

through : (q : Queue) (cs : List Call) → Fit q → Distinct (tsns_held q) → Fit (ran q cs) × Distinct (tsns_held (ran q cs))
through q [] f d = (f, d)
through q (c ∷ cs) f d =
    let n = next q f c in
    through (step q c) cs n.fits (⊎_elim (λ l. l (λ t u. t ≡ u → ⊥) d) (λ m. distinct_more m d) n.moved)

-- ── the theorems ──

module _ (ws ms : List ℕ) (long : length ws ≡ 4 * tsns_most) (wide : length ms ≡ tsns_most) (calls : List Call) where
  abbrev last : Queue
  last = ran (starts ws ms) calls

  pub all : Fit last × Distinct (tsns_held last)
  all = through (starts ws ms) calls (start_fits ws ms long wide) tt

  -- After any run from `new` on the queue is sound, ..
  pub run_sound : unsound last ≡ false
  run_sound = all.0.ok

  -- .. so that its byte count is the sum of the lengths that are not released, ..
  pub run-bytes : last.bytes ≡ total short_length (held last)
  run-bytes = sym (sound last run_sound).sum

  -- .. and no call on it answers refusal 0.
  pub run_sane : AllSane last
  run_sane = all_sane last run_sound

  -- After any run from `new` on the held TSNs are distinct: 18 is what keeps them so.
  pub run_distinct : Distinct (tsns_held last)
  run_distinct = all.1
