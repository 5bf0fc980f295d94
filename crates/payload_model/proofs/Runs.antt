-- Runs of calls from `new` on: the queue stays sound, its TSNs distinct and in the arc's order, and its gap report the only one possible.
-- Assumes nothing.
use mathlib.Core.Path.{◌≡◌, refl, sym, ap, ◌∙◌}
use mathlib.Core.Bool.{cond, Bool, true, false, ◌||◌, ◌&&◌}
use mathlib.Core.Logic.{◌↔◌, ◌⊎◌, inl, inr, ⊎_elim}
use mathlib.Core.List.Memᴰ
use mathlib.Core.List.{List, [], ◌∷◌, Memᴰ}
use Prim.Native.Nat.{ℕ, zero, suc, ◌+◌, ◌*◌, ◌<◌, ◌≤◌}
use native.Mathlib.Omega.{arith}
use lib.Dec.{ltb, leb, eqb}
use lib.ListN.{length, take, drop, set, length-append, length-take, length-drop, length-map}
use lib.Seq.{length-take-le}
use borrow.Author.Tests.{ltb-true, leb-false, le-ltb, le-leb, eq-eqb}
use Rattle.wire_model.specs.BigEndian.{over}
use Rattle.wire_model.specs.Facts.{over-length}
use Rattle.wire_model.specs.Refusal.{none, refuse, says}
use Rattle.serial_model.specs.Serial.{ahead, distance, before, at_or_before, ordered, compared, opposite}
use Rattle.moves_model.specs.Lists.{put}
use Rattle.table.specs.Rows.{row, total, some, up_to_last, kept, short_length, has_tsn, tsn_before}
use Rattle.table.specs.declared.Row.{Row}
use Rattle.table.proofs.Columns.{rows_long}
use Rattle.payload_model.specs.Limits.{tsns_most, log_most}
use Rattle.payload_model.specs.Queue.{Queue, held, unsound, After, Found, turned_away, logged, stored, pushed, left, stays_after, popped, popped_up_to, zeros, popped_duplicates, can_push, got, contains_stream, counted, is_empty, num_bytes, last_tsn}
use Rattle.gap_model.specs.Gap.{Block, Report, block, extend, walk, starts_of, ends_of, blocks, written}
use Rattle.gap_model.specs.Report.{InArc, Ordered}
use Rattle.payload_model.specs.GapCall.{lists, gap_report}
use Rattle.refusal.specs.Told.{count_told}
use Rattle.payload_model.specs.Run.{Call, push, pop, pop_up_to, pop_duplicates, step, starts, ran, tsns_held, OnArc, OnArcs, Distinct, Sane, AllSane, OnlyReport}
use Rattle.payload_model.proofs.Laws.{Sound, sound, either, kept_within, front-back}
use Rattle.gap_model.proofs.Walk.{walk_more}
use Rattle.payload_model.proofs.Held.{Less, More, kept_less, tail_less, distinct_more, Rising, rising_more, rising_ordered}
use Rattle.gap_model.proofs.Unique.{report_covers, report_unique, same-report, arc-more}

-- ── one call, as a change of the held records ──

-- a sound queue, with its table
record Fit (q : Queue) : Type 0 where
  ok : unsound q ≡ false
  long : length q.rows ≡ tsns_most

fit : (q : Queue) → q.count ≤ tsns_most → q.dups ≤ log_most → total short_length (held q) ≡ q.bytes → length q.rows ≡ tsns_most → Fit q
unfolding unsound
fit q few logs sum long =
    record { ok = rw (le-ltb tsns_most q.count few, le-ltb log_most q.dups logs, eq-eqb (total short_length (held q)) q.bytes sum); long = long }

record Next (q q' : Queue) : Type 1 where
  fits : Fit q'
  moved : Less (held q) (held q') ⊎ More (held q) (held q')

length-put : (n : ℕ) (r : Row) (rs : List Row) → length (put n (r ∷ []) rs) ≡ length rs + 1
unfolding put
length-put n r rs = simp (length-append, length-take, length-drop) (omega arith)

total-put : (n : ℕ) (r : Row) (rs : List Row) → total short_length (put n (r ∷ []) rs) ≡ total short_length rs + short_length r.head
unfolding total put
total-put zero r rs = omega arith
total-put (suc n) r [] = omega arith
total-put (suc n) r (x ∷ rs) = omega (arith, total-put n r rs)

module _ {q : Queue} (f : Fit q) where
  s : Sound q
  s = sound q f.ok

  held-long : length (held q) ≡ q.count
  held-long = length-take-le q.count q.rows (omega (arith, s.few, f.long))

  -- other records at the front of the table
  left_fits : (rs : List Row) → length rs ≤ tsns_most → Fit (left q rs)
  left_fits rs h = fit (left q rs) h s.logs (ap (total short_length) (front-back q.rows rs)) (over-length q.rows rs (omega (arith, f.long)) ∙ f.long)

  stays : Next q q
  stays = record { fits = f; moved = inl (λ R p. p) }

  -- the log alone may change
  logs : (dups : ℕ) (log : List ℕ) → dups ≤ log_most → Next q (record { count = q.count; bytes = q.bytes; dups = dups; log = log; rows = q.rows })
  logs dups log h = record { fits = fit _ s.few h s.sum f.long; moved = inl (λ R p. p) }

  -- with a record more
  put-long : (n : ℕ) (r : Row) → length (put n (r ∷ []) (held q)) ≡ q.count + 1
  put-long n r = length-put n r (held q) ∙ omega (arith, held-long)

  put-total : (n : ℕ) (r : Row) → total short_length (put n (r ∷ []) (held q)) ≡ q.bytes + short_length r.head
  put-total n r = total-put n r (held q) ∙ omega (arith, s.sum)

  stores : (r : Row) → some (has_tsn r.tsn) (held q) ≡ false → q.count < tsns_most → Next q (stored q r)
  unfolding stored
  stores r e h =
      let n = up_to_last (tsn_before r.tsn) (held q) in
      let rs = put n (r ∷ []) (held q) in
      let same : left q rs ≡ stored q r = rw (put-long n r, put-total n r) in
      record {
        fits = rw same at (left_fits rs (omega (arith, put-long n r)));
        moved = inr (record { new = r; fresh = e; is = ap held (sym same) ∙ front-back q.rows rs });
      }

  drops : (rs : List Row) → length rs ≤ length (held q) → Less (held q) rs → Next q (left q rs)
  drops rs h l =
      record { fits = left_fits rs (omega (arith, held-long, s.few)); moved = inl (λ R p. rw (front-back q.rows rs) (l R p)) }

-- ── each call ──

-- the cases of a test
by {ℓ} : {X : Type 0} (P : X → Type ℓ) (b : Bool) (x y : X) → (b ≡ true → P x) → (b ≡ false → P y) → P (cond b x y)
by P true x y h k = h refl
by P false x y h k = k refl

logged-next : (q : Queue) (tsn : ℕ) → Fit q → Next q (logged q tsn)
unfolding logged
logged-next q tsn f =
    by (Next q) (ltb q.dups log_most) _ _ (λ e. logs f (q.dups + 1) (set q.log q.dups tsn) (omega (arith, ltb-true q.dups log_most e))) (λ e. stays f)

abbrev Leaves : {A : Type 0} → Queue → After A → Type 1
Leaves q a = Next q a.queue

next : (q : Queue) → Fit q → (c : Call) → Next q (step q c)
unfolding step pushed popped popped_up_to popped_duplicates turned_away
next q f (push r cumulative) =
    by (Leaves q) (unsound q) _ _ (λ e. stays f)
    (λ _. by (Leaves q) (opposite 32 r.tsn cumulative) _ _ (λ e. stays f)
    (λ _. by (Leaves q) (some (has_tsn r.tsn) (held q) || at_or_before 32 r.tsn cumulative) _ _ (λ e. logged-next q r.tsn f)
    (λ d. by (Leaves q) (leb tsns_most q.count) _ _ (λ e. stays f)
    (λ e. stores f r (either _ _ d).0 (leb-false tsns_most q.count e)))))
next q f (pop tsn) =
    by (Leaves q) (unsound q) _ _ (λ e. stays f)
    (λ _. by (Leaves q) (some (has_tsn tsn) (take 1 (held q))) _ _ (λ e. drops f (drop 1 (held q)) (rw length-drop (omega arith)) (tail_less (held q)))
    (λ e. stays f))
next q f (pop_up_to tsn) =
    by (Leaves q) (unsound q) _ _ (λ e. stays f)
    (λ e. drops f (kept (stays_after tsn) (held q)) (kept_within (stays_after tsn) (held q)) (kept_less (stays_after tsn) (held q)))
next q f pop_duplicates = by (Leaves q) (unsound q) _ _ (λ e. stays f) (λ e. logs f 0 zeros (omega arith))

-- ── no refusal 0 ──

never : (k : ℕ) → 0 < k → refuse k ≡ refuse 0 → ⊥
never k h e = let z : k ≡ 0 = cc in omega arith

fine : none ≡ refuse 0 → ⊥
fine e = let z : ◌≡◌ {A = ℕ} 0 1 = cc in omega arith

sane_report : (bs : List Block) (ss es : List ℕ) → Sane (count_told (written bs ss es).answer)
unfolding written
sane_report bs ss es =
    by (λ (r : Report). Sane (count_told r.answer)) (leb (length bs) (length ss) && leb (length bs) (length es)) _ _ (λ _. fine) (λ _. never 10 (omega arith))

all_sane : (q : Queue) → unsound q ≡ false → AllSane q
unfolding pushed can_push popped popped_up_to popped_duplicates got contains_stream counted is_empty num_bytes last_tsn gap_report
all_sane q e =
    record {
      push =
          λ r cumulative.
          let told : After Bool → Type 0 = λ a. Sane a.told in
          rw e
          (by told (opposite 32 r.tsn cumulative) _ _ (λ _. never 17 (omega arith))
          (λ _. by told (turned_away q r.tsn cumulative) _ _ (λ _. fine)
          (λ _. by told (leb tsns_most q.count) _ _ (λ _. never 8 (omega arith)) (λ _. fine))));
      can_push = λ tsn cumulative. rw e fine;
      pop = λ tsn. rw e (by (λ (a : After Found). Sane a.told) (some (has_tsn tsn) (take 1 (held q))) _ _ (λ _. fine) (λ _. fine));
      pop_up_to = λ tsn. rw e fine;
      pop_duplicates = rw e fine;
      get = λ tsn. rw e (by Sane (some (has_tsn tsn) (held q)) _ _ (λ _. fine) (λ _. fine));
      contains_stream = λ stream. rw e fine;
      len = rw e fine;
      is_empty = rw e fine;
      num_bytes = rw e fine;
      last_tsn = rw e (by Sane (eqb q.count 0) _ _ (λ _. fine) (λ _. fine));
      gap_report = λ cumulative ss es. rw e (sane_report (blocks cumulative (tsns_held q)) ss es);
    }

-- the report's answer, its lists long enough
told :
    (q : Queue) → unsound q ≡ false → (cumulative : ℕ) (ss es : List ℕ) →
    length (blocks cumulative (tsns_held q)) ≤ length ss → length (blocks cumulative (tsns_held q)) ≤ length es →
    gap_report q cumulative ss es
    ≡ lists (says none (length (blocks cumulative (tsns_held q)))) (over ss (starts_of (blocks cumulative (tsns_held q)))) (over es (ends_of (blocks cumulative (tsns_held q))))
unfolding gap_report written
told q e cumulative ss es h k =
    let bs = blocks cumulative (tsns_held q) in
    rw (e, le-leb (length bs) (length ss) h, le-leb (length bs) (length es) k)

-- ── runs ──

start_fits : (ws : List ℕ) → length ws ≡ 4 * tsns_most → Fit (starts ws)
unfolding total
start_fits ws long = fit (starts ws) (omega arith) (omega arith) refl (rows_long tsns_most ws long)

through : (q : Queue) (cs : List Call) → Fit q → Distinct (tsns_held q) → Fit (ran q cs) × Distinct (tsns_held (ran q cs))
through q [] f d = (f, d)
through q (c ∷ cs) f d =
    let n = next q f c in
    through (step q c) cs n.fits (⊎_elim (λ l. l (λ t u. t ≡ u → ⊥) d) (λ m. distinct_more m d) n.moved)

first-arc : (q : Queue) (cs : List Call) → OnArcs q cs → OnArc q
first-arc q [] o = o
first-arc q (c ∷ cs) o = o.0

last-arc : (q : Queue) (cs : List Call) → OnArcs q cs → OnArc (ran q cs)
last-arc q [] o = o
last-arc q (c ∷ cs) o = last-arc (step q c) cs o.1

rises : (q : Queue) (cs : List Call) → Fit q → Rising (tsns_held q) → OnArcs q cs → Rising (tsns_held (ran q cs))
rises q [] f a o = a
rises q (c ∷ cs) f a o =
    let n = next q f c in
    let b = first-arc (step q c) cs o.1 in
    rises (step q c) cs n.fits (⊎_elim (λ l. l (λ t u. before 32 t u ≡ true) a) (λ m. rising_more b.0 m b.1 a) n.moved) o.1

-- ── the theorems ──

module _ (ws : List ℕ) (long : length ws ≡ 4 * tsns_most) (calls : List Call) where
  abbrev last : Queue
  last = ran (starts ws) calls

  all : Fit last × Distinct (tsns_held last)
  all = through (starts ws) calls (start_fits ws long) tt

  -- After any run from `new` on the queue is sound, ..
  pub run_sound : unsound last ≡ false
  run_sound = all.0.ok

  -- .. so that its byte count is the sum of the held lengths, ..
  pub run-bytes : last.bytes ≡ total short_length (held last)
  run-bytes = sym (sound last run_sound).sum

  -- .. and no call on it answers refusal 0.
  pub run_sane : AllSane last
  run_sane = all_sane last run_sound

  -- After any run from `new` on the held TSNs are distinct.
  pub run_distinct : Distinct (tsns_held last)
  run_distinct = all.1

  module _ (arcs : OnArcs (starts ws) calls) where
    -- After a run whose held set lay at each moment in some arc, the stored order is the arc's order, for whatever arc the held set lies in.
    pub run-ordered : (base : ℕ) → InArc base (tsns_held last) → Ordered base (tsns_held last)
    run-ordered base arc = rising_ordered base (tsns_held last) arc (rises (starts ws) calls (start_fits ws long) tt arcs)

    -- And at any cumulative TSN the gap report is the only one possible.
    pub run-report : (cumulative : ℕ) → OnlyReport last cumulative (blocks cumulative (tsns_held last))
    run-report cumulative =
        let a = last-arc (starts ws) calls arcs in
        let o = run-ordered a.0 a.1 in
        let k = report_covers a.0 cumulative (tsns_held last) a.1 o in
        record {
          proper = k.0;
          covers = k.1;
          only = report_unique a.0 cumulative (tsns_held last) a.1 o;
          few = omega (arith, (walk_more cumulative [] (tsns_held last)).1, length-map (held last) (λ (r : Row). r.tsn));
          call = told last run_sound cumulative;
        }

-- Equal held sets and equal cumulative TSNs give equal reports, whatever the runs and the tables were.
module _
    (ws ws' : List ℕ) (long : length ws ≡ 4 * tsns_most) (long' : length ws' ≡ 4 * tsns_most) (calls calls' : List Call)
    (arcs : OnArcs (starts ws) calls) (arcs' : OnArcs (starts ws') calls')
    (same : (t : ℕ) → Memᴰ t (tsns_held (ran (starts ws) calls)) ↔ Memᴰ t (tsns_held (ran (starts ws') calls'))) (cumulative : ℕ) where
  pub run-same : blocks cumulative (tsns_held (ran (starts ws) calls)) ≡ blocks cumulative (tsns_held (ran (starts ws') calls'))
  run-same =
      let a = last-arc (starts ws) calls arcs in
      let b = last-arc (starts ws') calls' arcs' in
      same-report a.0 b.0 cumulative _ _ a.1 (run-ordered ws long calls arcs a.0 a.1) b.1
      (run-ordered ws' long' calls' arcs' b.0 b.1) same

  -- The same of what the call answers and leaves in its lists.
  pub run-same_call : (ss es : List ℕ) → gap_report (ran (starts ws) calls) cumulative ss es ≡ gap_report (ran (starts ws') calls') cumulative ss es
  unfolding gap_report
  run-same_call ss es = rw (run_sound ws long calls, run_sound ws' long' calls', run-same)

-- ── a run over the wrap ──

-- a TSN comes, with 10 bytes
abbrev arrival : ℕ → Call
arrival tsn = push (row 10 tsn 0 0) 4294967294

-- 0, 2 and 4294967295 come, in this order, and the first of the arc goes: P7, out of order
abbrev pub crossing : List Call
crossing = arrival 0 ∷ arrival 2 ∷ arrival 4294967295 ∷ pop 4294967295 ∷ []

module _ (ws : List ℕ) where
  -- the held TSNs, moment by moment
  one : tsns_held (ran (starts ws) (take 1 crossing)) ≡ 0 ∷ []
  unfolding step pushed stored turned_away unsound total some up_to_last put over before compared ordered distance ahead
  one = refl

  two : tsns_held (ran (starts ws) (take 2 crossing)) ≡ 0 ∷ 2 ∷ []
  unfolding step pushed stored turned_away unsound total some up_to_last put over before compared ordered distance ahead
  two = refl

  -- The last to come stands first.
  pub crossing-three : tsns_held (ran (starts ws) (take 3 crossing)) ≡ 4294967295 ∷ 0 ∷ 2 ∷ []
  unfolding step pushed stored turned_away unsound total some up_to_last put over before compared ordered distance ahead
  crossing-three = refl

  pub crossing_four : tsns_held (ran (starts ws) crossing) ≡ 0 ∷ 2 ∷ []
  unfolding step pushed popped stored turned_away unsound total some up_to_last put over before compared ordered distance ahead
  crossing_four = refl

  -- The run meets the premise: at each moment the TSNs lie in the arc from 4294967295 on.
  pub crossing_arcs : OnArcs (starts ws) crossing
  unfolding ahead
  crossing_arcs =
      let none_held : InArc 4294967295 [] = λ t m. absurd (Memᴰ.not-nil m) in
      let last : InArc 4294967295 (2 ∷ []) = arc-more 4294967295 2 [] (omega arith) (omega arith) none_held in
      let both : InArc 4294967295 (0 ∷ 2 ∷ []) = arc-more 4294967295 0 (2 ∷ []) (omega arith) (omega arith) last in (
        (4294967295, none_held),
        (
          (4294967295, rw one (arc-more 4294967295 0 [] (omega arith) (omega arith) none_held)),
          (
            (4294967295, rw two both),
            ((4294967295, rw crossing-three (arc-more 4294967295 4294967295 (0 ∷ 2 ∷ []) (omega arith) (omega arith) both)), (4294967295, rw crossing_four both)),
          ),
        ),
      )

  -- Its report before the pop, at 4294967294: 1-2, 4-4.
  pub crossing-blocks : blocks 4294967294 (tsns_held (ran (starts ws) (take 3 crossing))) ≡ block 1 2 ∷ block 4 4 ∷ []
  unfolding walk extend ahead
  crossing-blocks = rw crossing-three

  -- And after it, at 4294967295: 1-1, 3-3, and no other.
  pub crossing-report : length ws ≡ 4 * tsns_most → OnlyReport (ran (starts ws) crossing) 4294967295 (block 1 1 ∷ block 3 3 ∷ [])
  unfolding walk extend ahead
  crossing-report long =
      let e : blocks 4294967295 (tsns_held (ran (starts ws) crossing)) ≡ block 1 1 ∷ block 3 3 ∷ [] = rw crossing_four in
      rw e at (run-report ws long crossing crossing_arcs 4294967295)
