-- The log plays no part but where it is handed out: whatever it holds, a call answers the same and leaves the same counts and rows, and it leaves the log as
-- it was, but for the place where a push notes a TSN.
-- Assumes nothing.
use Rattle.std.specs.Prelude.{◌≡◌, ℕ, ◌+◌, Bool, true, false, cond, ltb, leb, List, set, take}
use Rattle.std.proofs.Math.Path.{refl}
use Rattle.std.proofs.Common.{ap, arith, lt-ltb, le-ltb}
use Rattle.wire_model.specs.Refusal.{none, refuse, Told, says}
use Rattle.serial_model.specs.Serial.{opposite}
use Rattle.table.specs.Rows.{some, has_tsn}
use Rattle.table.specs.declared.Row.{Row}
use Rattle.payload_model.specs.Limits.{tsns_most, log_most}
use Rattle.payload_model.specs.Queue.{Queue, held, After, after, unsound, turned_away, logged, stored, pushed, popped, popped_up_to}

-- a queue with another log
abbrev pub with_log : List ℕ → Queue → Queue
with_log log q = record { count = q.count; bytes = q.bytes; dups = q.dups; log = log; rows = q.rows }

-- and what a call leaves
abbrev pub left_with_log : {A : Type 0} → List ℕ → After A → After A
left_with_log log a = after a.told (with_log log a.queue)

-- the log with a TSN behind its first ones, where it holds more than those
abbrev pub noted : List ℕ → ℕ → ℕ → ℕ → List ℕ
noted log at dups tsn = cond (ltb at dups) (set log at tsn) log

-- what a push leaves, with another log that it found `at` TSNs in
abbrev pub left_noted : {A : Type 0} → List ℕ → ℕ → ℕ → After A → After A
left_noted log at tsn a = left_with_log (noted log at a.queue.dups tsn) a

-- ── what is so of both ways of a test is so of its outcome ──

both : {A B : Type 0} (f : A → B) (b : Bool) {x y : A} {x' y' : B} → x' ≡ f x → y' ≡ f y → cond b x' y' ≡ f (cond b x y)
both f true e g = e
both f false e g = g

module _ (q : Queue) (log : List ℕ) where
  pub popped_log : (tsn : ℕ) → popped (with_log log q) tsn ≡ left_with_log log (popped q tsn)
  unfolding popped unsound
  popped_log tsn = both (left_with_log log) (unsound q) refl (both (left_with_log log) (some (has_tsn tsn) (take 1 (held q))) refl refl)

  pub popped_up_to_log : (tsn : ℕ) → popped_up_to (with_log log q) tsn ≡ left_with_log log (popped_up_to q tsn)
  unfolding popped_up_to unsound
  popped_up_to_log tsn = both (left_with_log log) (unsound q) refl refl

  -- ── push ──

  unnoted : (tsn : ℕ) → log ≡ noted log q.dups q.dups tsn
  unnoted tsn = rw (le-ltb q.dups q.dups (omega arith))

  one_more : (tsn : ℕ) → set log q.dups tsn ≡ noted log q.dups (q.dups + 1) tsn
  one_more tsn = rw (lt-ltb q.dups (q.dups + 1) (omega arith))

  logged_log : (t : Told Bool) (tsn : ℕ) → after t (logged (with_log log q) tsn) ≡ left_noted log q.dups tsn (after t (logged q tsn))
  unfolding logged
  logged_log t tsn = cases (ltb q.dups log_most)
    where
      grown : List ℕ → Queue
      grown l = record { count = q.count; bytes = q.bytes; dups = q.dups + 1; log = l; rows = q.rows }

      cases : (b : Bool) → after t (cond b (grown (set log q.dups tsn)) (with_log log q)) ≡ left_noted log q.dups tsn (after t (cond b (grown (set q.log q.dups tsn)) q))
      cases true = ap (λ (l : List ℕ). after t (grown l)) (one_more tsn)
      cases false = ap (λ (l : List ℕ). after t (with_log l q)) (unnoted tsn)

  pub pushed_log : (r : Row) (cumulative : ℕ) → pushed (with_log log q) r cumulative ≡ left_noted log q.dups r.tsn (pushed q r cumulative)
  unfolding pushed unsound turned_away stored
  pushed_log r cumulative =
      let f = left_noted log q.dups r.tsn in
      let same = unnoted r.tsn in
      both f (unsound q) (ap (λ (l : List ℕ). after (says (refuse 0) false) (with_log l q)) same)
      (both f (opposite 32 r.tsn cumulative) (ap (λ (l : List ℕ). after (says (refuse 17) false) (with_log l q)) same)
      (both f (turned_away q r.tsn cumulative) (logged_log (says none false) r.tsn)
      (both f (leb tsns_most q.count) (ap (λ (l : List ℕ). after (says (refuse 8) false) (with_log l q)) same)
      (ap (λ (l : List ℕ). after (says none true) (with_log l (stored q r))) same))))
