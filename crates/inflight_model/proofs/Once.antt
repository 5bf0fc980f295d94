-- Bytes are released once: acknowledging again answers 0 and changes nothing, abandoning again answers 0.
-- Assumes nothing.
use mathlib.Core.Path.{◌≡◌, refl, sym, ap, ◌∙◌}
use mathlib.Core.Bool.{Bool, true, false, cond}
use mathlib.Core.List.{List, [], ◌∷◌}
use Prim.Native.Nat.{ℕ, zero, suc, ◌*◌, ◌<◌, ◌≤◌}
use native.Mathlib.Omega.{arith}
use lib.Dec.{eqb}
use borrow.Author.Tests.{ltb-true, lt-ltb}
use lib.ListN.{length, get_or, take, set, length-set, take-append-drop}
use lib.Seq.{set-get_or, get_or-set_same, length-take-le}
use Rattle.wire_model.specs.BigEndian.{over}
use Rattle.wire_model.specs.Refusal.{none, says}
use Rattle.table.specs.Rows.{blank, total, some, ahead_of, has_tsn, short_length}
use Rattle.table.specs.declared.Row.{Row}
use Rattle.table.proofs.Scans.{some-ahead}
use Rattle.payload_model.specs.Limits.{tsns_most}
use Rattle.payload_model.proofs.Laws.{front-back}
use Rattle.inflight_model.specs.Queue.{Queue, held, numbers, After, after, with_head, acked_head, abandoned_head, abandoned_among, siblings, remarked, place, marked_acked, abandoned}
use Rattle.inflight_model.specs.Run.{Call, mark_as_acked, abandon_message, step, starts, ran}
use Rattle.inflight_model.proofs.Marks.{acked_released, abandoned_released, abandoned-long}
use Rattle.inflight_model.proofs.Laws.{sound, held-long, numbers-long}
use Rattle.inflight_model.proofs.Runs.{Fit, next, all}

acked_again : (h : ℕ) → acked_head (acked_head h) ≡ acked_head h
unfolding acked_head
acked_again h = omega arith

-- another head is found at the same place
ahead-set : (tsn : ℕ) (rs : List Row) (at h : ℕ) → ahead_of (has_tsn tsn) (set rs at (with_head h (get_or rs at blank))) ≡ ahead_of (has_tsn tsn) rs
unfolding ahead_of
ahead-set tsn [] at h = refl
ahead-set tsn (r ∷ rs) zero h = refl
ahead-set tsn (r ∷ rs) (suc at) h = rw (ahead-set tsn rs at h)

front : (n : ℕ) (xs vs : List Row) → n ≡ length vs → take n (over xs vs) ≡ vs
front n xs vs e = rw e (front-back xs vs)

own : (n : ℕ) (xs : List Row) → n ≤ length xs → over xs (take n xs) ≡ xs
unfolding over
own n xs h = rw (length-take-le n xs h, take-append-drop)

missed : (q : Queue) (tsn : ℕ) → Fit q → some (has_tsn tsn) (held q) ≡ false → marked_acked q tsn ≡ after (says none 0) q
unfolding marked_acked
missed q tsn f e = rw (f.ok, e)

module _ (q : Queue) (tsn : ℕ) (f : Fit q) where
  abbrev at : ℕ
  at = place q tsn

  abbrev r : Row
  r = get_or (held q) at blank

  few : q.count ≤ tsns_most
  few = (sound q f.ok).few

  -- a record that has no bytes left, and is marked already
  released_already : some (has_tsn tsn) (held q) ≡ true → short_length r.head ≡ 0 → acked_head r.head ≡ r.head → marked_acked q tsn ≡ after (says none 0) q
  unfolding marked_acked
  released_already e n m = rw (f.ok, e, n, m, set-get_or (held q) at blank, (sound q f.ok).sum, own q.count q.rows (omega (arith, few, f.long)))

-- the queue that an acknowledgement of a held TSN leaves
module _ (q : Queue) (tsn : ℕ) (f : Fit q) (e : some (has_tsn tsn) (held q) ≡ true) where
  abbrev new : Row
  new = with_head (acked_head (r q tsn f).head) (r q tsn f)

  abbrev rs : List Row
  rs = set (held q) (at q tsn f) new

  in_held : at q tsn f < length (held q)
  in_held = ltb-true (at q tsn f) (length (held q)) (sym (some-ahead (has_tsn tsn) (held q)) ∙ e)

  pub once : marked_acked q tsn ≡ after (says none (short_length (r q tsn f).head)) (remarked q rs)
  unfolding marked_acked
  once = rw (f.ok, e)

  fits : Fit (remarked q rs)
  unfolding step
  fits = rw (ap (λ (a : After ℕ). a.queue) once) at (next q f (mark_as_acked tsn)).fits

  now : held (remarked q rs) ≡ rs
  now = front q.count q.rows rs (sym (length-set (held q) (at q tsn f) new ∙ held-long q (sound q f.ok) f.long))

  same_place : ahead_of (has_tsn tsn) rs ≡ at q tsn f
  same_place = ahead-set tsn (held q) (at q tsn f) (acked_head (r q tsn f).head)

  still : some (has_tsn tsn) (held (remarked q rs)) ≡ true
  still =
      ap (some (has_tsn tsn)) now ∙ some-ahead (has_tsn tsn) rs
      ∙ lt-ltb (ahead_of (has_tsn tsn) rs) (length rs) (rw (same_place, length-set (held q) (at q tsn f) new) in_held)

  row-there : get_or (held (remarked q rs)) (place (remarked q rs) tsn) blank ≡ new
  row-there = rw (now, same_place) (get_or-set_same (held q) (at q tsn f) new blank in_held)

  twice-held : marked_acked (remarked q rs) tsn ≡ after (says none 0) (remarked q rs)
  twice-held =
      let h = ap (λ (x : Row). x.head) row-there in
      released_already (remarked q rs) tsn fits still (ap short_length h ∙ acked_released (r q tsn f).head) (ap acked_head h ∙ acked_again (r q tsn f).head ∙ sym h)

-- "Acknowledging twice releases bytes once and answers 0 the second time": the second time nothing changes.
pub acked_twice : (q : Queue) (tsn : ℕ) → Fit q → marked_acked (marked_acked q tsn).queue tsn ≡ after (says none 0) (marked_acked q tsn).queue
acked_twice q tsn f = go (some (has_tsn tsn) (held q)) refl
  where
    none_held : some (has_tsn tsn) (held q) ≡ false → marked_acked q tsn ≡ after (says none 0) q
    none_held = missed q tsn f

    go : (b : Bool) → some (has_tsn tsn) (held q) ≡ b → marked_acked (marked_acked q tsn).queue tsn ≡ after (says none 0) (marked_acked q tsn).queue
    go true e = rw (once q tsn f e) (twice-held q tsn f e)
    go false e = rw (none_held e) (none_held e)

-- ── abandoned once ──

none_left : (message : ℕ) (xs : List Row) (ms : List ℕ) → total short_length (siblings message (abandoned_among message xs ms) ms) ≡ 0
unfolding total siblings abandoned_among
none_left message [] ms = refl
none_left message (x ∷ xs) [] = refl
none_left message (x ∷ xs) (m ∷ ms) = go (eqb m message) (none_left message xs ms)
  where
    go :
        (b : Bool) → total short_length (siblings message (abandoned_among message xs ms) ms) ≡ 0 →
        total short_length (cond b (cond b (with_head (abandoned_head x.head) x) x ∷ siblings message (abandoned_among message xs ms) ms) (siblings message (abandoned_among message xs ms) ms)) ≡ 0
    go true e = omega (arith, abandoned_released x.head, e)
    go false e = e

module _ (q : Queue) (message : ℕ) (f : Fit q) where
  abbrev ys : List Row
  ys = abandoned_among message (held q) (numbers q)

  abandoned_once : abandoned q message ≡ after (says none (total short_length (siblings message (held q) (numbers q)))) (remarked q ys)
  unfolding abandoned
  abandoned_once = rw f.ok

  left_fits : Fit (remarked q ys)
  unfolding step
  left_fits = rw (ap (λ (a : After ℕ). a.queue) abandoned_once) at (next q f (abandon_message message)).fits

  left-held : held (remarked q ys) ≡ ys
  left-held =
      let s = sound q f.ok in
      front q.count q.rows ys (sym (abandoned-long message (held q) (numbers q) (numbers-long q s f.long f.wide) ∙ held-long q s f.long))

  abandoned-again : (abandoned (remarked q ys) message).told ≡ says none 0
  unfolding abandoned
  abandoned-again = rw (left_fits.ok, left-held, none_left message (held q) (numbers q))

  -- Abandoning a message again answers 0.
  pub abandoned-twice : (abandoned (abandoned q message).queue message).told ≡ says none 0
  abandoned-twice = rw abandoned_once abandoned-again

-- Both hold after any run from `new` on.
module _ (ws ms : List ℕ) (long : length ws ≡ 4 * tsns_most) (wide : length ms ≡ tsns_most) (calls : List Call) where
  abbrev last : Queue
  last = ran (starts ws ms) calls

  pub run_acked_twice : (tsn : ℕ) → marked_acked (marked_acked last tsn).queue tsn ≡ after (says none 0) (marked_acked last tsn).queue
  run_acked_twice tsn = acked_twice last tsn (all ws ms long wide calls).0

  pub run-abandoned-twice : (message : ℕ) → (abandoned (abandoned last message).queue message).told ≡ says none 0
  run-abandoned-twice message = abandoned-twice last message (all ws ms long wide calls).0
