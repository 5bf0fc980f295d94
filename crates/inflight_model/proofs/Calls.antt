-- What each call answers and leaves, from what its passes found: the places, rows and sums are variables with one equation each.
-- Assumes nothing.
use mathlib.Core.Path.{◌≡◌, sym, ap, ◌∙◌}
use mathlib.Core.Bool.{true, false}
use mathlib.Core.List.{List, map}
use Prim.Native.Nat.{ℕ, ◌-◌, ◌<◌, ◌≤◌}
use native.Mathlib.Omega.{arith}
use borrow.Author.Tests.{lt-ltb, le-ltb, eq-eqb, ne_eqb}
use lib.ListN.{length, get_or, take, set}
use lib.Seq.{get_or-take}
use Rattle.wire_model.specs.BigEndian.{over}
use Rattle.wire_model.specs.Refusal.{none, says}
use Rattle.moves_model.specs.Lists.{gone}
use Rattle.table.specs.Rows.{blank, total, some, ahead_of, kept, has_tsn, short_length}
use Rattle.table.specs.declared.Row.{Row}
use Rattle.table.proofs.Scans.{some-ahead}
use Rattle.payload_model.specs.Limits.{tsns_most}
use Rattle.payload_model.specs.Queue.{stays_after}
use Rattle.payload_model.proofs.Laws.{Sound, kept_within, front-back, none_first, is-first, first-held, first_small}
use Rattle.inflight_model.specs.Queue.{Queue, held, numbers, unsound, nothing_sent, after, acked_head, with_head, again_row, abandoned_among, siblings, kept_beside, sent_of, marked_acked, marked_all, abandoned, popped, popped_up_to, got}
use Rattle.inflight_model.proofs.Marks.{total-again, total-abandoned, abandoned-long}
use Rattle.inflight_model.proofs.Laws.{as_tsns, sound, held-long, numbers-long, first-gone, one_small, one_released}

front : (n : ℕ) (xs vs : List Row) → n ≡ length vs → take n (over xs vs) ≡ vs
front n xs vs e = rw e (front-back xs vs)

module _ (q : Queue) (fine : unsound q ≡ false) (long : length q.rows ≡ tsns_most) where
  s : Sound (as_tsns q)
  s = sound q fine

  -- ── the record with a TSN, sought from the first on ──

  module _ (tsn at : ℕ) (e : at ≡ ahead_of (has_tsn tsn) (held q)) where
    missing : q.count ≤ at → some (has_tsn tsn) (held q) ≡ false
    missing h = some-ahead (has_tsn tsn) (held q) ∙ le-ltb (ahead_of (has_tsn tsn) (held q)) (length (held q)) (omega (arith, held-long q s long))

    found : at < q.count → some (has_tsn tsn) (held q) ≡ true
    found h = some-ahead (has_tsn tsn) (held q) ∙ lt-ltb (ahead_of (has_tsn tsn) (held q)) (length (held q)) (omega (arith, held-long q s long))

    pub acked_none : q.count ≤ at → after (says none 0) q ≡ marked_acked q tsn
    unfolding marked_acked
    acked_none h = rw (fine, missing h)

    pub got_none : q.count ≤ at → says none nothing_sent ≡ got q tsn
    unfolding got
    got_none h = rw (fine, missing h)

    module _ (h : at < q.count) (r : Row) (is : r ≡ get_or q.rows at blank) where
      -- it is held
      in_held : r ≡ get_or (held q) at blank
      in_held = is ∙ sym (get_or-take q.count q.rows at blank h)

      pub acked_small : short_length r.head ≤ q.bytes
      acked_small = rw in_held (one_small q s long at h)

      pub acked_one :
          {rows' : List Row} → rows' ≡ set q.rows at (with_head (acked_head r.head) r) →
          after (says none (short_length r.head)) (record { count = q.count; bytes = q.bytes - short_length r.head; rows = rows'; messages = q.messages }) ≡ marked_acked q tsn
      unfolding marked_acked
      acked_one {rows'} f =
          rw (fine, found h, ← e, in_held)
          (ap (after (says none (short_length (get_or (held q) at blank).head))) (one_released q s long at h (rw in_held at f)))

      pub got-one : (m : ℕ) → m ≡ get_or q.messages at 0 → says none (sent_of r m) ≡ got q tsn
      unfolding got
      got-one m f = rw (fine, found h, ← e, ← in_held, get_or-take q.count q.messages at 0 h, ← f)

  -- ── marks on many ──

  pub again-all :
      {rows' : List Row} → rows' ≡ over q.rows (map again_row (held q)) →
      after (says none true) (record { count = q.count; bytes = q.bytes; rows = rows'; messages = q.messages }) ≡ marked_all q
  unfolding marked_all
  again-all e = rw (fine, e, total-again (held q), s.sum)

  module _ (wide : length q.messages ≡ tsns_most) (message : ℕ) {rows' : List Row} (e : rows' ≡ over q.rows (abandoned_among message (held q) (numbers q)))
      (sum : ℕ) (f : sum ≡ total short_length (take q.count rows')) where
    abbrev ys : List Row
    ys = abandoned_among message (held q) (numbers q)

    abandoned-sum : sum ≡ total short_length ys
    abandoned-sum =
        let l : q.count ≡ length ys = sym (abandoned-long message (held q) (numbers q) (numbers-long q s long wide) ∙ held-long q s long) in
        f ∙ ap (total short_length) (rw e (front q.count q.rows ys l))

    pub abandoned_small : sum ≤ q.bytes
    abandoned_small = omega (arith, abandoned-sum, total-abandoned message (held q) (numbers q) (numbers-long q s long wide), s.sum)

    pub abandoned-all : after (says none (q.bytes - sum)) (record { count = q.count; bytes = sum; rows = rows'; messages = q.messages }) ≡ abandoned q message
    unfolding abandoned
    abandoned-all =
        let b : q.bytes - sum ≡ total short_length (siblings message (held q) (numbers q)) = omega (arith, abandoned-sum, total-abandoned message (held q) (numbers q) (numbers-long q s long wide), s.sum) in
        rw (fine, b, abandoned-sum, e)

  -- ── pop ──

  pub popped-empty : (tsn : ℕ) → q.count ≡ 0 → after (says none nothing_sent) q ≡ popped q tsn
  unfolding popped
  popped-empty tsn e = rw (fine, none_first (has_tsn tsn) q.rows q.count e)

  module _ (h : 0 < q.count) (r : Row) (is : r ≡ get_or q.rows 0 blank) (tsn : ℕ) where
    pub popped_other : (r.tsn ≡ tsn → ⊥) → after (says none nothing_sent) q ≡ popped q tsn
    unfolding popped
    popped_other n = rw (fine, is-first (as_tsns q) s long h (has_tsn tsn), ← is, ne_eqb r.tsn tsn n)

    pub popped_small : short_length r.head ≤ q.bytes
    popped_small = rw is (first_small (as_tsns q) s long h)

    pub popped-one :
        r.tsn ≡ tsn → (m : ℕ) → m ≡ get_or q.messages 0 0 → {rows' : List Row} {ms' : List ℕ} → rows' ≡ over q.rows (gone 0 1 (held q)) → ms' ≡ over q.messages (gone 0 1 (numbers q)) →
        after (says none (sent_of r m)) (record { count = q.count - 1; bytes = q.bytes - short_length r.head; rows = rows'; messages = ms' }) ≡ popped q tsn
    unfolding popped
    popped-one e m f g k =
        rw (fine, is-first (as_tsns q) s long h (has_tsn tsn), first-held (as_tsns q) s long h, get_or-take q.count q.messages 0 0 h, ← is, eq-eqb r.tsn tsn e, ← f)
        (ap (after (says none (sent_of r m))) (rw (← is) at (first-gone q s long h g k)))

  module _ (tsn n : ℕ) (e : n ≡ length (kept (stays_after tsn) (held q))) {rows' : List Row} (f : rows' ≡ over q.rows (kept (stays_after tsn) (held q))) where
    pub dropped_few : n ≤ tsns_most
    dropped_few = omega (arith, kept_within (stays_after tsn) (held q), held-long q s long, s.few)

    pub dropped-all :
        {ms' : List ℕ} → ms' ≡ over q.messages (kept_beside (stays_after tsn) (held q) (numbers q)) → (sum : ℕ) → sum ≡ total short_length (take n rows') →
        after (says none true) (record { count = n; bytes = sum; rows = rows'; messages = ms' }) ≡ popped_up_to q tsn
    unfolding popped_up_to
    dropped-all g sum k =
        let t : sum ≡ total short_length (kept (stays_after tsn) (held q)) = k ∙ ap (total short_length) (rw f (front n q.rows (kept (stays_after tsn) (held q)) e)) in
        rw (fine, t, f, g, e)
