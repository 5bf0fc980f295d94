-- What a sound queue has, and what the calls make of it: the laws that the calls' proofs cite.
-- Assumes nothing.
use mathlib.Core.Path.{◌≡◌, sym, ap, ◌∙◌}
use mathlib.Core.Bool.{false}
use mathlib.Core.List.{List, []}
use Prim.Native.Nat.{ℕ, ◌-◌, ◌<◌, ◌≤◌}
use native.Mathlib.Omega.{arith}
use lib.ListN.{length, get_or, take, drop, set, length-set, take-append-drop}
use lib.Seq.{length-take-le, set-append_left}
use Rattle.wire_model.specs.BigEndian.{over}
use Rattle.moves_model.specs.Lists.{gone}
use Rattle.table.specs.Rows.{blank, total, short_length}
use Rattle.table.specs.declared.Row.{Row}
use Rattle.payload_model.specs.Limits.{tsns_most}
use Rattle.payload_model.specs.Queue as tsns
use Rattle.payload_model.proofs.Laws as tsn-laws
use Rattle.payload_model.proofs.Laws.{Sound}
use Rattle.inflight_model.specs.Queue.{Queue, held, numbers, unsound, remarked, left, acked_head, with_head}
use Rattle.inflight_model.proofs.Marks.{acked_released, total-set}

-- the counts and rows, as a TSN queue with an empty log: its laws serve here too
abbrev pub as_tsns : Queue → tsns.Queue
as_tsns q = record { count = q.count; bytes = q.bytes; dups = 0; log = []; rows = q.rows }

pub sound : (q : Queue) → unsound q ≡ false → Sound (as_tsns q)
unfolding unsound tsns.unsound
sound q e = tsn-laws.sound (as_tsns q) e

-- a store among the first rows
set_front : (xs : List Row) (n at : ℕ) (x : Row) → at < n → n ≤ length xs → set xs at x ≡ over xs (set (take n xs) at x)
unfolding over
set_front xs n at x h k =
    let l = length-take-le n xs k in
    ap (λ (l : List Row). set l at x) (sym (take-append-drop n xs)) ∙ set-append_left (take n xs) (drop n xs) at x (omega arith) ∙ rw (length-set, l)

module _ (q : Queue) (s : Sound (as_tsns q)) (long : length q.rows ≡ tsns_most) where
  pub held-long : length (held q) ≡ q.count
  held-long = length-take-le q.count q.rows (omega (arith, s.few))

  pub numbers-long : length q.messages ≡ tsns_most → length (numbers q) ≡ length (held q)
  numbers-long e = length-take-le q.count q.messages (omega (arith, s.few)) ∙ sym held-long

  -- ── the first record gone ──

  pub first-gone :
      0 < q.count → {rows' : List Row} {ms' : List ℕ} → rows' ≡ over q.rows (gone 0 1 (held q)) → ms' ≡ over q.messages (gone 0 1 (numbers q)) →
      record { count = q.count - 1; bytes = q.bytes - short_length (get_or q.rows 0 blank).head; rows = rows'; messages = ms' } ≡ left q (drop 1 (held q)) (drop 1 (numbers q))
  unfolding gone
  first-gone h {rows'} {ms'} e f =
      rw f (ap (λ (p : tsns.Queue). record { count = p.count; bytes = p.bytes; rows = p.rows; messages = over q.messages (drop 1 (numbers q)) }) (tsn-laws.first-gone (as_tsns q) s long h e))

  -- ── one record acknowledged ──

  module _ (at : ℕ) (h : at < q.count) where
    abbrev r : Row
    r = get_or (held q) at blank

    -- its length is at most the byte count ..
    pub one_small : short_length r.head ≤ q.bytes
    one_small =
        let e = total-set (held q) at blank (omega (arith, held-long)) in
        omega (arith, s.sum)

    -- .. which is less by it
    pub one_released :
        {rows' : List Row} → rows' ≡ set q.rows at (with_head (acked_head r.head) r) →
        record { count = q.count; bytes = q.bytes - short_length r.head; rows = rows'; messages = q.messages } ≡ remarked q (set (held q) at (with_head (acked_head r.head) r))
    one_released {rows'} e =
        let new = with_head (acked_head r.head) r in
        let t = total-set (held q) at new (omega (arith, held-long)) in
        let b : total short_length (set (held q) at new) ≡ q.bytes - short_length r.head = omega (arith, s.sum, acked_released r.head) in
        rw (e, b, set_front q.rows q.count at new h (omega (arith, s.few)))
