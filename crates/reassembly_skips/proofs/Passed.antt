-- Loose unordered fragments up to the first one after a TSN, taken out.
-- Assumes nothing.
use mathlib.Core.Path.{◌≡◌, refl}
use mathlib.Core.List.{List}
use Prim.Native.Nat.{ℕ, ◌-◌, ◌≤◌}
use native.Mathlib.Omega.{arith}
use lib.ListN.{length, take, drop, length-drop, length-take}
use Rattle.moves_model.specs.Lists.{gone}
use Rattle.table.specs.Rows.{ahead_of}
use Rattle.table.specs.declared.Row.{Row}
use Rattle.table.proofs.Scans.{ahead_within}
use Rattle.fragments.specs.Frag.{of_row, tsn_after}
use Rattle.fragments.specs.Words.{size, past}
use Rattle.fragments.specs.Pool.{lay_rows, lay_bytes}
use Rattle.fragments.proofs.Pool.{B, size-gone}
use Rattle.fragments.proofs.Seen.{past-cut}
use Rattle.reassembly_state.specs.Limits.{frags_most}
use Rattle.reassembly_state.specs.Model.{held, not_after, skip_unordered}
use Rattle.reassembly_state.specs.State.{State, fragments, view, counts, lay}
use Rattle.reassembly_state.specs.Rows.{loose_rows}
use Rattle.reassembly_state.specs.declared.Counts.{Counts}
use Rattle.reassembly_state.proofs.Parts.{gone_middle}
use Rattle.reassembly_state.proofs.Laws.{Sound, held-view, finished-length, unordered-length, ordered-length, unordered-cut, size-held, segment-size, view_si, view-next, view-max, counts_by, laid_by}

module _ (s : State) (k : Sound s) (full : length s.rows ≡ frags_most) (t : ℕ) where
  abbrev q : Counts
  q = s.queue

  -- how many go
  abbrev pub passed : ℕ
  passed = ahead_of (of_row (tsn_after t)) (loose_rows q s.rows)

  pub passed_few : passed ≤ q.unordered
  passed_few = let h = ahead_within (of_row (tsn_after t)) (loose_rows q s.rows) in let l : length (loose_rows q s.rows) ≤ q.unordered = simp length-take (omega arith) in omega arith

  -- what stays of them
  stays : past (not_after t) (view s).unordered ≡ drop passed (view s).unordered
  stays = rw (unordered-cut s k.few full) (past-cut (not_after t) (of_row (tsn_after t)) (λ r bs. refl) (loose_rows q s.rows) _)

  passed-held : held (skip_unordered (view s) t) ≡ gone q.finished passed (fragments s)
  unfolding skip_unordered
  passed-held =
      let h : passed ≤ length (view s).unordered = rw (unordered-length s k.few full) passed_few in
      rw (stays, gone_middle (view s).finished (view s).unordered (view s).ordered passed h, held-view s, finished-length s k.few full)

  passed-size : size (held (skip_unordered (view s) t)) ≡ q.n_bytes - B (take passed (drop q.finished s.rows))
  passed-size =
      let h = passed_few in
      let e = size-gone (fragments s) q.finished passed in
      let f = segment-size s k q.finished passed (omega arith) in
      let g = size-held s k in
      rw passed-held (omega arith)

  passed-bytes : B (take passed (drop q.finished s.rows)) ≤ q.n_bytes
  passed-bytes =
      let h = passed_few in
      let e = size-gone (fragments s) q.finished passed in
      let f = segment-size s k q.finished passed (omega arith) in
      let g = size-held s k in
      omega arith

  -- the counts without n of them, of so many bytes
  abbrev without : ℕ → ℕ → Counts
  without n bytes =
      record {
        si = q.si;
        next_ssn = q.next_ssn;
        max_message_size = q.max_message_size;
        finished = q.finished;
        unordered = q.unordered - n;
        ordered = q.ordered;
        n_bytes = q.n_bytes - bytes;
      }

  abbrev left : Counts
  left = without passed (B (take passed (drop q.finished s.rows)))

  passed-counts : counts (skip_unordered (view s) t) ≡ left
  unfolding skip_unordered
  passed-counts =
      let few = unordered-length s k.few full in
      let long : length (past (not_after t) (view s).unordered) ≡ q.unordered - passed = rw (stays, length-drop) (omega arith) in
      counts_by (skip_unordered (view s) t) left (view_si s) (view-next s) (view-max s) (finished-length s k.few full) long (ordered-length s k.few full) passed-size

  -- the calls' answers: how many go, and their bytes
  module _ {n bytes : ℕ} (is-n : n ≡ passed) (is-bytes : bytes ≡ B (take n (drop q.finished s.rows))) where
    pub freed_bytes : bytes ≤ q.n_bytes
    freed_bytes = rw (is-bytes, is-n) passed-bytes

    pub passed-laid : {rows : List Row} {pool : List ℕ} → rows ≡ lay_rows (gone q.finished n (fragments s)) s.rows → pool ≡ lay_bytes (gone q.finished n (fragments s)) s.pool
        → ◌≡◌ {A = State} (record { queue = without n bytes; rows = rows; pool = pool }) (lay (skip_unordered (view s) t) s)
    passed-laid e f =
        rw (is-bytes, is-n)
        (laid_by (skip_unordered (view s) t) s left (gone q.finished passed (fragments s)) passed-counts passed-held (rw is-n at e) (rw is-n at f))
