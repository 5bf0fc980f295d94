-- What a skip of a queue that has others in its lists leaves, and where those behind it stand once they moved down to what is left.
-- Assumes nothing.
use mathlib.Core.Path.{◌≡◌, sym, ap, ◌∙◌}
use mathlib.Core.List.{List, ◌++◌}
use Prim.Native.Nat.{ℕ, ◌+◌, ◌-◌, ◌≤◌, ◌<◌}
use native.Mathlib.Omega.{arith}
use lib.ListN.{length, take, length-append}
use Rattle.wire_model.specs.BigEndian.{over}
use Rattle.moves_model.specs.Lists.{gone}
use Rattle.table.specs.declared.Row.{Row}
use Rattle.fragments.specs.Frag.{Frag}
use Rattle.fragments.specs.Words.{size}
use Rattle.fragments.specs.Pool.{lay_rows, lay_bytes}
use Rattle.reassembly_state.specs.Limits.{frags_most}
use Rattle.reassembly_state.specs.Model.{Queue, held, skip_ordered, skip_unordered}
use Rattle.reassembly_state.specs.State as one
use Rattle.reassembly_state.specs.State.{count, counts}
use Rattle.reassembly_state.specs.declared.Counts.{Counts}
use Rattle.reassembly_bounded.specs.Bounded.{skip_bounded}
use Rattle.reassembly_theorems.proofs.Within.{Within, skip_ordered_within, skip_bounded_within}
use Rattle.streams_model.specs.State.{State, own}
use Rattle.streams_model.specs.Among.{Others, among_counts, among_all, among_none, up_to, mine, rows_before, rows_behind, bytes_before, bytes_behind, before, behind, among}
use Rattle.streams_model.proofs.Laws.{Sound, sums-total}
use Rattle.streams_model.proofs.Among.{rows_split, bytes-split, none_behind, held_up_to, counts-amongst, before-length, before-size, own-length, own-bytes, among_none-view, among-all-view}
use Rattle.streams_model.proofs.Beside.{skip_ordered-behind, skip_bounded-behind, skip_unordered-amid}
use Rattle.streams_model.proofs.Moved.{rows_down, bytes_down}
use Rattle.streams_model.proofs.Left.{Left, stands}
use Rattle.streams_model.proofs.Front.{Fronted}

-- the queue m of stream j stands behind those before it, and holds no more than the stream did; q had its counts, and what stands behind is not moved
pub record Shrunk (s : State) (j : ℕ) (m : Queue) (q left : Counts) (rows : List Row) (pool : List ℕ) : Type 0 where
  pub is : stands left rows pool ≡ one.lay (up_to (before s j) m) (stands q s.rows s.pool)
  pub within : Within (held (own s j)) (held m)

module _ (s : State) (k : Sound s) (full : length s.rows ≡ frags_most) (j : ℕ) (h : j < length s.queues) where
  module _ {q : Counts} (e : q ≡ among_none s.queues j) where
    abbrev lent : one.State
    lent = stands q s.rows s.pool

    seen : one.view lent ≡ up_to (before s j) (own s j)
    seen = ap (λ (c : Counts). one.view (stands c s.rows s.pool)) e ∙ among_none-view s k full j h

    -- up to its own, and with those behind it
    rows_to_lem : count q ≡ rows_before s j + count (mine s j)
    rows_to_lem = let c = ap count e in omega (arith, c)

    bytes_to_lem : q.n_bytes ≡ bytes_before s j + (mine s j).n_bytes
    bytes_to_lem = let c = ap (λ (x : Counts). x.n_bytes) e in omega (arith, c)

    pub whole_fits : {b bb r rb : ℕ} → Others s.queues j b bb r rb → (count q + r ≤ frags_most) × (q.n_bytes + rb ≤ length s.pool)
    whole_fits o = (
      omega (arith, rows_to_lem, o.rows_behind_is, rows_split s k full j h, k.few),
      omega (arith, bytes_to_lem, o.bytes-behind, bytes-split s k full j h, sums-total s.queues s.rows k.sums, k.within),
    )

    -- the two skips of ordered sets
    module _ {left : Counts} {rows : List Row} {pool : List ℕ} where
      pub ordered_shrunk : (ssn : ℕ) → stands left rows pool ≡ one.lay (skip_ordered (one.view lent) ssn) lent → Shrunk s j (skip_ordered (own s j) ssn) q left rows pool
      ordered_shrunk ssn p =
          record {
            is = p ∙ ap (λ (m : Queue). one.lay (skip_ordered m ssn) lent) seen ∙ ap (λ (m : Queue). one.lay m lent) (skip_ordered-behind (before s j) (own s j) ssn);
            within = skip_ordered_within (own s j) ssn;
          }

      pub bounded_shrunk : (ssn tsn : ℕ) → stands left rows pool ≡ one.lay (skip_bounded (one.view lent) ssn tsn) lent → Shrunk s j (skip_bounded (own s j) ssn tsn) q left rows pool
      bounded_shrunk ssn tsn p =
          record {
            is = p ∙ ap (λ (m : Queue). one.lay (skip_bounded m ssn tsn) lent) seen ∙ ap (λ (m : Queue). one.lay m lent) (skip_bounded-behind (before s j) (own s j) ssn tsn);
            within = skip_bounded_within (own s j) ssn tsn;
          }

    module _ {m : Queue} {left : Counts} {rows : List Row} {pool : List ℕ} (l : Shrunk s j m q left rows pool) where
      left-counts : left ≡ among_counts (counts m) (rows_before s j) (bytes_before s j) 0 0
      unfolding one.lay size
      left-counts =
          ap (λ (t : one.State). t.queue) l.is ∙ ap counts (sym (none_behind (before s j) m)) ∙ counts-amongst (before s j) _ m
          ∙ rw (before-length s k full j h, before-size s k full j h)

      rows_left : count left ≡ rows_before s j + length (held m)
      unfolding counts
      rows_left =
          let c = ap count left-counts in
          let n : length (held m) ≡ length m.finished + (length m.unordered + length m.ordered) = simp length-append (omega arith) in
          omega (arith, c, n)

      bytes_left : left.n_bytes ≡ bytes_before s j + size (held m)
      unfolding counts
      bytes_left = let c = ap (λ (x : Counts). x.n_bytes) left-counts in omega (arith, c)

      few : length (held m) ≤ count (mine s j)
      few = omega (arith, l.within.few, own-length s k full j h)

      small : size (held m) ≤ (mine s j).n_bytes
      small = omega (arith, l.within.small, own-bytes s k full j h)

      pub no_more : (count left ≤ count q) × (left.n_bytes ≤ q.n_bytes)
      no_more = (omega (arith, rows_to_lem, rows_left, few), omega (arith, bytes_to_lem, bytes_left, small))

      -- those behind moved down
      module _ {b bb r rb : ℕ} (o : Others s.queues j b bb r rb) {down : List Row} {bytes : List ℕ}
          (f : down ≡ over rows (gone (count left) (count q - count left) (take (count q + r) rows)))
          (g : bytes ≡ over pool (gone left.n_bytes (q.n_bytes - left.n_bytes) (take (q.n_bytes + rb) pool))) where
        laid-rows : rows ≡ lay_rows (before s j ++ held m) s.rows
        unfolding one.lay
        laid-rows = ap (λ (t : one.State). t.rows) l.is ∙ ap (λ (fs : List Frag). lay_rows fs s.rows) (held_up_to (before s j) m)

        laid-bytes : pool ≡ lay_bytes (before s j ++ held m) s.pool
        unfolding one.lay
        laid-bytes = ap (λ (t : one.State). t.pool) l.is ∙ ap (λ (fs : List Frag). lay_bytes fs s.pool) (held_up_to (before s j) m)

        pub closed : Fronted s j m left down bytes
        closed =
            record {
              counts_are = left-counts;
              rows_are = f ∙ rw (rows_to_lem, o.rows_behind_is, laid-rows) (rows_down s k full j h m few small rows_left);
              bytes_are = g ∙ rw (bytes_to_lem, o.bytes-behind, laid-bytes) (bytes_down s k full j h m few small bytes_left);
            }

  -- the skip of loose fragments
  pub unordered-left : {q left : Counts} {rows : List Row} {pool : List ℕ} → q ≡ among_all s.queues j → (tsn : ℕ)
      → stands left rows pool ≡ one.lay (skip_unordered (one.view (stands q s.rows s.pool)) tsn) (stands q s.rows s.pool) → Left s j (skip_unordered (own s j) tsn) left rows pool
  unordered-left {q} e tsn p =
      let t = among s j (rows_behind s j) (bytes_behind s j) in
      record {
        is =
            p ∙ ap (λ (c : Counts). one.lay (skip_unordered (one.view (stands c s.rows s.pool)) tsn) (stands c s.rows s.pool)) e
            ∙ ap (λ (m : Queue). one.lay (skip_unordered m tsn) t) (among-all-view s k full j h)
            ∙ ap (λ (m : Queue). one.lay m t) (skip_unordered-amid (before s j) (behind s j) (own s j) tsn);
      }
