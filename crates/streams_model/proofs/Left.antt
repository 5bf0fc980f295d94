-- What the call of a queue that has the others in its lists leaves, and what that is of the streams.
-- Assumes nothing.
use mathlib.Core.Path.{◌≡◌, ap, ◌∙◌}
use mathlib.Core.Bool.{Bool, false}
use mathlib.Core.List.{List}
use Prim.Native.Nat.{ℕ, ◌+◌, ◌≤◌, ◌<◌}
use native.Mathlib.Omega.{arith}
use lib.ListN.{length, get_or, set}
use Rattle.wire_model.specs.Refusal.{Told}
use Rattle.table.specs.declared.Row.{Row}
use Rattle.fragments.specs.Frag.{Frag}
use Rattle.reassembly_state.specs.Limits.{frags_most}
use Rattle.reassembly_state.specs.Model.{Queue, Given, push_unordered}
use Rattle.reassembly_state.specs.State as one
use Rattle.reassembly_state.specs.Rows.{fits_if}
use Rattle.reassembly_state.specs.declared.Counts.{Counts}
use Rattle.streams_model.specs.Shape.{no_counts}
use Rattle.streams_model.specs.State.{State, own, with_own}
use Rattle.streams_model.specs.Among.{Others, roomy_if, among_counts, among_all, among_none, alone_counts, amongst, rows_behind, bytes_behind, before, behind, among}
use Rattle.streams_model.proofs.Laws.{Sound}
use Rattle.streams_model.proofs.Among.{rows_split, bytes-split, among-all_sound, among-all-view, left-counts, among-left}
use Rattle.streams_model.proofs.Beside.{amid, unordered-amid}

abbrev pub stands : Counts → List Row → List ℕ → one.State
stands q rows pool = record { queue = q; rows = rows; pool = pool }

-- the counts that have the others' in them
pub all_of : {qs : List Counts} {j b bb r rb : ℕ} {q : Counts} → Others qs j b bb r rb → q ≡ among_counts (get_or qs j no_counts) b bb r rb → q ≡ among_all qs j
all_of o e = e ∙ rw (o.rows_before_is, o.bytes-before, o.rows_behind_is, o.bytes-behind)

pub none_of : {qs : List Counts} {j b bb r rb : ℕ} {q : Counts} → Others qs j b bb r rb → q ≡ among_counts (get_or qs j no_counts) b bb 0 0 → q ≡ among_none qs j
none_of o e = e ∙ rw (o.rows_before_is, o.bytes-before)

-- the state of stream j's queue m with all the others in its lists
pub record Left (s : State) (j : ℕ) (m : Queue) (left : Counts) (rows : List Row) (pool : List ℕ) : Type 0 where
  pub is : stands left rows pool ≡ one.lay (amongst (before s j) (behind s j) m) (among s j (rows_behind s j) (bytes_behind s j))

module _ (s : State) (k : Sound s) (full : length s.rows ≡ frags_most) (j : ℕ) (h : j < length s.queues) where
  module _ {m : Queue} {left : Counts} {rows : List Row} {pool : List ℕ} (l : Left s j m left rows pool) {b bb r rb : ℕ} (o : Others s.queues j b bb r rb) where
    -- it has the others' counts in its own
    pub left_fits : (b ≤ left.finished) × ((r ≤ left.ordered) × (bb + rb ≤ left.n_bytes))
    left_fits =
        rw (left-counts s k full j h m l.is)
        (omega (arith, o.rows_before_is), (omega (arith, o.rows_behind_is), omega (arith, o.bytes-before, o.bytes-behind)))

    pub left_is : {qs : List Counts} → qs ≡ set s.queues j (alone_counts left b bb r rb) → record { queues = qs; rows = rows; pool = pool } ≡ with_own s j m
    left_is e = rw e (among-left s k full j h m l.is (rw (o.rows_before_is, o.bytes-before, o.rows_behind_is, o.bytes-behind)))

  module _ {q : Counts} (e : q ≡ among_all s.queues j) where
    abbrev lent : one.State
    lent = stands q s.rows s.pool

    lent_is : lent ≡ among s j (rows_behind s j) (bytes_behind s j)
    lent_is = rw e

    pub lent_sound : one.unsound lent ≡ false
    lent_sound = ap one.unsound lent_is ∙ among-all_sound s k full j h

    -- room among all is room for it
    pub lent_fits : (room : Bool) (more : ℕ) → roomy_if room s more → fits_if room q more
    lent_fits room more r e' =
        let all = r e' in
        let rows = rows_split s k full j h in
        let bytes = bytes-split s k full j h in
        rw e (omega (arith, all.0, rows), omega (arith, all.1, bytes))

    lent_view : one.view lent ≡ amongst (before s j) (behind s j) (own s j)
    lent_view = ap one.view lent_is ∙ among-all-view s k full j h

    -- an unordered push
    module _ (room : Bool) (f : Frag) {a : Told Bool} {left : Counts} {rows : List Row} {pool : List ℕ}
        (p : one.after a (stands left rows pool) ≡ one.laid lent (push_unordered room (one.view lent) f)) where
      abbrev given : Given Bool
      given = push_unordered room (own s j) f

      beside : one.after a (stands left rows pool) ≡ one.laid (among s j (rows_behind s j) (bytes_behind s j)) (amid (before s j) (behind s j) given)
      beside =
          p ∙ ap (λ (m : Queue). one.laid lent (push_unordered room m f)) lent_view
          ∙ ap (one.laid lent) (unordered-amid (before s j) (behind s j) (own s j) room f)
          ∙ ap (λ (t : one.State). one.laid t (amid (before s j) (behind s j) given)) lent_is

      pub unordered-told : a ≡ given.told
      unordered-told = ap (λ (t : one.After Bool). t.told) beside

      pub unordered-left : Left s j given.queue left rows pool
      unordered-left = record { is = ap (λ (t : one.After Bool). t.state) beside }
