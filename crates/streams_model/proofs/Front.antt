-- What the call of a queue that has those before it in its lists leaves, once those behind it stand where they have to, and what that is of the streams.
-- Assumes nothing.
use mathlib.Core.Path.{◌≡◌, refl, sym, ap, subst, ◌∙◌}
use mathlib.Core.Bool.{Bool, true, false, cond}
use mathlib.Core.List.{List, [], ◌++◌}
use Prim.Native.Nat.{ℕ, ◌+◌, ◌≤◌, ◌<◌}
use native.Mathlib.Omega.{arith}
use lib.ListN.{length, set}
use lib.Seq.{set-get_or}
use Rattle.wire_model.specs.Refusal.{none, Told, says}
use Rattle.table.specs.declared.Row.{Row}
use Rattle.fragments.specs.Frag.{Frag}
use Rattle.fragments.specs.Words.{size}
use Rattle.fragments.specs.Pool.{lay_rows, lay_bytes}
use Rattle.reassembly_state.specs.Limits.{frags_most}
use Rattle.reassembly_state.specs.Model.{Queue, held, Given, gives, keep_ordered, push_ordered}
use Rattle.reassembly_state.specs.State.{count, counts, fragment_of}
use Rattle.reassembly_state.specs.State as one
use Rattle.reassembly_state.specs.Rows.{Declines, Keeps}
use Rattle.reassembly_state.specs.declared.Counts.{Counts}
use Rattle.data_fields.specs.declared.ChunkPayloadData.{ChunkPayloadData}
use Rattle.streams_model.specs.State.{State, view, lay, no_queue, own, with_own, after, laid}
use Rattle.streams_model.specs.Among.{Others, among_counts, alone_counts, among_none, up_to, rows_before, bytes_before, before, behind, among, Ready}
use Rattle.streams_model.proofs.Laws.{Sound, lay-own}
use Rattle.streams_model.proofs.Among.{none_behind, held_up_to, counts-amongst, alone_among, before-length, before-size, put_back, among_none_sound, among_none-view}
use Rattle.streams_model.proofs.Beside as beside
use Rattle.streams_model.proofs.Exact.{kept-one}
use Rattle.streams_model.proofs.Left.{stands}

-- the streams with another queue m of stream j, whose counts have the others' before it in them
pub record Fronted (s : State) (j : ℕ) (m : Queue) (left : Counts) (rows : List Row) (pool : List ℕ) : Type 0 where
  pub counts_are : left ≡ among_counts (counts m) (rows_before s j) (bytes_before s j) 0 0
  pub rows_are : rows ≡ lay_rows (before s j ++ (held m ++ behind s j)) s.rows
  pub bytes_are : pool ≡ lay_bytes (before s j ++ (held m ++ behind s j)) s.pool

module _ (s : State) (k : Sound s) (full : length s.rows ≡ frags_most) (j : ℕ) (h : j < length s.queues) where
  module _ {m : Queue} {left : Counts} {rows : List Row} {pool : List ℕ} (l : Fronted s j m left rows pool) {b bb r rb : ℕ} (o : Others s.queues j b bb r rb) where
    pub front_fits : (b ≤ left.finished) × ((0 ≤ left.ordered) × (bb + 0 ≤ left.n_bytes))
    front_fits = rw l.counts_are (omega (arith, o.rows_before_is), (omega arith, omega (arith, o.bytes-before)))

    pub front-is : {qs : List Counts} → qs ≡ set s.queues j (alone_counts left b bb 0 0) → record { queues = qs; rows = rows; pool = pool } ≡ with_own s j m
    front-is e =
        let own-again : alone_counts left b bb 0 0 ≡ counts m =
        ap (λ (q : Counts). alone_counts q b bb 0 0) l.counts_are ∙ rw (o.rows_before_is, o.bytes-before) (alone_among (counts m) (rows_before s j) (bytes_before s j) 0 0) in
        rw e (put_back s k full j h m own-again l.rows_are l.bytes_are)

  -- the counts of a queue with those before it
  front-counts : (m : Queue) → counts (up_to (before s j) m) ≡ among_counts (counts m) (rows_before s j) (bytes_before s j) 0 0
  unfolding size
  front-counts m =
      ap counts (sym (none_behind (before s j) m)) ∙ counts-amongst (before s j) [] m
      ∙ rw (before-length s k full j h, before-size s k full j h)

  -- nothing changed
  pub own-again : with_own s j (own s j) ≡ s
  own-again = ap (λ (ms : List Queue). lay ms s) (set-get_or (view s) j no_queue) ∙ lay-own s k full

  -- ── kept, with room made ──

  module _ (f : Frag) {t : one.State} (r : Ready s j f t) {a : Told Bool} {left : Counts} {rows : List Row} {pool : List ℕ}
      (p : one.after a (stands left rows pool) ≡ one.laid t (keep_ordered (one.view t) f)) where
    abbrev given : Given Bool
    given = keep_ordered (own s j) f

    fronted : one.after a (stands left rows pool) ≡ one.laid t (beside.behind (before s j) given)
    fronted = p ∙ ap (λ (m : Queue). one.laid t (keep_ordered m f)) r.view ∙ ap (one.laid t) (beside.keep_behind (before s j) (own s j) f)

    pub kept-told : a ≡ given.told
    kept-told = ap (λ (x : one.After Bool). x.told) fronted

    state : stands left rows pool ≡ one.lay (up_to (before s j) given.queue) t
    state = ap (λ (x : one.After Bool). x.state) fronted

    pub kept_fronted : Fronted s j given.queue left rows pool
    unfolding one.lay
    kept_fronted =
        let m = given.queue in
        record {
          counts_are = ap (λ (x : one.State). x.queue) state ∙ front-counts m;
          rows_are = ap (λ (x : one.State). x.rows) state ∙ ap (λ (l : List Frag). lay_rows l t.rows) (held_up_to (before s j) m) ∙ r.rows m (kept-one (own s j) f);
          bytes_are = ap (λ (x : one.State). x.pool) state ∙ ap (λ (l : List Frag). lay_bytes l t.pool) (held_up_to (before s j) m) ∙ r.bytes m (kept-one (own s j) f);
        }

  -- ── asked first ──

  module _ {q : Counts} (e : q ≡ among_none s.queues j) where
    pub front_sound : one.unsound (stands q s.rows s.pool) ≡ false
    front_sound = ap (λ (c : Counts). one.unsound (stands c s.rows s.pool)) e ∙ among_none_sound s k full j h

    pub asks_front : (Finds : one.State → Type 0) → (one.unsound (stands q s.rows s.pool) ≡ false → Finds (stands q s.rows s.pool)) → Finds (among s j 0 0)
    asks_front Finds a = subst (λ (c : Counts). Finds (stands c s.rows s.pool)) e (a front_sound)

  -- what the questions of the queue with those before it find, they find of its own
  module _ (room : Bool) (p : ChunkPayloadData) (bytes : List ℕ) where
    found : (t : Told Bool) (keep : Bool)
        → push_ordered room (one.view (among s j 0 0)) (fragment_of p bytes) ≡ cond keep (keep_ordered (one.view (among s j 0 0)) (fragment_of p bytes)) (gives t (one.view (among s j 0 0)))
        → push_ordered room (own s j) (fragment_of p bytes) ≡ cond keep (keep_ordered (own s j) (fragment_of p bytes)) (gives t (own s j))
    found t keep e = beside.ordered_alone (before s j) (own s j) room keep (fragment_of p bytes) t (rw (among_none-view s k full j h) at e)

    -- what is not kept leaves all as it was
    pub away : {t : Told Bool} → Declines (among s j 0 0) room p (length bytes) t → after t s ≡ laid s j (push_ordered room (own s j) (fragment_of p bytes))
    away {t} a = sym (ap (laid s j) (found t false (a bytes refl)) ∙ ap (after t) own-again)

    pub kept-is : {at run : ℕ} → Keeps (among s j 0 0) room p (length bytes) at run → keep_ordered (own s j) (fragment_of p bytes) ≡ push_ordered room (own s j) (fragment_of p bytes)
    kept-is a = sym (found (says none false) true (a.is bytes refl))
