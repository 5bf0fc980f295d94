-- Loose unordered fragments: how far a message reaches, a fragment stored among them, and one scan.
-- Assumes nothing.
use mathlib.Core.Path.{◌≡◌, refl, sym, ap, ◌∙◌}
use mathlib.Core.Bool.{Bool, true, false, cond}
use mathlib.Core.List.{List, [], ◌∷◌, ◌++◌, map}
use Prim.Native.Nat.{ℕ, ◌+◌, ◌-◌, ◌*◌, ◌<◌, ◌≤◌}
use native.Mathlib.Omega.{arith}
use borrow.Author.Tests.{lt-ltb, le-ltb, ltb-true, ltb-false}
use lib.Dec.{ltb}
use lib.ListN.{length, take, drop, length-append, length-take, length-drop, length-map}
use Rattle.data_fields.specs.declared.ChunkPayloadData.{ChunkPayloadData}
use Rattle.serial_model.specs.Serial.{next}
use Rattle.wire_model.specs.Refusal.{none, refuse, says}
use Rattle.moves_model.specs.Lists.{put, slice, gone, turned}
use Rattle.table.specs.Rows.{some, up_to_last}
use Rattle.table.specs.declared.Row.{Row}
use Rattle.table.proofs.Scans.{last_within}
use Rattle.moves_model.proofs.Turned.{turned-long}
use Rattle.fragments.specs.Frag.{Frag, bare, of_row, begins, ends, has_tsn, tsn_before}
use Rattle.fragments.specs.Words.{size, any, placed}
use Rattle.loose_fragments.specs.Loose.{run_down, run_up, reach, scanned, previous}
use Rattle.loose_fragments.specs.declared.Span.{Span}
use Rattle.fragments.specs.Pool.{cut, lay_rows, lay_bytes}
use Rattle.loose_fragments.proofs.Reach.{total_most, both_runs}
use Rattle.fragments.proofs.Pool.{B, total-take, total_within, Fit, fit_cut, fit_put, cut-length, size-put, size-turned}
use Rattle.fragments.proofs.Seen.{any-cut, placed-cut}
use Rattle.loose_fragments.proofs.Seen.{run-cut, scan-cut}
use Rattle.loose_fragments.proofs.Scanned.{scan_within}
use Rattle.reassembly_state.specs.Limits.{frags_most, bytes_most}
use Rattle.reassembly_state.specs.Model.{Given, Queue, queue, held, gives, move_run, keep_loose, push_unordered}
use Rattle.reassembly_state.specs.State.{State, count, unsound, fragments, view, counts, lay, after, laid, fragment_of}
use Rattle.reassembly_state.specs.Rows.{loose_rows, neighbours, stored_loose, settled}
use Rattle.reassembly_state.proofs.Parts.{put-length, put_middle, turned_middle}
use Rattle.reassembly_state.proofs.Laid.{sound_lay, view-lay, lay-lay, counts_of_lem}
use Rattle.reassembly_state.proofs.Laws.{Sound, held-view, fragments-length, finished-length, unordered-length, ordered-length, unordered-cut, size-held, segment_fits, lay-own}
use Rattle.reassembly_state.proofs.Chunk.{chunk-begins, chunk-ends, chunk-tsn, chunk_bytes}
use Rattle.reassembly_state.specs.declared.Counts.{Counts}

-- ── how far a message reaches ──

module _ (q : Counts) (rows : List Row) (few : count q ≤ frags_most) where
  both : (t : ℕ) → run_down t (map bare (loose_rows q rows)) + run_up t (map bare (loose_rows q rows)) ≤ B (loose_rows q rows)
  both t =
      let long : length (loose_rows q rows) ≤ q.unordered = simp length-take (omega arith) in
      both_runs t (loose_rows q rows) (omega arith)

  -- both runs of a chunk fit together
  pub runs_fit : (t : ℕ) → run_down t (map bare (loose_rows q rows)) + run_up t (map bare (loose_rows q rows)) ≤ frags_most * 16777216
  runs_fit t =
      let long : length (loose_rows q rows) ≤ q.unordered = simp length-take (omega arith) in
      omega (arith, both t, total_most (loose_rows q rows))

  neighbours_most : (p : ChunkPayloadData) → neighbours q rows p ≤ B (loose_rows q rows)
  unfolding neighbours
  neighbours_most p = go p.beginning_fragment p.ending_fragment
    where
      go : (b e : Bool) → cond b 0 (run_down p.tsn (map bare (loose_rows q rows))) + cond e 0 (run_up p.tsn (map bare (loose_rows q rows))) ≤ B (loose_rows q rows)
      go true true = omega arith
      go true false = omega (arith, both p.tsn)
      go false true = omega (arith, both p.tsn)
      go false false = both p.tsn

  -- where all that is held is not above the maximum with so many bytes more, a message is not
  pub not_large : (p : ChunkPayloadData) (more : ℕ) → B (take (count q) rows) ≡ q.n_bytes → ltb q.max_message_size (q.n_bytes + more) ≡ false → false ≡ ltb q.max_message_size (neighbours q rows p + more)
  not_large p more e h =
      let within = total_within q.finished q.unordered rows in
      let most = total-take (q.finished + q.unordered) (count q) rows (omega arith) in
      sym (le-ltb q.max_message_size (neighbours q rows p + more) (omega (arith, neighbours_most p, ltb-false q.max_message_size (q.n_bytes + more) h)))

-- ── one scan of a queue ──

module _ (m : Queue) where
  -- the run that it finds
  abbrev run_of : Span
  run_of = scanned m.unordered

  -- the queue with that run finished
  abbrev moved : Queue
  moved =
      queue m.si m.next m.max (m.finished ++ slice run_of.from run_of.to m.unordered) (gone run_of.from (run_of.to - run_of.from) m.unordered)
      m.ordered

  settled-some : run_of.from < run_of.to → settled m ≡ gives (says none true) moved
  unfolding move_run
  settled-some h = rw (lt-ltb run_of.from run_of.to h)

  settled_none : run_of.to ≤ run_of.from → settled m ≡ gives (says none false) m
  unfolding move_run
  settled_none h = rw (le-ltb run_of.from run_of.to h)

  within : (run_of.from ≤ run_of.to) × (run_of.to ≤ length m.unordered)
  within = scan_within m.unordered

  -- the run goes down to the finished ones
  abbrev turned-held : List Frag
  turned-held = turned (length m.finished) (length m.finished + run_of.from) (length m.finished + run_of.to) (held m)

  moved-held : held moved ≡ turned-held
  moved-held = turned_middle m.finished m.unordered m.ordered run_of.from run_of.to within.0 within.1

  moved-long : length (held moved) ≡ length (held m)
  moved-long =
      let w = within in
      rw moved-held (turned-long _ _ _ (omega arith) (omega arith) (held m) (rw (length-append, length-append) (omega arith)))

  moved-size : size (held moved) ≡ size (held m)
  moved-size = let w = within in rw moved-held (size-turned (held m) _ _ _ (omega arith) (omega arith))

  -- as much is held as before
  settled_same : (length (held m) ≤ length (held (settled m).queue)) × (size (held m) ≤ size (held (settled m).queue))
  settled_same = go (ltb run_of.from run_of.to) refl
    where
      go : (b : Bool) → ltb run_of.from run_of.to ≡ b → (length (held m) ≤ length (held (settled m).queue)) × (size (held m) ≤ size (held (settled m).queue))
      go true e = rw (settled-some (ltb-true run_of.from run_of.to e)) ((omega (arith, moved-long), omega (arith, moved-size)))
      go false e = rw (settled_none (ltb-false run_of.from run_of.to e)) ((omega arith, omega arith))

  laid-settled : (s : State) → laid (lay m s) (settled m) ≡ laid s (settled m)
  laid-settled s = ap (after (settled m).told) (lay-lay m (settled m).queue s settled_same.0 settled_same.1)

-- ── the loose fragments of a sound queue, by their rows ──

module _ (s : State) (k : Sound s) (full : length s.rows ≡ frags_most) where
  abbrev q : Counts
  q = s.queue

  -- the bytes of the loose rows and those behind them
  abbrev behind : List ℕ
  behind = drop (B (take q.finished s.rows)) s.pool

  pub reach-is : (p : ChunkPayloadData) (bytes : List ℕ) → reach (fragment_of p bytes) (view s).unordered ≡ neighbours s.queue s.rows p + length bytes
  unfolding reach neighbours
  reach-is p bytes =
      let rs = loose_rows q s.rows in
      let fits : B rs ≤ length behind = segment_fits s k q.finished q.unordered (omega (arith, k.few)) in
      let long : length (cut rs behind) ≡ length (map bare rs) = cut-length rs behind ∙ sym (length-map rs bare) in
      rw (
        chunk-begins p bytes,
        chunk-ends p bytes,
        chunk-tsn p bytes,
        chunk_bytes p bytes,
        unordered-cut s k.few full,
        long,
        run-cut begins (λ r bs. refl) previous (length (map bare rs)) (previous p.tsn) rs behind fits,
        run-cut ends (λ r bs. refl) (next 32) (length (map bare rs)) (next 32 p.tsn) rs behind fits,
      )
      (omega arith)

  pub has_tsn-is : (t : ℕ) → any (has_tsn t) (view s).unordered ≡ some (of_row (has_tsn t)) (loose_rows q s.rows)
  has_tsn-is t = rw (unordered-cut s k.few full) (any-cut (has_tsn t) (of_row (has_tsn t)) (λ r bs. refl) (loose_rows q s.rows) behind)

  -- ── a fragment stored ──

  module _ (f : Frag) where
    -- its place among the loose rows
    abbrev pub place : ℕ
    place = up_to_last (of_row (tsn_before f.tsn)) (loose_rows q s.rows)

    pub place_within : place ≤ q.unordered
    place_within =
        let long : length (loose_rows q s.rows) ≤ q.unordered = simp length-take (omega arith) in
        omega (arith, last_within (of_row (tsn_before f.tsn)) (loose_rows q s.rows))

    placed-is : placed (tsn_before f.tsn) f (view s).unordered ≡ put place (f ∷ []) (view s).unordered
    placed-is =
        rw (unordered-cut s k.few full)
        (placed-cut (tsn_before f.tsn) (of_row (tsn_before f.tsn)) (λ r bs. refl) f (loose_rows q s.rows) behind)

    pub stored-held : held (stored_loose (view s) f) ≡ put (q.finished + place) (f ∷ []) (fragments s)
    stored-held =
        rw placed-is
        (put_middle (view s).finished (view s).unordered (view s).ordered place (f ∷ []) (rw (unordered-length s k.few full) place_within)
        ∙ rw (finished-length s k.few full, held-view s))

    stored-size : size (held (stored_loose (view s) f)) ≡ q.n_bytes + length f.bytes
    unfolding size
    stored-size = rw (stored-held, size-put (fragments s) (q.finished + place) (f ∷ []), size-held s k) (omega arith)

    stored-long : length (held (stored_loose (view s) f)) ≡ count q + 1
    stored-long = rw (stored-held, put-length (q.finished + place) (f ∷ []) (fragments s), fragments-length s k.few full) (omega arith)

    stored-counts : counts (stored_loose (view s) f)
        ≡ record {
          si = q.si;
          next_ssn = q.next_ssn;
          max_message_size = q.max_message_size;
          finished = q.finished;
          unordered = q.unordered + 1;
          ordered = q.ordered;
          n_bytes = q.n_bytes + length f.bytes;
        }
    stored-counts =
        counts_of_lem s (view s).finished (placed (tsn_before f.tsn) f (view s).unordered) (view s).ordered
        (finished-length s k.few full)
        (rw (placed-is, put-length place (f ∷ []) (view s).unordered, unordered-length s k.few full) (omega arith))
        (ordered-length s k.few full)
        stored-size

    pub stored-lay : {at : ℕ} {x : Frag} → at ≡ place → x ≡ f → {rows : List Row} {pool : List ℕ}
        → rows ≡ lay_rows (put (q.finished + at) (x ∷ []) (fragments s)) s.rows
        → pool ≡ lay_bytes (put (q.finished + at) (x ∷ []) (fragments s)) s.pool
        → ◌≡◌ {A = State} (record {
          queue = record {
            si = q.si;
            next_ssn = q.next_ssn;
            max_message_size = q.max_message_size;
            finished = q.finished;
            unordered = q.unordered + 1;
            ordered = q.ordered;
            n_bytes = q.n_bytes + length f.bytes;
          };
          rows = rows;
          pool = pool;
        })
        (lay (stored_loose (view s) f) s)
    unfolding lay
    stored-lay a x e g = rw (stored-counts, stored-held, e, g, a, x)

    -- what is left is sound
    module _ (few : count q < frags_most) (small : q.n_bytes + length f.bytes ≤ bytes_most) where
      fit : Fit (held (stored_loose (view s) f))
      fit = rw stored-held (fit_put (q.finished + place) (f ∷ []) (fragments s) ((omega arith, tt)) (fit_cut (take (count q) s.rows) s.pool))

      pub stored_sound : unsound (lay (stored_loose (view s) f) s) ≡ false
      stored_sound = sound_lay (stored_loose (view s) f) s fit (omega (arith, stored-long)) (omega (arith, stored-size, k.long)) k.long

      -- and one scan of it is one call of the model
      pub stored-settled : laid (lay (stored_loose (view s) f) s) (settled (view (lay (stored_loose (view s) f) s))) ≡ laid s (keep_loose (view s) f)
      unfolding keep_loose move_run
      stored-settled = rw (view-lay (stored_loose (view s) f) s fit) (laid-settled (stored_loose (view s) f) s)

  -- ── one scan ──

  module _ {w : Span} (found : w ≡ scanned (map bare (loose_rows q s.rows))) where
    found_is : w ≡ scanned (view s).unordered
    found_is = found ∙ sym (ap scanned (unordered-cut s k.few full) ∙ scan-cut 0 0 0 (loose_rows q s.rows) behind)

    pub found_within : (w.from ≤ w.to) × (w.to ≤ q.unordered)
    found_within = rw found_is (rw (unordered-length s k.few full) at (scan_within (view s).unordered))

    pub found_none : w.from ≡ w.to → after (says none false) s ≡ laid s (settled (view s))
    found_none e = rw (settled_none (view s) (rw (← found_is) (omega arith)), lay-own s k full)

    moved-counts : counts (moved (view s))
        ≡ record {
          si = q.si;
          next_ssn = q.next_ssn;
          max_message_size = q.max_message_size;
          finished = q.finished + (w.to - w.from);
          unordered = q.unordered - (w.to - w.from);
          ordered = q.ordered;
          n_bytes = q.n_bytes;
        }
    unfolding slice gone
    moved-counts =
        let h = found_within in
        let u = unordered-length s k.few full in
        let f = finished-length s k.few full in
        counts_of_lem s _ _ (view s).ordered
        (rw (← found_is) (simp (length-append, length-drop, length-take) (omega arith)))
        (rw (← found_is) (simp (length-append, length-drop, length-take) (omega arith)))
        (ordered-length s k.few full)
        (moved-size (view s) ∙ ap size (held-view s) ∙ size-held s k)

    pub found_some : (w.from ≡ w.to → ⊥) → {rows : List Row} {pool : List ℕ}
        → rows ≡ lay_rows (turned q.finished (q.finished + w.from) (q.finished + w.to) (fragments s)) s.rows
        → pool ≡ lay_bytes (turned q.finished (q.finished + w.from) (q.finished + w.to) (fragments s)) s.pool
        → after (says none true) (record {
          queue = record {
            si = q.si;
            next_ssn = q.next_ssn;
            max_message_size = q.max_message_size;
            finished = q.finished + (w.to - w.from);
            unordered = q.unordered - (w.to - w.from);
            ordered = q.ordered;
            n_bytes = q.n_bytes;
          };
          rows = rows;
          pool = pool;
        })
        ≡ laid s (settled (view s))
    unfolding lay
    found_some n e g =
        let h = found_within in
        let less : (scanned (view s).unordered).from < (scanned (view s).unordered).to = rw (← found_is) (omega arith) in
        rw (settled-some (view s) less, moved-counts, moved-held (view s), finished-length s k.few full, held-view s, ← found_is, e, g)

-- ── a push, by what the rows say ──

module _ (s : State) (k : Sound s) (full : length s.rows ≡ frags_most) (p : ChunkPayloadData) (bytes : List ℕ) (room : Bool) where
  -- its tests
  abbrev pub large : Bool
  large = ltb s.queue.max_message_size (neighbours s.queue s.rows p + length bytes)

  abbrev pub again : Bool
  again = some (of_row (has_tsn p.tsn)) (loose_rows s.queue s.rows)

  -- what the model makes of it
  abbrev pub push-of : Given Bool
  push-of = push_unordered room (view s) (fragment_of p bytes)

  max-is : (view s).max ≡ s.queue.max_message_size
  unfolding view
  max-is = refl

  large_is : ltb (view s).max (reach (fragment_of p bytes) (view s).unordered) ≡ large
  large_is = rw (max-is, reach-is s k full p bytes)

  again-is : any (has_tsn (fragment_of p bytes).tsn) (view s).unordered ≡ again
  again-is = has_tsn-is s k full (fragment_of p bytes).tsn ∙ ap (λ (t : ℕ). some (of_row (has_tsn t)) (loose_rows s.queue s.rows)) (chunk-tsn p bytes)

  pub push-large : large ≡ true → after (says (refuse 6) false) s ≡ laid s push-of
  unfolding push_unordered
  push-large e = rw (large_is ∙ e, lay-own s k full)

  module _ (e : large ≡ false) where
    pub push-again : again ≡ true → after (says none false) s ≡ laid s push-of
    unfolding push_unordered
    push-again h = rw (large_is ∙ e, again-is ∙ h, lay-own s k full)

    pub push_crowded : again ≡ false → room ≡ false → after (says (refuse 8) false) s ≡ laid s push-of
    unfolding push_unordered
    push_crowded h r = rw (large_is ∙ e, again-is ∙ h, r, lay-own s k full)

    pub push_stores : again ≡ false → room ≡ true → laid s (keep_loose (view s) (fragment_of p bytes)) ≡ laid s push-of
    unfolding push_unordered
    push_stores h r = rw (large_is ∙ e, again-is ∙ h, r)
