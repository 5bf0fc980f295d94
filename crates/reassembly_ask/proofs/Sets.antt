-- Storing an ordered fragment: its set among the rows, its place among all that is held, and what is complete after it.
-- Assumes nothing.
use mathlib.Core.Path.{◌≡◌, refl, sym, ap, ◌∙◌}
use mathlib.Core.Bool.{Bool, true, false, not, ◌||◌, ◌&&◌, cond}
use mathlib.Core.List.{List, [], ◌∷◌, ◌++◌, map}
use Prim.Native.Nat.{ℕ, suc, ◌+◌, ◌-◌, ◌≤◌, ◌<◌}
use native.Mathlib.Omega.{arith}
use borrow.Author.Tests.{lt-ltb, le-ltb, ltb-false}
use lib.Dec.{ltb}
use lib.ListN.{length, take, drop, get_or, length-drop, take-append-drop}
use lib.Seq.{length-take-le, take-take, take_at, drop_at, drop-drop}
use Rattle.wire_model.specs.Refusal.{none, refuse, Told, says}
use Rattle.serial_model.specs.Serial.{before}
use Rattle.data_fields.specs.declared.ChunkPayloadData.{ChunkPayloadData}
use Rattle.moves_model.specs.Lists.{put}
use Rattle.table.specs.Rows.{row, blank, some, ahead_of, up_to_last}
use Rattle.table.specs.declared.Row.{Row}
use Rattle.table.proofs.Scans.{ahead_within, last_within}
use Rattle.fragments.specs.Frag.{Frag, begins, ends, ssn_of, has_tsn, tsn_before, has_ssn, ssn_before, bare, of_row, frag_of}
use Rattle.fragments.specs.Words.{size, any, placed}
use Rattle.fragment_sets.specs.Sets.{other_ssn, set_of, rises, complete, joins, grown_set, stored}
use Rattle.fragments.specs.Pool.{cut, lay_rows, lay_bytes}
use Rattle.fragments.proofs.Pool.{B, cut-cons, cut-size, fit_cut, fit_put, laid-view, size-put, total-take, total_within}
use Rattle.fragments.proofs.Words.{put-behind, put_in_front}
use Rattle.fragment_sets.proofs.Sets.{set_none}
use Rattle.fragments.proofs.Seen.{any-cut}
use Rattle.fragment_sets.proofs.Seen.{ahead_of_set, rows_of_set, set-cut, stored-set, stored-fresh, grown-cut, complete-cut}
use Rattle.fragment_sets.proofs.Complete.{segment-rest}
use Rattle.reassembly_state.specs.Limits.{frags_most}
use Rattle.reassembly_state.specs.Model.{held, with_ordered, gives, keep_ordered, push_ordered}
use Rattle.reassembly_state.specs.State.{State, count, fragments, view, counts, lay, after, laid, fragment_of}
use Rattle.reassembly_state.specs.Rows.{first_ordered, ordered_rows, set_at, set_run, Declines, Keeps}
use Rattle.reassembly_state.specs.declared.Counts.{Counts}
use Rattle.reassembly_state.proofs.Parts.{drop-take, put-length, put_last}
use Rattle.reassembly_state.proofs.Chunk.{chunk_row, chunk-begins, chunk-ends, chunk-ssn, chunk-tsn, chunk_bytes, chunk_flags, chunk-frag}
use Rattle.reassembly_state.proofs.Laws.{Sound, segment-cut, segment_fits, ordered-cut, held-view, finished-length, unordered-length, ordered-length, fragments-length, size-held, lay-own}

-- ── the run of those that do, from the first on ──

module _ (p : Row → Bool) where
  abbrev run : List Row → ℕ
  run rs = ahead_of (λ (r : Row). not (p r)) (drop (ahead_of p rs) rs)

  -- one does exactly where the run is not empty
  some-run : (rs : List Row) → some p rs ≡ ltb 0 (run rs)
  unfolding some ahead_of
  some-run [] = refl
  some-run (r ∷ rs) = go (p r) refl (some-run rs)
    where
      go : (b : Bool) → p r ≡ b → some p rs ≡ ltb 0 (run rs)
          → b || some p rs ≡ ltb 0 (ahead_of (λ (r : Row). not (p r)) (drop (cond b 0 (suc (ahead_of p rs))) (r ∷ rs)))
      go true e h = rw e (sym (lt-ltb 0 (suc (ahead_of (λ (r : Row). not (p r)) rs)) (omega arith)))
      go false e h = h

-- ── its size ──

-- where all that is held is not above the maximum with so many bytes more, a part of it is not
pub not_large : (q : Counts) (rows : List Row) (at k more : ℕ) → at + k ≤ count q → B (take (count q) rows) ≡ q.n_bytes →
    ltb q.max_message_size (q.n_bytes + more) ≡ false → false ≡ ltb q.max_message_size (B (take k (drop at rows)) + more)
not_large q rows at k more f e h =
    let within = total_within at k rows in
    let most = total-take (at + k) (count q) rows f in
    sym (le-ltb q.max_message_size (B (take k (drop at rows)) + more) (omega (arith, ltb-false q.max_message_size (q.n_bytes + more) h)))

-- ── a list put into a segment ──

module _ {A : Type 0} (new xs : List A) where
  put-segment : (at n k : ℕ) → k ≤ n → at + n ≤ length xs → take (length new + n) (drop at (put (at + k) new xs)) ≡ put k new (take n (drop at xs))
  put-segment at n k h l =
      let front = length-take-le at xs (omega arith) in
      let within = length-take-le n (drop at xs) (rw length-drop (omega arith)) in
      let behind : put (at + k) new xs ≡ take at xs ++ put k new (drop at xs) =
      ap (λ (i : ℕ). put (i + k) new xs) (sym front) ∙ ap (put (length (take at xs) + k) new) (sym (take-append-drop at xs)) ∙ put-behind new (take at xs) (drop at xs) k in
      let inside : put k new (drop at xs) ≡ put k new (take n (drop at xs)) ++ drop n (drop at xs) =
      ap (put k new) (sym (take-append-drop n (drop at xs))) ∙ put_in_front new (take n (drop at xs)) (drop n (drop at xs)) k (rw within h) in
      rw (behind, drop_at (take at xs) (put k new (drop at xs)) at front, inside) (take_at (put k new (take n (drop at xs))) _ (length new + n) (put-length k new (take n (drop at xs)) ∙ rw within))

-- ── the set of an SSN ──

module _ (s : State) (few : count s.queue ≤ frags_most) (full : length s.rows ≡ frags_most) (ssn : ℕ) where
  abbrev ahead : ℕ
  ahead = ahead_of_set ssn (ordered_rows s)

  pub ordered-long : length (ordered_rows s) ≡ s.queue.ordered
  ordered-long = length-take-le s.queue.ordered (drop (first_ordered s) s.rows) (rw length-drop (omega arith))

  pub ahead_fits : ahead ≤ s.queue.ordered
  ahead_fits = omega (arith, ahead_within (of_row (has_ssn ssn)) (ordered_rows s), ordered-long)

  pub run_fits : ahead + set_run s ssn ≤ s.queue.ordered
  run_fits =
      let h = ahead_within (of_row (other_ssn ssn)) (drop ahead (ordered_rows s)) in
      omega (arith, rw length-drop at h, ordered-long, ahead_fits)

  -- the ordered rows from the set on
  from-set : drop ahead (ordered_rows s) ≡ take (s.queue.ordered - ahead) (drop (set_at s ssn) s.rows)
  from-set =
      let e : ahead + (s.queue.ordered - ahead) ≡ s.queue.ordered = omega (arith, ahead_fits) in
      ap (λ (n : ℕ). drop ahead (take n (drop (first_ordered s) s.rows))) (sym e)
      ∙ drop-take ahead (s.queue.ordered - ahead) (drop (first_ordered s) s.rows)
      ∙ ap (take (s.queue.ordered - ahead)) (drop-drop ahead (first_ordered s) s.rows)

  set-rows : rows_of_set ssn (ordered_rows s) ≡ take (set_run s ssn) (drop (set_at s ssn) s.rows)
  set-rows = ap (take (set_run s ssn)) from-set ∙ take-take (set_run s ssn) (s.queue.ordered - ahead) (drop (set_at s ssn) s.rows) (omega (arith, run_fits))

  set_view : set_of ssn (view s).ordered ≡ cut (take (set_run s ssn) (drop (set_at s ssn) s.rows)) (drop (B (take (set_at s ssn) s.rows)) s.pool)
  set_view =
      let place : B (take (first_ordered s) s.rows) + B (take ahead (ordered_rows s)) ≡ B (take (set_at s ssn) s.rows) =
      rw (take-take ahead s.queue.ordered (drop (first_ordered s) s.rows) ahead_fits) (omega (arith, total_within (first_ordered s) ahead s.rows)) in
      ap (set_of ssn) (ordered-cut s few full) ∙ set-cut ssn (ordered_rows s) _ ∙ rw (set-rows, drop-drop, place)

  set-part : set_of ssn (view s).ordered ≡ take (set_run s ssn) (drop (set_at s ssn) (fragments s))
  set-part = set_view ∙ sym (segment-cut s.rows s.pool (count s.queue) (set_at s ssn) (set_run s ssn) (omega (arith, run_fits)))

-- ── an ordered fragment put in ──

-- the counts with one more ordered fragment, of so many bytes
abbrev pub one_more : Counts → ℕ → Counts
one_more q n =
    record {
      si = q.si;
      next_ssn = q.next_ssn;
      max_message_size = q.max_message_size;
      finished = q.finished;
      unordered = q.unordered;
      ordered = q.ordered + 1;
      n_bytes = q.n_bytes + n;
    }

-- the state with f put in at index i of all that is held, an ordered one
abbrev with_frag : State → ℕ → Frag → State
with_frag s i f =
    let all = put i (f ∷ []) (fragments s) in
    record { queue = one_more s.queue (length f.bytes); rows = lay_rows all s.rows; pool = lay_bytes all s.pool }

module _ (s : State) (k : Sound s) (full : length s.rows ≡ frags_most) where
  held-put : (at : ℕ) (f : Frag) → held (with_ordered (view s) (put at (f ∷ []) (view s).ordered)) ≡ put (first_ordered s + at) (f ∷ []) (fragments s)
  held-put at f =
      let e : s.queue.finished + (s.queue.unordered + at) ≡ first_ordered s + at = omega arith in
      put_last (view s).finished (view s).unordered (view s).ordered at (f ∷ [])
      ∙ rw (finished-length s k.few full, unordered-length s k.few full, e) (ap (put (first_ordered s + at) (f ∷ [])) (held-view s))

  names : ((view s).si ≡ s.queue.si) × (((view s).next ≡ s.queue.next_ssn) × ((view s).max ≡ s.queue.max_message_size))
  unfolding view
  names = (refl, (refl, refl))

  size-more : (i : ℕ) (f : Frag) → size (put i (f ∷ []) (fragments s)) ≡ s.queue.n_bytes + length f.bytes
  unfolding size
  size-more i f = omega (arith, size-put (fragments s) i (f ∷ []), size-held s k)

  length_more : (at : ℕ) (f : Frag) → length (put at (f ∷ []) (view s).ordered) ≡ s.queue.ordered + 1
  length_more at f = omega (arith, put-length at (f ∷ []) (view s).ordered, ordered-length s k.few full)

  lay-put : (at : ℕ) (f : Frag) → lay (with_ordered (view s) (put at (f ∷ []) (view s).ordered)) s ≡ with_frag s (first_ordered s + at) f
  unfolding lay counts
  lay-put at f =
      let e = names in
      rw (held-put at f, finished-length s k.few full, unordered-length s k.few full, length_more at f, size-more (first_ordered s + at) f, e.0, e.1.0, e.1.1)

-- f, with the payload identifier of a set
abbrev named : ℕ → Frag → Frag
named ppi f = record { flags = f.flags; tsn = f.tsn; id = f.id; ppi = ppi; bytes = f.bytes }

module _ (s : State) (k : Sound s) (full : length s.rows ≡ frags_most) (f : Frag) where
  abbrev ssn : ℕ
  ssn = ssn_of f

  abbrev behind : List ℕ
  behind = drop (B (take (first_ordered s) s.rows)) s.pool

  abbrev cuts : (view s).ordered ≡ cut (ordered_rows s) behind
  cuts = ordered-cut s k.few full

  -- ── in a set of its own ──

  abbrev new_place : ℕ
  new_place = up_to_last (of_row (ssn_before ssn)) (ordered_rows s)

  complete_alone : any (has_ssn ssn) (view s).ordered ≡ false → complete (grown_set f (view s).ordered) ≡ (begins f && ends f)
  unfolding grown_set joins placed complete rises
  complete_alone e = rw (set_none ssn (view s).ordered e)

  keep_new : set_run s ssn ≡ 0 → laid s (keep_ordered (view s) f) ≡ after (says none (begins f && ends f)) (with_frag s (first_ordered s + new_place) f)
  unfolding keep_ordered
  keep_new e =
      let none_has : some (of_row (has_ssn ssn)) (ordered_rows s) ≡ false = some-run (of_row (has_ssn ssn)) (ordered_rows s) ∙ ap (ltb 0) e in
      let none_held : any (has_ssn ssn) (view s).ordered ≡ false = rw cuts (any-cut (has_ssn ssn) (of_row (has_ssn ssn)) (λ r bs. refl) (ordered_rows s) behind ∙ none_has) in
      let put_in : stored f (view s).ordered ≡ put new_place (f ∷ []) (view s).ordered = rw cuts (stored-fresh f (ordered_rows s) behind none_has) in
      rw (complete_alone none_held, put_in, lay-put s k full new_place f)

  -- ── in its set ──

  module _ (some-there : 0 < set_run s ssn) where
    abbrev at : ℕ
    at = set_at s ssn

    abbrev set-run : ℕ
    set-run = set_run s ssn

    abbrev joined-one : Frag
    joined-one = named (get_or s.rows (set_at s ssn) blank).ppi f

    abbrev set_place : ℕ
    set_place = up_to_last (of_row (tsn_before f.tsn)) (take (set_run s ssn) (drop (set_at s ssn) s.rows))

    fits : at + set-run ≤ count s.queue
    fits = omega (arith, run_fits s k.few full ssn)

    joins-first : joins (set_of ssn (view s).ordered) f ≡ joined-one
    unfolding joins
    joins-first =
        let first = segment-rest s.rows at set-run (omega (arith, fits)) 0 some-there in
        let e : at + 0 ≡ at = omega arith in
        rw (set_view s k.few full ssn, first, e, cut-cons)

    grown-put : grown_set f (view s).ordered ≡ put set_place (joined-one ∷ []) (set_of ssn (view s).ordered)
    grown-put =
        rw (← joins-first, ← (set-rows s k.few full ssn), cuts) (grown-cut f (ordered_rows s) behind)

    stored-put : stored f (view s).ordered ≡ put (ahead_of_set ssn (ordered_rows s) + set_place) (joined-one ∷ []) (view s).ordered
    stored-put =
        let some-has : some (of_row (has_ssn ssn)) (ordered_rows s) ≡ true = some-run (of_row (has_ssn ssn)) (ordered_rows s) ∙ lt-ltb 0 set-run some-there in
        rw (← joins-first, ← (set-rows s k.few full ssn), cuts) (stored-set f (ordered_rows s) behind some-has)

    -- all that is held, with it
    abbrev all : List Frag
    all = put (at + set_place) (joined-one ∷ []) (fragments s)

    all-long : length all ≡ 1 + count s.queue
    all-long = put-length (at + set_place) (joined-one ∷ []) (fragments s) ∙ ap (λ (n : ℕ). 1 + n) (fragments-length s k.few full)

    -- its set stands where it stood, and has one more
    grown-part : grown_set f (view s).ordered ≡ take (1 + set-run) (drop at all)
    grown-part =
        let within = last_within (of_row (tsn_before f.tsn)) (take set-run (drop at s.rows)) in
        let long = length-take-le set-run (drop at s.rows) (rw length-drop (omega (arith, fits))) in
        grown-put ∙ ap (put set_place (joined-one ∷ [])) (set-part s k.few full ssn)
        ∙ sym (put-segment (joined-one ∷ []) (fragments s) at set-run set_place (omega arith) (omega (arith, fits, fragments-length s k.few full)))

    module _ (short : length f.bytes < 16777216) where
      complete-grown : complete (grown_set f (view s).ordered) ≡ complete (map bare (take (1 + set-run) (drop at (lay_rows all s.rows))))
      complete-grown =
          let fit = fit_put (at + set_place) (joined-one ∷ []) (fragments s) (short, tt) (fit_cut (take (count s.queue) s.rows) s.pool) in
          let seen = laid-view all s.rows s.pool fit in
          let part = segment-cut (lay_rows all s.rows) (lay_bytes all s.pool) (length all) at (1 + set-run) (omega (arith, fits, all-long)) in
          ap complete (grown-part ∙ ap (λ (l : List Frag). take (1 + set-run) (drop at l)) (sym seen) ∙ part) ∙ complete-cut _ _

      keep_joined : laid s (keep_ordered (view s) f)
          ≡ after (says none (complete (map bare (take (1 + set_run s ssn) (drop (set_at s ssn) (with_frag s (set_at s ssn + set_place) joined-one).rows))))) (with_frag s (set_at s ssn + set_place) joined-one)
      unfolding keep_ordered
      keep_joined =
          let e : first_ordered s + (ahead_of_set ssn (ordered_rows s) + set_place) ≡ at + set_place = omega arith in
          rw (complete-grown, stored-put, lay-put s k full (ahead_of_set ssn (ordered_rows s) + set_place) joined-one, e)

-- ── a chunk stored ──

module _ (s : State) (k : Sound s) (full : length s.rows ≡ frags_most) (p : ChunkPayloadData) (bytes : List ℕ)
    (small : p.stream_sequence_number < 65536) (short : length bytes < 16777216) where
  pub new-stored : set_run s p.stream_sequence_number ≡ 0
      → {r : Row} → r ≡ chunk_row p (length bytes)
      → {place : ℕ} → place ≡ up_to_last (of_row (ssn_before p.stream_sequence_number)) (ordered_rows s)
      → {rows : List Row} → rows ≡ lay_rows (put (first_ordered s + place) (frag_of r bytes ∷ []) (fragments s)) s.rows
      → {pool : List ℕ} → pool ≡ lay_bytes (put (first_ordered s + place) (frag_of r bytes ∷ []) (fragments s)) s.pool
      → after (says none (p.beginning_fragment && p.ending_fragment)) (record { queue = one_more s.queue (length bytes); rows = rows; pool = pool })
      ≡ laid s (keep_ordered (view s) (fragment_of p bytes))
  unfolding fragment_of
  new-stored none-there r-is place_is rows_are pool-is =
      let ssn-is = chunk-ssn p bytes small in
      let kept = keep_new s k full (fragment_of p bytes) (rw ssn-is none-there) in
      rw (rows_are, pool-is, r-is, chunk-frag p bytes short, place_is) (sym (rw (chunk-begins p bytes, chunk-ends p bytes, ssn-is) at kept))

  pub join_stored : {at : ℕ} → at ≡ set_at s p.stream_sequence_number → {run : ℕ} → run ≡ set_run s p.stream_sequence_number → 0 < run
      → {r : Row} → r ≡ chunk_row p (length bytes)
      → {first : Row} → first ≡ get_or s.rows at blank
      → {place : ℕ} → place ≡ up_to_last (of_row (tsn_before r.tsn)) (take run (drop at s.rows))
      → {rows : List Row} → rows ≡ lay_rows (put (at + place) (frag_of (row r.head r.tsn r.id first.ppi) bytes ∷ []) (fragments s)) s.rows
      → {pool : List ℕ} → pool ≡ lay_bytes (put (at + place) (frag_of (row r.head r.tsn r.id first.ppi) bytes ∷ []) (fragments s)) s.pool
      → {done : Bool} → done ≡ complete (map bare (take (run + 1) (drop at rows)))
      → after (says none done) (record { queue = one_more s.queue (length bytes); rows = rows; pool = pool }) ≡ laid s (keep_ordered (view s) (fragment_of p bytes))
  unfolding fragment_of
  join_stored at-is run_is some-there r-is first-is place_is rows_are pool-is done-is =
      let ssn-is = chunk-ssn p bytes small in
      let n : set_run s p.stream_sequence_number + 1 ≡ 1 + set_run s p.stream_sequence_number = omega arith in
      let kept = keep_joined s k full (fragment_of p bytes) (rw (ssn-is, ← run_is) some-there) short in
      rw (done-is, rows_are, pool-is, place_is, first-is, r-is, at-is, run_is, n, chunk_flags p bytes short) (sym (rw ssn-is at kept))

-- ── what is asked before ──

-- the set where the passes found it
pub set_found : (s : State) → count s.queue ≤ frags_most → length s.rows ≡ frags_most → (ssn : ℕ)
    → {ahead : ℕ} → ahead ≡ ahead_of (of_row (has_ssn ssn)) (ordered_rows s)
    → {run : ℕ} → run ≡ ahead_of (of_row (other_ssn ssn)) (take (s.queue.ordered - ahead) (drop (first_ordered s + ahead) s.rows))
    → (first_ordered s + ahead ≡ set_at s ssn) × (run ≡ set_run s ssn)
set_found s few full ssn ahead-is run_is = (rw ahead-is, run_is ∙ rw (ahead-is, from-set s few full ssn))

module _ (s : State) (k : Sound s) (full : length s.rows ≡ frags_most) where
  module _ (ssn : ℕ) where
    set-size : size (set_of ssn (view s).ordered) ≡ B (take (set_run s ssn) (drop (set_at s ssn) s.rows))
    set-size =
        rw (set_view s k.few full ssn)
        (cut-size _ _ (segment_fits s k (set_at s ssn) (set_run s ssn) (omega (arith, run_fits s k.few full ssn))))

    set_has : (t : ℕ) → any (has_tsn t) (set_of ssn (view s).ordered) ≡ some (of_row (has_tsn t)) (take (set_run s ssn) (drop (set_at s ssn) s.rows))
    set_has t = rw (set_view s k.few full ssn) (any-cut (has_tsn t) (of_row (has_tsn t)) (λ r bs. refl) _ _)

  module _ (p : ChunkPayloadData) (small : p.stream_sequence_number < 65536) where
    push-is : (room : Bool) (bytes : List ℕ) {at : ℕ} → at ≡ set_at s p.stream_sequence_number → {run : ℕ} → run ≡ set_run s p.stream_sequence_number
        → push_ordered room (view s) (fragment_of p bytes)
        ≡ cond (ltb s.queue.max_message_size (B (take run (drop at s.rows)) + length bytes)) (gives (says (refuse 6) false) (view s))
        (cond (before 16 p.stream_sequence_number s.queue.next_ssn) (gives (says none false) (view s))
        (cond (some (of_row (has_tsn p.tsn)) (take run (drop at s.rows))) (gives (says none false) (view s))
        (cond room (keep_ordered (view s) (fragment_of p bytes)) (gives (says (refuse 8) false) (view s)))))
    unfolding push_ordered
    push-is room bytes at-is run_is =
        let e = names s k full in
        rw (chunk-ssn p bytes small, chunk-tsn p bytes, chunk_bytes p bytes, set-size p.stream_sequence_number, set_has p.stream_sequence_number p.tsn, e.1.0, e.1.1, at-is, run_is)

    -- what the answers to the four questions make of a push
    module _ (more : ℕ) (room : Bool) {at : ℕ} (at-is : at ≡ set_at s p.stream_sequence_number) {run : ℕ} (run_is : run ≡ set_run s p.stream_sequence_number) where
      abbrev large : Bool
      large = ltb s.queue.max_message_size (B (take run (drop at s.rows)) + more)

      abbrev old : Bool
      old = before 16 p.stream_sequence_number s.queue.next_ssn

      abbrev again : Bool
      again = some (of_row (has_tsn p.tsn)) (take run (drop at s.rows))

      pub asks_large : large ≡ true → Declines s room p more (says (refuse 6) false)
      asks_large a = λ bytes e. push-is room bytes at-is run_is ∙ rw (e, a)

      module _ (a : large ≡ false) where
        pub asks_old : old ≡ true → Declines s room p more (says none false)
        asks_old b = λ bytes e. push-is room bytes at-is run_is ∙ rw (e, a, b)

        module _ (b : old ≡ false) where
          pub asks_again : again ≡ true → Declines s room p more (says none false)
          asks_again c = λ bytes e. push-is room bytes at-is run_is ∙ rw (e, a, b, c)

          module _ (c : again ≡ false) where
            pub asks_crowded : room ≡ false → Declines s room p more (says (refuse 8) false)
            asks_crowded d = λ bytes e. push-is room bytes at-is run_is ∙ rw (e, a, b, c, d)

            pub asks_kept : room ≡ true → Keeps s room p more at run
            asks_kept d = record { at-is = at-is; run_is = run_is; with_room = d; is = λ bytes e. push-is room bytes at-is run_is ∙ rw (e, a, b, c, d) }

pub asked-stays : (s : State) → Sound s → length s.rows ≡ frags_most → (room : Bool) (p : ChunkPayloadData) (bytes : List ℕ) {told : Told Bool}
    → Declines s room p (length bytes) told → after told s ≡ laid s (push_ordered room (view s) (fragment_of p bytes))
asked-stays s k full room p bytes a = rw (a bytes refl, lay-own s k full)

pub asked-keeps : (s : State) {room : Bool} (p : ChunkPayloadData) (bytes : List ℕ) {at run : ℕ}
    → Keeps s room p (length bytes) at run → laid s (keep_ordered (view s) (fragment_of p bytes)) ≡ laid s (push_ordered room (view s) (fragment_of p bytes))
asked-keeps s p bytes a = rw (a.is bytes refl)
