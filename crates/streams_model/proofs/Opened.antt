-- Room made behind a stream: the new fragment stands there, those behind the stream have moved up, and the stream's own are as they were.
-- Assumes nothing.
use mathlib.Core.Path.{◌≡◌, refl, sym, ap, ◌∙◌}
use mathlib.Core.Bool.{false}
use mathlib.Core.List.{List, [], ◌∷◌, ◌++◌, map, append_assoc, map-append, append-nil}
use Prim.Native.Nat.{ℕ, ◌+◌, ◌≤◌, ◌<◌}
use native.Mathlib.Omega.{arith}
use lib.ListN.{length, take, drop, length-append, length-map}
use lib.Seq.{length-take-le, take-take, take_at, take-append-le}
use Rattle.wire_model.specs.BigEndian.{over}
use Rattle.wire_model.specs.Facts.{over-length}
use Rattle.moves_model.specs.Lists.{put}
use Rattle.table.specs.declared.Row.{Row}
use Rattle.table.proofs.Columns.{map-take}
use Rattle.fragments.specs.Frag.{Frag, row_of}
use Rattle.fragments.specs.Words.{size, joined}
use Rattle.fragments.specs.Pool.{cut, lay_rows, lay_bytes}
use Rattle.fragments.proofs.Pool.{B, fit_cut, fit_put, cut-rows, cut-size, cut-take, total-take, joined-append, joined_length, laid-view, size-append, size-put}
use Rattle.reassembly_state.specs.Limits.{frags_most}
use Rattle.reassembly_state.specs.Model.{Queue, held}
use Rattle.reassembly_state.specs.State.{count}
use Rattle.reassembly_state.specs.State as one
use Rattle.reassembly_state.specs.Rows.{first_ordered, ordered_rows, set_at, set_run}
use Rattle.reassembly_state.proofs.Parts.{drop-take, put-length}
use Rattle.reassembly_state.specs.declared.Counts.{Counts}
use Rattle.streams_model.specs.State.{State, rows_held, bytes_said, fragments, own}
use Rattle.streams_model.specs.Among.{among_counts, among_none, mine, rows_before, rows_behind, bytes_before, before, behind, among, OneMore, Ready}
use Rattle.streams_model.proofs.Laws.{Sound, fragments-length, sums-total}
use Rattle.streams_model.proofs.Among.{one_sound, rows_split, before-length, own-length, whole, take-three, among-front, among-sum, among_none_sound, among_none-view, behind-length}
use Rattle.streams_model.proofs.Moved.{over-front}

empty : {A : Type 0} (l : List A) → length l ≡ 0 → l ≡ []
empty [] e = refl
empty (x ∷ l) e = absurd (omega arith)

module _ (s : State) (k : Sound s) (full : length s.rows ≡ frags_most) (j : ℕ) (h : j < length s.queues) where
  abbrev F : List Frag
  F = fragments s

  abbrev n : ℕ
  n = rows_held s.queues

  -- how many stand up to the stream's last
  abbrev rows_to : ℕ
  rows_to = rows_before s j + count (mine s j)

  up_to_lem : rows_to ≤ n
  up_to_lem = omega (arith, rows_split s k full j h)

  front-is : take rows_to F ≡ before s j ++ held (own s j)
  front-is =
      let e : rows_to ≡ rows_before s j + (count (mine s j) + 0) = omega arith in
      ap (λ (i : ℕ). take i F) e ∙ ap (take (rows_before s j + (count (mine s j) + 0))) (whole s k full j h)
      ∙ take-three (before s j) (held (own s j)) (behind s j) 0 (before-length s k full j h) (own-length s k full j h)
      ∙ ap (λ (l : List Frag). before s j ++ l) (append-nil (held (own s j)))

  module _ (f : Frag) (short : length f.bytes < 16777216) where
    abbrev all : List Frag
    all = put rows_to (f ∷ []) F

    abbrev pub opened : one.State
    opened = record { queue = among_counts (mine s j) (rows_before s j) (bytes_before s j) 0 0; rows = lay_rows all s.rows; pool = lay_bytes all s.pool }

    all-is : all ≡ before s j ++ (held (own s j) ++ (f ∷ behind s j))
    unfolding put
    all-is = rw front-is (append_assoc (before s j) (held (own s j)) (f ∷ behind s j))

    all-front : take rows_to all ≡ take rows_to F
    unfolding put
    all-front = take_at (take rows_to F) (f ∷ behind s j) rows_to (length-take-le rows_to F (omega (arith, fragments-length s k full, up_to_lem)))

    all-long : length all ≡ 1 + n
    all-long = put-length rows_to (f ∷ []) F ∙ ap (λ (i : ℕ). 1 + i) (fragments-length s k full)

    -- the rows up to it are as they were
    same_rows : take rows_to (lay_rows all s.rows) ≡ take rows_to s.rows
    unfolding over
    same_rows =
        take-append-le rows_to (map row_of all) _ (rw (length-map all row_of) (omega (arith, all-long, up_to_lem)))
        ∙ sym (map-take row_of rows_to all) ∙ ap (map row_of) all-front ∙ map-take row_of rows_to F
        ∙ ap (take rows_to) (cut-rows (take n s.rows) s.pool k.within) ∙ take-take rows_to n s.rows up_to_lem

    cnt_is : count opened.queue ≡ rows_to
    cnt_is = omega arith

    same-fragments : one.fragments opened ≡ one.fragments (among s j 0 0)
    unfolding size
    same-fragments =
        let fit = fit_put rows_to (f ∷ []) F (short, tt) (fit_cut (take n s.rows) s.pool) in
        ap (λ (i : ℕ). cut (take i opened.rows) opened.pool) cnt_is
        ∙ ap (λ (l : List Row). cut l opened.pool) (sym (take-take rows_to (length all) opened.rows (omega (arith, all-long, up_to_lem))))
        ∙ sym (cut-take rows_to (take (length all) opened.rows) opened.pool)
        ∙ ap (take rows_to) (laid-view all s.rows s.pool fit)
        ∙ all-front
        ∙ ap (λ (i : ℕ). take i F) (sym cnt_is)
        ∙ sym (among-front s k full j h 0 0 (omega arith) refl)

    pub opened_view : one.view opened ≡ one.view (among s j 0 0)
    unfolding one.view
    opened_view = rw same-fragments

    size-one : (i : ℕ) → size (put i (f ∷ []) F) ≡ length f.bytes + size F
    unfolding size
    size-one i = omega (arith, size-put F i (f ∷ []))

    pub opened_sound : bytes_said s.queues + length f.bytes ≤ length s.pool → one.unsound opened ≡ false
    unfolding size
    opened_sound room =
        let bytes : size F ≡ bytes_said s.queues = cut-size (take n s.rows) s.pool k.within ∙ sums-total s.queues s.rows k.sums in
        let more : size all ≡ length f.bytes + size F = size-one rows_to in
        let long : length opened.pool ≡ length s.pool = over-length s.pool (joined all) (rw (joined_length all) (omega (arith, more, bytes, room))) in
        let same : one.sum opened ≡ one.sum (among s j 0 0) =
        ap (λ (i : ℕ). B (take i opened.rows)) cnt_is ∙ ap B same_rows ∙ ap (λ (i : ℕ). B (take i s.rows)) (sym cnt_is) in
        let sums = among-sum s k full j h 0 0 (omega arith) refl in
        let within = total-take rows_to n s.rows up_to_lem in
        let held_bytes = ap (λ (i : ℕ). B (take i s.rows)) cnt_is in
        one_sound opened (omega (arith, cnt_is, up_to_lem, k.few)) (omega (arith, long, k.long)) (omega (arith, long, same, held_bytes, within, k.within)) (same ∙ sums)

    same-ordered : ordered_rows opened ≡ ordered_rows (among s j 0 0)
    same-ordered =
        let p = first_ordered opened in
        let o = opened.queue.ordered in
        let e : p + o ≡ rows_to = omega arith in
        sym (drop-take p o opened.rows) ∙ ap (λ (i : ℕ). drop p (take i opened.rows)) e ∙ ap (drop p) same_rows
        ∙ ap (λ (i : ℕ). drop p (take i s.rows)) (sym e) ∙ drop-take p o s.rows

    pub same_set : (ssn : ℕ) → (set_at opened ssn ≡ set_at (among s j 0 0) ssn) × (set_run opened ssn ≡ set_run (among s j 0 0) ssn)
    same_set ssn = (rw same-ordered, rw same-ordered)

    -- up to it, the new one with them
    abbrev front : List Frag
    front = before s j ++ (held (own s j) ++ (f ∷ []))

    all-parts : all ≡ front ++ behind s j
    all-parts = all-is ∙ sym (rw (append_assoc (before s j) (held (own s j) ++ (f ∷ [])) (behind s j), append_assoc (held (own s j)) (f ∷ []) (behind s j)))

    size_alone : size (f ∷ []) ≡ length f.bytes
    unfolding size
    size_alone = omega arith

    -- what is laid up to one more, and those behind
    module _ (m : Queue) (one_more : OneMore (length f.bytes) (held (own s j)) (held m)) where
      pub rows-kept : lay_rows (before s j ++ held m) opened.rows ≡ lay_rows (before s j ++ (held m ++ behind s j)) s.rows
      rows-kept =
          let long : length (map row_of (before s j ++ held m)) ≡ length (map row_of front) =
          rw (length-map (before s j ++ held m) row_of, length-map front row_of)
          (omega (arith, length-append (before s j) (held m), length-append (before s j) (held (own s j) ++ (f ∷ [])), length-append (held (own s j)) (f ∷ []), one_more.few)) in
          ap (λ (l : List Row). over (over s.rows l) (map row_of (before s j ++ held m))) (ap (map row_of) all-parts ∙ map-append row_of front (behind s j))
          ∙ over-front s.rows (map row_of front) (map row_of (behind s j)) (map row_of (before s j ++ held m)) long
          ∙ ap (over s.rows) (sym (map-append row_of (before s j ++ held m) (behind s j)) ∙ ap (map row_of) (append_assoc (before s j) (held m) (behind s j)))

      pub bytes-kept : lay_bytes (before s j ++ held m) opened.pool ≡ lay_bytes (before s j ++ (held m ++ behind s j)) s.pool
      bytes-kept =
          let long : length (joined (before s j ++ held m)) ≡ length (joined front) =
          rw (joined_length (before s j ++ held m), joined_length front)
          (omega (arith, size-append (before s j) (held m), size-append (before s j) (held (own s j) ++ (f ∷ [])), size-append (held (own s j)) (f ∷ []), size_alone, one_more.bytes)) in
          ap (λ (l : List ℕ). over (over s.pool l) (joined (before s j ++ held m))) (ap joined all-parts ∙ joined-append front (behind s j))
          ∙ over-front s.pool (joined front) (joined (behind s j)) (joined (before s j ++ held m)) long
          ∙ ap (over s.pool) (sym (joined-append (before s j ++ held m) (behind s j)) ∙ ap joined (append_assoc (before s j) (held m) (behind s j)))

    pub opened_ready : bytes_said s.queues + length f.bytes ≤ length s.pool → Ready s j f opened
    opened_ready room =
        record {
          sound = opened_sound room;
          view = opened_view ∙ among_none-view s k full j h;
          set-at = λ ssn. (same_set ssn).0;
          set-run = λ ssn. (same_set ssn).1;
          rows = rows-kept;
          bytes = bytes-kept;
        }

  -- where nothing stands behind it, nothing need be done
  pub last_ready : (f : Frag) → rows_behind s j ≡ 0 → Ready s j f (among s j 0 0)
  last_ready f e =
      let none : behind s j ≡ [] = empty (behind s j) (behind-length s k full j h ∙ e) in
      record {
        sound = among_none_sound s k full j h;
        view = among_none-view s k full j h;
        set-at = λ ssn. refl;
        set-run = λ ssn. refl;
        rows = λ m o. ap (λ (l : List Frag). lay_rows (before s j ++ l) s.rows) (sym (ap (λ (l : List Frag). held m ++ l) none ∙ append-nil (held m)));
        bytes = λ m o. ap (λ (l : List Frag). lay_bytes (before s j ++ l) s.pool) (sym (ap (λ (l : List Frag). held m ++ l) none ∙ append-nil (held m)));
      }

  -- by what the pieces of code say
  pub ready_last : (f : Frag) {q : Counts} → q ≡ among_none s.queues j → rows_behind s j ≡ 0 → Ready s j f (record { queue = q; rows = s.rows; pool = s.pool })
  ready_last f e z = rw e (last_ready f z)

  pub ready_opened : (f : Frag) → length f.bytes < 16777216 → bytes_said s.queues + length f.bytes ≤ length s.pool
      → {q : Counts} {rows : List Row} {pool : List ℕ} {at i : ℕ} {g : Frag} → q ≡ among_none s.queues j → at ≡ rows_before s j + count (mine s j) → i ≡ rows_held s.queues → g ≡ f
      → rows ≡ lay_rows (put at (g ∷ []) (cut (take i s.rows) s.pool)) s.rows
      → pool ≡ lay_bytes (put at (g ∷ []) (cut (take i s.rows) s.pool)) s.pool
      → Ready s j f (record { queue = q; rows = rows; pool = pool })
  ready_opened f short room e a m w r p = rw (e, r, p, w, a, m) (opened_ready f short room)
