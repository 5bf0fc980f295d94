-- What stands behind a stream moves when the stream grows or shrinks: down after it, or up ahead of it.
-- Assumes nothing.
use mathlib.Core.Path.{◌≡◌, sym, ap, ◌∙◌}
use mathlib.Core.List.{List, ◌++◌, map, append_assoc, map-append}
use Prim.Native.Nat.{ℕ, ◌+◌, ◌-◌, ◌≤◌, ◌<◌}
use native.Mathlib.Omega.{arith}
use lib.ListN.{length, take, drop, length-append, length-map}
use lib.Seq.{drop_at}
use Rattle.wire_model.specs.BigEndian.{over}
use Rattle.moves_model.specs.Lists.{gone}
use Rattle.table.specs.declared.Row.{Row}
use Rattle.table.proofs.Columns.{map-drop}
use Rattle.fragments.specs.Frag.{Frag, row_of}
use Rattle.fragments.specs.Words.{size, joined}
use Rattle.fragments.specs.Pool.{lay_rows, lay_bytes}
use Rattle.fragments.proofs.Pool.{B, cut-rows, cut-joined, joined-append, joined-drop, joined_length, size-append, size-split}
use Rattle.reassembly_state.specs.Limits.{frags_most}
use Rattle.reassembly_state.specs.Model.{Queue, held}
use Rattle.reassembly_state.specs.State.{count}
use Rattle.reassembly_state.proofs.Parts.{drop-take, moved_down}
use Rattle.streams_model.specs.State.{State, rows_held, fragments, own}
use Rattle.streams_model.specs.Among.{mine, rows_before, rows_behind, bytes_before, bytes_behind, before, behind}
use Rattle.streams_model.proofs.Laws.{Sound, sums-total}
use Rattle.streams_model.proofs.Among.{rows_split, bytes-split, before-length, before-size, own-bytes, whole}

module _ {A : Type 0} where
  -- a list over the front part of what was laid, as long as that part
  pub over-front : (xs a b c : List A) → length c ≡ length a → over (over xs (a ++ b)) c ≡ over xs (c ++ b)
  unfolding over
  over-front xs a b c e =
      let n : length (c ++ b) ≡ length (a ++ b) = simp length-append (omega arith) in
      let behind : drop (length c) ((a ++ b) ++ drop (length (a ++ b)) xs) ≡ b ++ drop (length (a ++ b)) xs =
      rw (append_assoc a b (drop (length (a ++ b)) xs)) (drop_at a (b ++ drop (length (a ++ b)) xs) (length c) (sym e)) in
      rw (behind, n) (sym (append_assoc c b (drop (length (a ++ b)) xs)))

module _ (s : State) (k : Sound s) (full : length s.rows ≡ frags_most) (j : ℕ) (h : j < length s.queues) where
  -- where the rows behind begin, and the bytes
  abbrev rows_to : ℕ
  rows_to = rows_before s j + count (mine s j)

  abbrev bytes_to : ℕ
  bytes_to = bytes_before s j + (mine s j).n_bytes

  abbrev n : ℕ
  n = rows_held s.queues

  rows_behind_is : map row_of (behind s j) ≡ take (rows_behind s j) (drop rows_to s.rows)
  rows_behind_is =
      let e : rows_to + rows_behind s j ≡ n = omega (arith, rows_split s k full j h) in
      map-drop row_of rows_to (fragments s) ∙ ap (drop rows_to) (cut-rows (take n s.rows) s.pool k.within)
      ∙ ap (λ (m : ℕ). drop rows_to (take m s.rows)) (sym e) ∙ drop-take rows_to (rows_behind s j) s.rows

  front_bytes : size (take rows_to (fragments s)) ≡ bytes_to
  front_bytes =
      let parts : size (fragments s) ≡ size (before s j) + (size (held (own s j)) + size (behind s j)) = ap size (whole s k full j h) ∙ simp size-append (omega arith) in
      omega (arith, size-split rows_to (fragments s), parts, before-size s k full j h, own-bytes s k full j h)

  all-bytes : B (take n s.rows) ≡ bytes_to + bytes_behind s j
  all-bytes = sums-total s.queues s.rows k.sums ∙ omega (arith, bytes-split s k full j h)

  bytes-behind : joined (behind s j) ≡ take (bytes_behind s j) (drop bytes_to s.pool)
  bytes-behind =
      joined-drop rows_to (fragments s) ∙ rw (front_bytes, cut-joined (take n s.rows) s.pool, all-bytes) (drop-take bytes_to (bytes_behind s j) s.pool)

  -- ── down ──

  module _ (m : Queue) (few : length (held m) ≤ count (mine s j)) (small : size (held m) ≤ (mine s j).n_bytes) where
    abbrev new : List Frag
    new = before s j ++ held m

    -- what was laid without those behind, and these moved down to it
    pub rows_down : {to : ℕ} → to ≡ rows_before s j + length (held m)
        → over (lay_rows new s.rows) (gone to (rows_to - to) (take (rows_to + rows_behind s j) (lay_rows new s.rows))) ≡ lay_rows (before s j ++ (held m ++ behind s j)) s.rows
    rows_down {to} e =
        let long : length (map row_of new) ≡ to = length-map new row_of ∙ length-append (before s j) (held m) ∙ omega (arith, e, before-length s k full j h) in
        let fits = moved_down s.rows (map row_of new) to rows_to (rows_behind s j) long (omega arith) (omega (arith, rows_split s k full j h, k.few)) in
        fits ∙ ap (over s.rows) (ap (λ (l : List Row). map row_of new ++ l) (sym rows_behind_is) ∙ sym (map-append row_of new (behind s j)) ∙ ap (map row_of) (append_assoc (before s j) (held m) (behind s j)))

    pub bytes_down : {to : ℕ} → to ≡ bytes_before s j + size (held m)
        → over (lay_bytes new s.pool) (gone to (bytes_to - to) (take (bytes_to + bytes_behind s j) (lay_bytes new s.pool))) ≡ lay_bytes (before s j ++ (held m ++ behind s j)) s.pool
    bytes_down {to} e =
        let long : length (joined new) ≡ to = joined_length new ∙ size-append (before s j) (held m) ∙ omega (arith, e, before-size s k full j h) in
        let fits = moved_down s.pool (joined new) to bytes_to (bytes_behind s j) long (omega arith) (omega (arith, all-bytes, k.within)) in
        fits ∙ ap (over s.pool) (ap (λ (l : List ℕ). joined new ++ l) (sym bytes-behind) ∙ sym (joined-append new (behind s j)) ∙ ap joined (append_assoc (before s j) (held m) (behind s j)))
