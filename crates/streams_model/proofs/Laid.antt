-- What was laid over the rows and the pool of eight streams is what each of them holds, soundly.
-- Assumes nothing.
use mathlib.Core.Path.{◌≡◌, refl, sym, ◌∙◌}
use mathlib.Core.Bool.{true, false}
use mathlib.Core.List.{List, [], ◌∷◌, ◌++◌, map, map-append, append_assoc}
use Prim.Native.Nat.{◌≤◌}
use native.Mathlib.Omega.{arith}
use borrow.Author.Tests.{le-ltb, eq-eqb}
use lib.ListN.{length, take, length-append, length-drop, length-map}
use lib.Seq.{take_at, drop_at, drop-append-add}
use Rattle.wire_model.specs.BigEndian.{over}
use Rattle.table.specs.Rows.{total}
use Rattle.table.specs.declared.Row.{Row}
use Rattle.fragments.specs.Frag.{Frag, long_length, row_of}
use Rattle.fragments.specs.Words.{size, concat}
use Rattle.fragments.proofs.Pool.{Fit, fit_total, joined_length, laid-view}
use Rattle.reassembly_state.specs.Limits.{frags_most, bytes_most}
use Rattle.reassembly_state.specs.Model.{Queue, held}
use Rattle.reassembly_state.specs.State.{count, counts}
use Rattle.reassembly_state.proofs.Laid.{counts-count}
use Rattle.streams_model.specs.State.{State, rows_held, sums, unsound, fragments, queue_of, split, view, held_by, lay}

-- ── one stream ──

-- its three lists, found again by their counts
queue-back : (m : Queue) → queue_of (counts m) (held m) ≡ m
unfolding queue_of counts
queue-back m =
    rw (
      take_at m.finished (m.unordered ++ m.ordered) (length m.finished) refl,
      drop_at m.finished (m.unordered ++ m.ordered) (length m.finished) refl,
      take_at m.unordered m.ordered (length m.unordered) refl,
      drop-append-add m.finished (m.unordered ++ m.ordered) (length m.unordered),
      drop_at m.unordered m.ordered (length m.unordered) refl,
    )

counts-bytes : (m : Queue) → (counts m).n_bytes ≡ size (held m)
unfolding counts
counts-bytes m = refl

-- what two lists of fragments have each
fit_both : (xs ys : List Frag) → Fit (xs ++ ys) → Fit xs × Fit ys
fit_both [] ys h = (tt, h)
fit_both (x ∷ xs) ys h = let k = fit_both xs ys h.1 in ((h.0, k.0), k.1)

-- ── all of them ──

rows-held : (ms : List Queue) → rows_held (map counts ms) ≡ length (held_by ms)
unfolding concat
rows-held [] = refl
rows-held (m ∷ ms) = rw (counts-count m, rows-held ms) (sym (length-append (held m) (held_by ms)))

split-held : (ms : List Queue) → split (map counts ms) (held_by ms) ≡ ms
unfolding split concat
split-held [] = refl
split-held (m ∷ ms) =
    rw (
      take_at (held m) (held_by ms) (count (counts m)) (sym (counts-count m)),
      drop_at (held m) (held_by ms) (count (counts m)) (sym (counts-count m)),
      queue-back m,
      split-held ms,
    )

-- the byte counts are the sums, with anything behind
sums-held : (ms : List Queue) (rest : List Row) → Fit (held_by ms) → sums (map counts ms) (map row_of (held_by ms) ++ rest) ≡ true
unfolding sums concat
sums-held [] rest fit = refl
sums-held (m ∷ ms) rest fit =
    let f = fit_both (held m) (held_by ms) fit in
    let n : length (map row_of (held m)) ≡ count (counts m) = length-map (held m) row_of ∙ sym (counts-count m) in
    rw (
      map-append row_of (held m) (held_by ms),
      append_assoc (map row_of (held m)) (map row_of (held_by ms)) rest,
      take_at (map row_of (held m)) (map row_of (held_by ms) ++ rest) (count (counts m)) n,
      drop_at (map row_of (held m)) (map row_of (held_by ms) ++ rest) (count (counts m)) n,
      eq-eqb (total long_length (map row_of (held m))) (counts m).n_bytes (fit_total (held m) f.0 ∙ sym (counts-bytes m)),
      sums-held ms rest f.1,
    )

module _ (ms : List Queue) (s : State) (fit : Fit (held_by ms)) where
  laid-fragments : fragments (lay ms s) ≡ held_by ms
  unfolding lay
  laid-fragments = rw (rows-held ms) (laid-view (held_by ms) s.rows s.pool fit)

  laid-queues : (lay ms s).queues ≡ map counts ms
  unfolding lay
  laid-queues = refl

  pub view-lay : view (lay ms s) ≡ ms
  unfolding view
  view-lay = rw (laid-fragments, laid-queues) (split-held ms)

  laid-count : rows_held (lay ms s).queues ≡ length (held_by ms)
  laid-count = rw laid-queues (rows-held ms)

  laid-total : total long_length (take (rows_held (lay ms s).queues) (lay ms s).rows) ≡ size (held_by ms)
  unfolding lay over
  laid-total = rw (rows-held ms, take_at (map row_of (held_by ms)) _ (length (held_by ms)) (length-map (held_by ms) row_of)) (fit_total (held_by ms) fit)

  laid-sums : sums (lay ms s).queues (lay ms s).rows ≡ true
  unfolding lay over
  laid-sums = sums-held ms _ fit

  laid_pool : length s.pool ≤ length (lay ms s).pool
  unfolding lay over
  laid_pool = rw (length-append, length-drop, joined_length (held_by ms)) (omega arith)

  pub sound_lay : length (held_by ms) ≤ frags_most → size (held_by ms) ≤ length s.pool → bytes_most ≤ length s.pool → unsound (lay ms s) ≡ false
  unfolding unsound
  sound_lay few within long =
      rw (
        le-ltb frags_most (rows_held (lay ms s).queues) (omega (arith, laid-count)),
        le-ltb (length (lay ms s).pool) bytes_most (omega (arith, laid_pool)),
        le-ltb (length (lay ms s).pool) (total long_length (take (rows_held (lay ms s).queues) (lay ms s).rows)) (omega (arith, laid_pool, laid-total)),
        laid-sums,
      )
