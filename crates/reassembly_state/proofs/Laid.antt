-- What was laid over a queue's rows and pool is what they hold, soundly; and what is laid over it lies over the queue.
-- Assumes nothing.
use mathlib.Core.Path.{◌≡◌, refl, sym, ◌∙◌}
use mathlib.Core.Bool.{false}
use mathlib.Core.List.{List, ◌++◌, map}
use Prim.Native.Nat.{ℕ, ◌≤◌}
use native.Mathlib.Omega.{arith}
use borrow.Author.Tests.{le-ltb, eq-eqb}
use lib.ListN.{length, length-append, length-drop, length-map}
use lib.Seq.{take_at, drop_at, drop-append-add}
use Rattle.wire_model.specs.BigEndian.{over}
use Rattle.fragments.specs.Frag.{Frag, row_of}
use Rattle.fragments.specs.Words.{size, joined}
use Rattle.fragments.proofs.Pool.{Fit, fit_total, joined_length, laid-view}
use Rattle.reassembly_state.specs.Limits.{frags_most, bytes_most}
use Rattle.reassembly_state.specs.Model.{Queue, queue, held}
use Rattle.reassembly_state.specs.State.{State, count, sum, unsound, fragments, view, counts, lay}
use Rattle.reassembly_state.proofs.Parts.{over-over}

module _ (m : Queue) where
  pub counts-count : count (counts m) ≡ length (held m)
  unfolding counts
  counts-count = rw (length-append, length-append)

  module _ (s : State) (fit : Fit (held m)) where
    laid-fragments : fragments (lay m s) ≡ held m
    unfolding lay
    laid-fragments = rw counts-count (laid-view (held m) s.rows s.pool fit)

    laid-count : count (lay m s).queue ≡ length (held m)
    unfolding lay
    laid-count = counts-count

    laid-bytes : (lay m s).queue.n_bytes ≡ size (held m)
    unfolding lay counts
    laid-bytes = refl

    pub view-lay : view (lay m s) ≡ m
    unfolding view lay counts
    view-lay =
        rw (
          laid-fragments,
          take_at m.finished (m.unordered ++ m.ordered) (length m.finished) refl,
          drop_at m.finished (m.unordered ++ m.ordered) (length m.finished) refl,
          take_at m.unordered m.ordered (length m.unordered) refl,
          drop-append-add m.finished (m.unordered ++ m.ordered) (length m.unordered),
          drop_at m.unordered m.ordered (length m.unordered) refl,
        )

    laid-sum : sum (lay m s) ≡ size (held m)
    unfolding lay over
    laid-sum = rw (counts-count, take_at (map row_of (held m)) _ (length (held m)) (length-map (held m) row_of)) (fit_total (held m) fit)

    laid_pool : length s.pool ≤ length (lay m s).pool
    unfolding lay over
    laid_pool = rw (length-append, length-drop, joined_length (held m)) (omega arith)

    pub sound_lay : length (held m) ≤ frags_most → size (held m) ≤ length s.pool → bytes_most ≤ length s.pool → unsound (lay m s) ≡ false
    unfolding unsound
    sound_lay few within long =
        rw (
          le-ltb frags_most (count (lay m s).queue) (omega (arith, laid-count)),
          le-ltb (length (lay m s).pool) bytes_most (omega (arith, laid_pool)),
          le-ltb (length (lay m s).pool) (sum (lay m s)) (omega (arith, laid_pool, laid-sum)),
          eq-eqb (sum (lay m s)) (lay m s).queue.n_bytes (laid-sum ∙ sym laid-bytes),
        )

-- the longer of two laid one after the other
pub lay-lay : (m n : Queue) (s : State) → length (held m) ≤ length (held n) → size (held m) ≤ size (held n) → lay n (lay m s) ≡ lay n s
unfolding lay
lay-lay m n s h k =
    rw (
      over-over s.rows (map row_of (held m)) (map row_of (held n)) (rw (length-map (held m) row_of, length-map (held n) row_of) h),
      over-over s.pool (joined (held m)) (joined (held n)) (rw (joined_length (held m), joined_length (held n)) k),
    )

-- the counts of three lists in place of those of a queue
pub counts_of_lem : (s : State) (a b c : List Frag) {x y z n : ℕ} → length a ≡ x → length b ≡ y → length c ≡ z → size (a ++ (b ++ c)) ≡ n
    → counts (queue (view s).si (view s).next (view s).max a b c)
    ≡ record {
      si = s.queue.si;
      next_ssn = s.queue.next_ssn;
      max_message_size = s.queue.max_message_size;
      finished = x;
      unordered = y;
      ordered = z;
      n_bytes = n;
    }
unfolding counts view
counts_of_lem s a b c e f g h = rw (e, f, g, h)
