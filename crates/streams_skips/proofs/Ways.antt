-- Which way a skip on a stream goes: refused, or as the stream's queue has it.
-- Assumes nothing.
use mathlib.Core.Path.{◌≡◌, refl}
use mathlib.Core.Bool.{Bool, true, false}
use Prim.Native.Nat.{ℕ, ◌<◌, ◌≤◌}
use borrow.Author.Tests.{le-leb, lt-leb}
use Rattle.wire_model.specs.Refusal.{none, refuse, says}
use Rattle.reassembly_state.specs.Model.{Queue, skip_ordered, skip_unordered}
use Rattle.reassembly_bounded.specs.Bounded.{skip_bounded}
use Rattle.streams_model.specs.Limits.{streams_most}
use Rattle.streams_model.specs.State.{State, unsound, own, with_own, After, after, skipped, forward_ordered, forward_unordered, forward_bounded}

-- x is what a skip leaves that makes m the queue of stream j
pub record Skips (s : State) (j : ℕ) (m : Queue) (x : After Bool) : Type 0 where
  pub is : skipped s j m ≡ x

module _ (s : State) (j : ℕ) where
  pub ordered_skips : (ssn : ℕ) → Skips s j (skip_ordered (own s j) ssn) (forward_ordered s j ssn)
  unfolding forward_ordered
  ordered_skips ssn = record { is = refl }

  pub unordered_skips : (tsn : ℕ) → Skips s j (skip_unordered (own s j) tsn) (forward_unordered s j tsn)
  unfolding forward_unordered
  unordered_skips tsn = record { is = refl }

  pub bounded_skips : (ssn tsn : ℕ) → Skips s j (skip_bounded (own s j) ssn tsn) (forward_bounded s j ssn tsn)
  unfolding forward_bounded
  bounded_skips ssn tsn = record { is = refl }

module _ {s : State} {j : ℕ} {m : Queue} {x : After Bool} (p : Skips s j m x) where
  pub skip_unsound : unsound s ≡ true → after (says (refuse 0) false) s ≡ x
  skip_unsound e = rw (← p.is, e)

  module _ (e : unsound s ≡ false) where
    pub skip_no_stream : streams_most ≤ j → after (says (refuse 19) false) s ≡ x
    skip_no_stream h = rw (← p.is, e, le-leb streams_most j h)

    pub skip_to : j < streams_most → {t : State} → t ≡ with_own s j m → after (says none true) t ≡ x
    skip_to h f = rw (← p.is, e, lt-leb streams_most j h, f)
