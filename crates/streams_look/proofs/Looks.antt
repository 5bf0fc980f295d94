-- What a look at a stream answers: refused, or as its queue has it, which has as many bytes as its counts say, and which a skip finds as far behind others
-- as alone.
-- Assumes nothing.
use mathlib.Core.Path.{◌≡◌, refl, sym, ap, ◌∙◌}
use mathlib.Core.Bool.{true, false}
use mathlib.Core.Option as option
use Prim.Native.Nat.{ℕ, ◌<◌, ◌≤◌}
use native.Mathlib.Omega.{arith}
use borrow.Author.Tests.{le-leb, lt-leb}
use lib.ListN.{length}
use Rattle.wire_model.specs.Refusal.{none, refuse, Told, says}
use Rattle.fragments.specs.Words.{size}
use Rattle.reassembly_state.specs.Limits.{frags_most}
use Rattle.reassembly_state.specs.Model.{Queue, held}
use Rattle.reassembly_state.specs.State as one
use Rattle.reassembly_state.specs.State.{count}
use Rattle.reassembly_state.specs.declared.Counts.{Counts}
use Rattle.reassembly_applicable.specs.Applicable.{Found, found_in, applies}
use Rattle.streams_model.specs.Limits.{streams_most}
use Rattle.streams_model.specs.State.{State, unsound, own, looked, num_bytes, applicable}
use Rattle.streams_model.specs.Among.{among_none, mine, before}
use Rattle.streams_model.proofs.Laws.{Sound}
use Rattle.streams_model.proofs.Among.{rows_split, own-bytes, among_none-view}
use Rattle.streams_model.proofs.Beside.{applies-behind}
use Rattle.streams_model.proofs.Left.{stands}

-- x is what a look at stream j answers that finds v there
pub record Finds {A : Type 0} (zero v : A) (s : State) (j : ℕ) (x : Told A) : Type 0 where
  pub is : looked zero s j v ≡ x

module _ (s : State) (j : ℕ) where
  pub bytes_found : Finds 0 (size (held (own s j))) s j (num_bytes s j)
  unfolding num_bytes
  bytes_found = record { is = refl }

  pub applicable_found : (ssn tsn peer : ℕ) → Finds (found_in option.none) (found_in (applies (own s j) ssn tsn peer)) s j (applicable s j ssn tsn peer)
  unfolding applicable
  applicable_found ssn tsn peer = record { is = refl }

module _ {A : Type 0} {zero v : A} {s : State} {j : ℕ} {x : Told A} (p : Finds zero v s j x) where
  pub look_unsound : unsound s ≡ true → says (refuse 0) zero ≡ x
  look_unsound e = rw (← p.is, e)

  module _ (e : unsound s ≡ false) where
    pub look_no_stream : streams_most ≤ j → says (refuse 19) zero ≡ x
    look_no_stream h = rw (← p.is, e, le-leb streams_most j h)

    pub look_at : j < streams_most → {t : Told A} → t ≡ says none v → t ≡ x
    look_at h f = f ∙ rw (← p.is, e, lt-leb streams_most j h)

module _ (s : State) (k : Sound s) (full : length s.rows ≡ frags_most) (j : ℕ) (h : j < length s.queues) where
  pub bytes_said_lem : {q : Counts} → q ≡ mine s j → says none q.n_bytes ≡ says none (size (held (own s j)))
  bytes_said_lem e = ap (says none) (ap (λ (c : Counts). c.n_bytes) e ∙ sym (own-bytes s k full j h))

  module _ {q : Counts} (e : q ≡ among_none s.queues j) where
    pub front_few : count q ≤ frags_most
    front_few = let c = ap count e in omega (arith, c, rows_split s k full j h, k.few)

    pub applies-own : (ssn tsn peer : ℕ) {t : Told Found} → t ≡ says none (found_in (applies (one.view (stands q s.rows s.pool)) ssn tsn peer)) → t ≡ says none (found_in (applies (own s j) ssn tsn peer))
    applies-own ssn tsn peer f =
        let seen = ap (λ (c : Counts). one.view (stands c s.rows s.pool)) e ∙ among_none-view s k full j h in
        f ∙ ap (λ (m : Queue). says none (found_in (applies m ssn tsn peer))) seen ∙ ap (λ (o : option.Option ℕ). says none (found_in o)) (applies-behind (before s j) (own s j) ssn tsn peer)
