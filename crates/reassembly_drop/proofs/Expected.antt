-- The expected SSN after an ordered skip.
-- Assumes nothing.
use mathlib.Core.Path.{◌≡◌, refl, sym, ap, ◌∙◌}
use mathlib.Core.Bool.{true, false, cond}
use Prim.Native.Nat.{ℕ}
use Rattle.serial_model.specs.Serial.{next, at_or_before}
use Rattle.reassembly_state.specs.Model.{Queue, with_ordered, drop_incomplete, skip_ordered}
use Rattle.set_reach.specs.Kept.{stays, dropped}
use Rattle.set_reach.proofs.Skip.{skipped-stays}
use Rattle.reassembly_state.specs.State.{State, view, counts, lay}

-- the sets that a skip with no point drops are the incomplete ones
pub unbounded : (s : State) (last : ℕ) → lay (with_ordered (view s) (stays (dropped last false 0) (view s).ordered)) s ≡ lay (drop_incomplete (view s) last) s
unbounded s last = rw (skipped-stays last 0 (view s).ordered)

-- a state that expects another SSN
abbrev pub expecting : ℕ → State → State
expecting n s =
    record {
      queue = record {
        si = s.queue.si;
        next_ssn = n;
        max_message_size = s.queue.max_message_size;
        finished = s.queue.finished;
        unordered = s.queue.unordered;
        ordered = s.queue.ordered;
        n_bytes = s.queue.n_bytes;
      };
      rows = s.rows;
      pool = s.pool;
    }

moves_on : (s : State) (last : ℕ) → lay (skip_ordered (view s) last) s ≡ expecting (cond (at_or_before 16 (view s).next last) (next 16 last) (view s).next) (lay (drop_incomplete (view s) last) s)
unfolding lay counts skip_ordered
moves_on s last = refl

pub expects : (m : Queue) (s : State) → (lay m s).queue.next_ssn ≡ m.next
unfolding lay counts
expects m s = refl

module _ (s d : State) (last : ℕ) (e : d ≡ lay (drop_incomplete (view s) last) s) where
  same : (view s).next ≡ d.queue.next_ssn
  same = sym (ap (λ (x : State). x.queue.next_ssn) e ∙ expects (drop_incomplete (view s) last) s)

  abbrev expected : ℕ
  expected = cond (at_or_before 16 (view s).next last) (next 16 last) (view s).next

  to : (n : ℕ) → expected ≡ n → expecting n d ≡ lay (skip_ordered (view s) last) s
  to n x = ap (expecting n) e ∙ ap (λ (k : ℕ). expecting k (lay (drop_incomplete (view s) last) s)) (sym x) ∙ sym (moves_on s last)

  pub moved_on_lem : at_or_before 16 d.queue.next_ssn last ≡ true → expecting (next 16 last) d ≡ lay (skip_ordered (view s) last) s
  moved_on_lem t = to (next 16 last) (rw (same, t))

  pub stayed : at_or_before 16 d.queue.next_ssn last ≡ false → d ≡ lay (skip_ordered (view s) last) s
  stayed t = to d.queue.next_ssn (rw (same, t))
