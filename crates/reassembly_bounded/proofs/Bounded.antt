-- A bounded skip, apart from the code: what limits the expected SSN is seen in the rows, and where it moves to.
-- Assumes nothing.
use mathlib.Core.Path.{◌≡◌, refl, sym, ap, ◌∙◌}
use mathlib.Core.Bool.{true, false}
use mathlib.Core.List.{List, map}
use mathlib.Core.Option.{get_or}
use Prim.Native.Nat.{ℕ}
use lib.ListN.{length}
use Rattle.serial_model.specs.Serial.{next, before}
use Rattle.fragments.specs.Frag.{bare}
use Rattle.set_reach.specs.Kept.{lowest, stays}
use Rattle.set_reach.proofs.Blind.{Blind, blind_cut, up_to_blind, reached_blind, ssns_blind}
use Rattle.reassembly_state.specs.Limits.{frags_most}
use Rattle.reassembly_state.specs.Model.{with_ordered}
use Rattle.reassembly_state.specs.State.{State, view, counts, lay}
use Rattle.reassembly_state.specs.Rows.{ordered_rows}
use Rattle.reassembly_state.proofs.Laws.{Sound, ordered-cut}
use Rattle.reassembly_drop.proofs.Expected.{expecting, expects}
use Rattle.set_reach.specs.Bounded.{abandoned, held_back, limit, moved_to, skip_bounded}

-- ── the limit ──

held-back_blind : (s t : ℕ) → Blind (held_back s t)
held-back_blind s t l = rw (up_to_blind s l, reached_blind t l)

limit_blind : (s t : ℕ) → Blind (limit s t)
unfolding limit
limit_blind s t l = ap (λ (ns : List ℕ). get_or (lowest 16 ns) (next 16 s)) (ssns_blind (held_back s t) (held-back_blind s t) l)

pub limit_seen : (s : State) → Sound s → length s.rows ≡ frags_most → (last t : ℕ) → limit last t (map bare (ordered_rows s)) ≡ limit last t (view s).ordered
limit_seen s k full last t = sym (ap (limit last t) (ordered-cut s k.few full) ∙ blind_cut (limit_blind last t) (ordered_rows s) _)

-- ── the expected SSN ──

moves_on : (s : State) (last t : ℕ) → lay (skip_bounded (view s) last t) s ≡ expecting (moved_to (view s).next (limit last t (view s).ordered)) (lay (with_ordered (view s) (stays (abandoned last t) (view s).ordered)) s)
unfolding lay counts skip_bounded
moves_on s last t = refl

module _ (s d : State) (last t : ℕ) (e : d ≡ lay (with_ordered (view s) (stays (abandoned last t) (view s).ordered)) s) {n : ℕ} (x : n ≡ limit last t (view s).ordered) where
  same : (view s).next ≡ d.queue.next_ssn
  same = sym (ap (λ (y : State). y.queue.next_ssn) e ∙ expects (with_ordered (view s) (stays (abandoned last t) (view s).ordered)) s)

  to : (m : ℕ) → moved_to (view s).next (limit last t (view s).ordered) ≡ m → expecting m d ≡ lay (skip_bounded (view s) last t) s
  to m y = ap (expecting m) e ∙ ap (λ (k : ℕ). expecting k (lay (with_ordered (view s) (stays (abandoned last t) (view s).ordered)) s)) (sym y) ∙ sym (moves_on s last t)

  pub moved_on_lem : before 16 d.queue.next_ssn n ≡ true → expecting n d ≡ lay (skip_bounded (view s) last t) s
  unfolding moved_to
  moved_on_lem b = to n (rw (same, ← x, b))

  pub stayed : before 16 d.queue.next_ssn n ≡ false → d ≡ lay (skip_bounded (view s) last t) s
  unfolding moved_to
  stayed b = to d.queue.next_ssn (rw (same, ← x, b))
