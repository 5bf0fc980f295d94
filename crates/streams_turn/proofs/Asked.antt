-- What is asked first of every take, and what a look says of the message in turn.
-- Assumes nothing.
use mathlib.Core.Path.{◌≡◌, refl, sym, ap, ◌∙◌}
use mathlib.Core.Bool.{true, false, cond}
use mathlib.Core.List.{List}
use Prim.Native.Nat.{ℕ, suc, ◌-◌, ◌<◌, ◌≤◌}
use native.Mathlib.Omega.{arith}
use native.Mathlib.Decide.{dec_le}
use borrow.Author.Tests.{lt-ltb, le-ltb, le-leb, lt-leb}
use lib.Dec.{ltb}
use Rattle.wire_model.specs.Refusal.{none, refuse, says}
use Rattle.chunks.specs.declared.Chunks.{Chunks}
use Rattle.reassembly_state.specs.Answers.{message_held}
use Rattle.reassembly_state.specs.declared.Counts.{Counts}
use Rattle.reassembly_state.specs.Model.{no_message, readable, taken}
use Rattle.streams_model.specs.Limits.{streams_most}
use Rattle.streams_model.specs.State.{State, unsound, own, reads, lay_taken, read, is_readable}
use Rattle.streams_turn.specs.Turned.{Turned}

module _ (s : State) (j : ℕ) where
  pub look_unsound : unsound s ≡ true → says (refuse 0) false ≡ is_readable s j
  unfolding is_readable
  look_unsound e = rw e

  module _ (e : unsound s ≡ false) where
    pub look_no_stream : streams_most ≤ j → says (refuse 19) false ≡ is_readable s j
    unfolding is_readable
    look_no_stream h = rw (e, le-leb streams_most j h)

    pub look_is : j < streams_most → {from to : ℕ} → Turned s j from to → says none (ltb from to) ≡ is_readable s j
    unfolding is_readable readable
    look_is h {from} {to} t = rw (e, lt-leb streams_most j h, ← t.run_is) (ap (says none) (some (dec_le (suc from) to)))
      where
        some : Dec (suc from ≤ to) → ltb from to ≡ ltb 0 (to - from)
        some (yes l) = lt-ltb from to l ∙ sym (lt-ltb 0 (to - from) (omega arith))
        some (no l) = le-ltb from to (omega arith) ∙ sym (le-ltb 0 (to - from) (omega arith))

  module _ (buffer : List ℕ) where
    pub read-unsound : unsound s ≡ true → reads (says (refuse 0) no_message) s buffer ≡ read s j buffer
    unfolding read
    read-unsound e = rw e

    module _ (e : unsound s ≡ false) where
      pub read_no_stream : streams_most ≤ j → reads (says (refuse 19) no_message) s buffer ≡ read s j buffer
      unfolding read
      read_no_stream h = rw (e, le-leb streams_most j h)

      pub read_is : j < streams_most → lay_taken s j (taken (own s j) buffer) ≡ read s j buffer
      unfolding read
      read_is h = rw (e, lt-leb streams_most j h)

-- a message in hand is one that came
pub held_comes : (c : Chunks) → (message_held c).comes ≡ true
unfolding message_held
held_comes c = refl

-- the same bounds of the same counts
pub fits_own : {q c : Counts} → q ≡ c → {n k : ℕ} → (n ≤ c.n_bytes) × (k ≤ cond (ltb 0 c.finished) c.finished c.ordered) → (n ≤ q.n_bytes) × (k ≤ cond (ltb 0 q.finished) q.finished q.ordered)
fits_own e f = rw e f
