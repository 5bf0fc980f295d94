-- "Readable is yes exactly when such a message exists": it answers yes exactly when a take gives a message, or would with a longer buffer.
-- Assumes nothing.
use mathlib.Core.Path.{◌≡◌, refl, sym, ap, ◌∙◌}
use mathlib.Core.Bool.{Bool, true, false}
use mathlib.Core.List.{List}
use Prim.Native.Nat.{ℕ, ◌<◌, ◌≤◌}
use borrow.Author.Tests.{lt-ltb, le-ltb}
use lib.ListN.{length}
use Rattle.wire_model.specs.Refusal.{none, refuse, Told, says}
use Rattle.fragments.specs.Words.{size}
use Rattle.reassembly_state.specs.Limits.{frags_most}
use Rattle.reassembly_state.specs.Model.{turn, readable, no_message, message_of, taken}
use Rattle.reassembly_state.specs.State.{State, unsound, view, is_readable, reads, lay_taken, read}
use Rattle.reassembly_theorems.proofs.Views.{laid_as_seen}

module _ (s : State) (e : unsound s ≡ false) where
  pub readable-told : is_readable s ≡ says none (readable (view s))
  unfolding is_readable
  readable-told = rw e

  -- a yes or no is the model's
  so : {b : Bool} → is_readable s ≡ says none b → readable (view s) ≡ b
  so r = ap (λ (t : Told Bool). t.values) (sym readable-told ∙ r)

  module _ (buffer : List ℕ) where
    read_is : read s buffer ≡ lay_taken s (taken (view s) buffer)
    unfolding read
    read_is = rw e

    -- as many bytes as the message in turn has
    abbrev pub needed : ℕ
    needed = size (turn (view s)).frags

    -- yes: the message comes
    pub readable_comes : is_readable s ≡ says none true → needed ≤ length buffer → ((read s buffer).told.refusal ≡ none) × ((read s buffer).told.values.comes ≡ true)
    unfolding taken message_of
    readable_comes r h = rw (read_is, so r, le-ltb (length buffer) needed h) (refl, refl)

    module _ (full : length s.rows ≡ frags_most) where
      -- no: nothing comes, and all stays
      pub unreadable_nothing : is_readable s ≡ says none false → read s buffer ≡ reads (says none no_message) s buffer
      unfolding taken
      unreadable_nothing r = rw (read_is, so r, laid_as_seen s e full)

      -- yes, and the buffer is too short: 10, and all stays
      pub readable_short : is_readable s ≡ says none true → length buffer < needed → read s buffer ≡ reads (says (refuse 10) no_message) s buffer
      unfolding taken
      readable_short r h = rw (read_is, so r, lt-ltb (length buffer) needed h, laid_as_seen s e full)

    -- both ways at once, for a buffer that is long enough
    pub comes_as_told : needed ≤ length buffer → (read s buffer).told.values.comes ≡ (is_readable s).values
    unfolding taken message_of
    comes_as_told h = rw (read_is, readable-told) (go (readable (view s)) refl)
      where
        go : (b : Bool) → readable (view s) ≡ b → (taken (view s) buffer).told.values.comes ≡ b
        go true r = rw (r, le-ltb (length buffer) needed h)
        go false r = rw r
