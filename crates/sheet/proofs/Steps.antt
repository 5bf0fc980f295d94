-- A lent reassembly queue that holds a queue of the model: what a push and a read answer and leave is what the model's do.
-- Assumes nothing.
use mathlib.Core.Path.{◌≡◌, refl, ap, ◌∙◌}
use mathlib.Core.Bool.{Bool, false}
use mathlib.Core.List.{List, []}
use Prim.Native.Nat.{ℕ, ◌*◌, ◌≤◌}
use native.Mathlib.Omega.{arith}
use borrow.Author.Tests.{le-ltb}
use lib.ListN.{length}
use Rattle.data_fields.specs.declared.ChunkPayloadData.{ChunkPayloadData}
use Rattle.table.specs.Rows.{total}
use Rattle.table.proofs.Columns.{rows_long}
use Rattle.fragments.specs.Pool.{cut}
use Rattle.fragments.proofs.Pool.{Fit}
use Rattle.reassembly_state.specs.Limits.{frags_most, bytes_most}
use Rattle.reassembly_state.specs.Model.{Queue, queue, held, Given, room_for, push, taken}
use Rattle.reassembly_state.specs.State.{State, unsound, view, laid, After, fragment_of, pushed, Read, lay_taken, read}
use Rattle.reassembly_theorems.proofs.Views.{seen_as_laid}
use Rattle.reassembly_theorems.proofs.Stays.{push-keeps, read_keeps}
use Rattle.sheet.specs.Words.{expecting}

-- s is sound, and holds the queue m
pub record Holds (s : State) (m : Queue) : Type 0 where
  pub sound : unsound s ≡ false
  pub rows : length s.rows ≡ frags_most
  pub seen : view s ≡ m

-- a new one holds nothing
pub new_holds : (ssn : ℕ) (words pool : List ℕ) → length words ≡ 4 * frags_most → bytes_most ≤ length pool → Holds (expecting ssn words pool) (queue 0 ssn 10 [] [] [])
unfolding unsound total view cut
new_holds ssn words pool w h =
    record { sound = rw (le-ltb (length pool) bytes_most h, le-ltb (length pool) 0 (omega arith)); rows = rows_long frags_most words w; seen = refl }

-- what the model's push gives
abbrev pub pushing : Queue → ChunkPayloadData → List ℕ → Given Bool
pushing m p bytes = push (room_for m (fragment_of p bytes)) m p.stream_identifier p.unordered (fragment_of p bytes)

module _ {s : State} {m : Queue} (h : Holds s m) where
  push-is : (p : ChunkPayloadData) (bytes : List ℕ) → pushed s p bytes ≡ laid s (pushing m p bytes)
  unfolding pushed
  push-is p bytes = rw (h.sound, h.seen)

  pub push-told : (p : ChunkPayloadData) (bytes : List ℕ) → (pushed s p bytes).told ≡ (pushing m p bytes).told
  push-told p bytes = ap (λ (a : After Bool). a.told) (push-is p bytes)

  pub push_holds : (p : ChunkPayloadData) (bytes : List ℕ) → Fit (held (pushing m p bytes).queue) → Holds (pushed s p bytes).state (pushing m p bytes).queue
  push_holds p bytes fit =
      let k = push-keeps s h.sound h.rows p bytes in
      record { sound = k.sound; rows = k.rows; seen = ap (λ (a : After Bool). view a.state) (push-is p bytes) ∙ seen_as_laid _ s fit }

  read_is : (buffer : List ℕ) → read s buffer ≡ lay_taken s (taken m buffer)
  unfolding read
  read_is buffer = rw (h.sound, h.seen)

  pub read_told : (buffer : List ℕ) → (read s buffer).told ≡ (taken m buffer).told
  read_told buffer = ap (λ (r : Read). r.told) (read_is buffer)

  pub read-buffer : (buffer : List ℕ) → (read s buffer).buffer ≡ (taken m buffer).buffer
  read-buffer buffer = ap (λ (r : Read). r.buffer) (read_is buffer)

  pub read_holds : (buffer : List ℕ) → Fit (held (taken m buffer).queue) → Holds (read s buffer).state (taken m buffer).queue
  read_holds buffer fit =
      let k = read_keeps s h.sound h.rows buffer in
      record { sound = k.sound; rows = k.rows; seen = ap (λ (r : Read). view r.state) (read_is buffer) ∙ seen_as_laid _ s fit }
