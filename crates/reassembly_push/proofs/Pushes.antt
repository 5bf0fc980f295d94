-- Which way a push goes: another stream, the mark U, or neither.
-- Assumes nothing.
use mathlib.Core.Path.{◌≡◌, refl, sym, ap, ◌∙◌}
use mathlib.Core.Bool.{Bool, true, false, ◌&&◌, true≢false}
use mathlib.Core.List.{List}
use Prim.Native.Nat.{ℕ, ◌+◌, ◌≤◌}
use native.Mathlib.Omega.{arith}
use borrow.Author.Tests.{leb-true, eq-eqb, ne_eqb}
use lib.Dec.{leb, eqb}
use lib.ListN.{length}
use Rattle.wire_model.specs.Refusal.{none, says}
use Rattle.data_fields.specs.declared.ChunkPayloadData.{ChunkPayloadData}
use Rattle.reassembly_state.specs.Limits.{frags_most, bytes_most}
use Rattle.reassembly_state.specs.Model.{room_for, push_ordered, push_unordered, push}
use Rattle.reassembly_state.specs.State.{State, count, unsound, view, after, laid, fragment_of, pushed}
use Rattle.reassembly_state.specs.Rows.{fits_if}
use Rattle.reassembly_state.specs.declared.Counts.{Counts}
use Rattle.reassembly_state.proofs.Chunk.{chunk_bytes}
use Rattle.reassembly_state.proofs.Laws.{sound, lay-own, room-is, view_si}

-- two bounds in one question
both_hold : (a b c d : ℕ) → (leb a b && leb c d) ≡ true → (a ≤ b) × (c ≤ d)
both_hold a b c d e = go (leb a b) refl e
  where
    go : (t : Bool) → leb a b ≡ t → t && leb c d ≡ true → (a ≤ b) × (c ≤ d)
    go true l r = (leb-true a b l, leb-true c d r)
    go false l r = absurd (true≢false (sym r))

-- room for one more fragment, of so many bytes
abbrev roomy : Counts → ℕ → Bool
roomy q more = leb (count q + 1) frags_most && leb (q.n_bytes + more) bytes_most

pub room_fits : (q : Counts) (more : ℕ) {room : Bool} → room ≡ roomy q more → fits_if room q more
room_fits q more is h = let b = both_hold (count q + 1) frags_most (q.n_bytes + more) bytes_most (sym is ∙ h) in (omega (arith, b.0), b.1)

module _ (s : State) (e : unsound s ≡ false) (p : ChunkPayloadData) (bytes : List ℕ) where
  pub push_other : length s.rows ≡ frags_most → (p.stream_identifier ≡ s.queue.si → ⊥) → after (says none false) s ≡ pushed s p bytes
  unfolding pushed push
  push_other full h =
      let t : eqb p.stream_identifier (view s).si ≡ false = ap (eqb p.stream_identifier) (view_si s) ∙ ne_eqb _ _ h in
      rw (e, t) (ap (after (says none false)) (sym (lay-own s (sound s e) full)))

  module _ (own : p.stream_identifier ≡ s.queue.si) where
    same : eqb p.stream_identifier (view s).si ≡ true
    same = ap (eqb p.stream_identifier) (view_si s) ∙ eq-eqb _ _ own

    module _ (full : length s.rows ≡ frags_most) {room : Bool} (room_of : room ≡ roomy s.queue (length bytes)) where
      room_for_lem : room_for (view s) (fragment_of p bytes) ≡ room
      room_for_lem = room-is s (sound s e) full (fragment_of p bytes) ∙ ap (λ (l : List ℕ). roomy s.queue (length l)) (chunk_bytes p bytes) ∙ sym room_of

      pub push-unordered : p.unordered ≡ true → laid s (push_unordered room (view s) (fragment_of p bytes)) ≡ pushed s p bytes
      unfolding pushed push
      push-unordered u = rw (e, same, room_for_lem, u)

      pub push-ordered : p.unordered ≡ false → laid s (push_ordered room (view s) (fragment_of p bytes)) ≡ pushed s p bytes
      unfolding pushed push
      push-ordered u = rw (e, same, room_for_lem, u)
