-- Which way a push to a stream goes: refused, another stream's, by the mark U or without it.
-- Assumes nothing.
use mathlib.Core.Path.{◌≡◌, sym, ap, ◌∙◌}
use mathlib.Core.Bool.{Bool, true, false}
use mathlib.Core.List.{List}
use Prim.Native.Nat.{ℕ, ◌<◌, ◌≤◌}
use borrow.Author.Tests.{eq-eqb, ne_eqb, le-leb, lt-leb}
use lib.Dec.{eqb}
use lib.ListN.{length}
use Rattle.wire_model.specs.Refusal.{none, refuse, says}
use Rattle.data_fields.specs.declared.ChunkPayloadData.{ChunkPayloadData}
use Rattle.reassembly_state.specs.Limits.{frags_most}
use Rattle.reassembly_state.specs.Model.{push, push_unordered, push_ordered}
use Rattle.reassembly_state.specs.State.{counts, fragment_of}
use Rattle.reassembly_state.specs.declared.Counts.{Counts}
use Rattle.reassembly_state.proofs.Chunk.{chunk_bytes}
use Rattle.streams_model.specs.Limits.{streams_most}
use Rattle.streams_model.specs.Room.{room_among}
use Rattle.streams_model.specs.State.{State, unsound, view, own, after, laid, pushed}
use Rattle.streams_model.specs.Among.{mine}
use Rattle.streams_model.proofs.Laws.{Sound}
use Rattle.streams_model.proofs.Among.{own-counts}
use Rattle.streams_model.proofs.Front.{own-again}
use Rattle.streams_model.proofs.Rooms.{room_by, room_by_lem}

module _ (s : State) (k : Sound s) (full : length s.rows ≡ frags_most) (j : ℕ) (h : j < length s.queues) (p : ChunkPayloadData) (bytes : List ℕ) where
  own_si : (own s j).si ≡ (mine s j).si
  unfolding counts
  own_si = ap (λ (c : Counts). c.si) (own-counts s k full j h)

  module _ (room : Bool) where
    pub other_stream : (p.stream_identifier ≡ (mine s j).si → ⊥) → after (says none false) s ≡ laid s j (push room (own s j) p.stream_identifier p.unordered (fragment_of p bytes))
    unfolding push
    other_stream d =
        let t : eqb p.stream_identifier (own s j).si ≡ false = ap (eqb p.stream_identifier) own_si ∙ ne_eqb _ _ d in
        rw t (ap (after (says none false)) (sym (own-again s k full j h)))

    module _ (e : p.stream_identifier ≡ (mine s j).si) where
      same : eqb p.stream_identifier (own s j).si ≡ true
      same = ap (eqb p.stream_identifier) own_si ∙ eq-eqb _ _ e

      pub by_mark : p.unordered ≡ true → laid s j (push_unordered room (own s j) (fragment_of p bytes)) ≡ laid s j (push room (own s j) p.stream_identifier p.unordered (fragment_of p bytes))
      unfolding push
      by_mark u = rw (same, u)

      pub without-mark : p.unordered ≡ false → laid s j (push_ordered room (own s j) (fragment_of p bytes)) ≡ laid s j (push room (own s j) p.stream_identifier p.unordered (fragment_of p bytes))
      unfolding push
      without-mark u = rw (same, u)

  -- room, by the counts
  pub room-is : {room : Bool} → room ≡ room_by s.queues j (length bytes) → room ≡ room_among (view s) j (fragment_of p bytes)
  room-is e = e ∙ ap (λ (n : ℕ). room_by s.queues j n) (sym (ap length (chunk_bytes p bytes))) ∙ room_by_lem s k full j (fragment_of p bytes)

module _ (s : State) (j : ℕ) (p : ChunkPayloadData) (bytes : List ℕ) where
  pub push-unsound : unsound s ≡ true → after (says (refuse 0) false) s ≡ pushed s j p bytes
  unfolding pushed
  push-unsound e = rw e

  module _ (e : unsound s ≡ false) where
    pub push_no_stream : streams_most ≤ j → after (says (refuse 19) false) s ≡ pushed s j p bytes
    unfolding pushed
    push_no_stream h = rw (e, le-leb streams_most j h)

    pub push_to : j < streams_most → laid s j (push (room_among (view s) j (fragment_of p bytes)) (own s j) p.stream_identifier p.unordered (fragment_of p bytes)) ≡ pushed s j p bytes
    unfolding pushed
    push_to h = rw (e, lt-leb streams_most j h)
