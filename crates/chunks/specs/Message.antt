-- The message in hand: a record with a position, beside the lent buffer that holds its bytes (document 01, 'Reassembly, one stream').
-- Assumes nothing.
use Rattle.std.specs.Prelude.{ℕ, ◌+◌, ◌-◌, min, Bool, true, false, not, ◌||◌, ◌&&◌, cond, List, ltb, eqb, length, take, Option, Some, None, Result}
use Rattle.wire_model.specs.BigEndian.{over}
use Rattle.wire_model.specs.Refusal.{none, refuse, Told, says, Written, written}
use Rattle.refusal.specs.declared.Refusal.{Refusal}
use Rattle.refusal.specs.Told.{answer_told}
use Rattle.chunks.specs.declared.Chunks.{Chunks}
use Rattle.chunks.specs.declared.Part.{Part}

-- ── what answers say ──

-- a piece, if one comes: its place in the buffer
pub record Place : Type 0 where
  pub comes : Bool
  pub start : ℕ
  pub size : ℕ

abbrev pub place : ℕ → ℕ → Place
place start size = record { comes = true; start = start; size = size }

abbrev pub no_place : Place
no_place = record { comes = false; start = 0; size = 0 }

-- of a piece that may not come
abbrev pub place_of : Option Part → Place
place_of (Some p) = place p.start p.size
place_of None = no_place

abbrev pub piece_told : Result (Option Part) Refusal → Told Place
piece_told = answer_told no_place place_of

-- ── the calls ──

-- refusal 0: "a place outside the lent .. buffer, .. a position past the message"
unfoldable pub unsound : Chunks → List ℕ → Bool
unsound m buffer = ltb (length buffer) m.size || ltb m.size m.position

unfoldable pub size : Chunks → List ℕ → Told ℕ
size m buffer = cond (unsound m buffer) (says (refuse 0) 0) (says none m.size)

unfoldable pub is_empty : Chunks → List ℕ → Told Bool
is_empty m buffer = cond (unsound m buffer) (says (refuse 0) false) (says none (eqb m.size 0))

-- the message's bytes
abbrev pub bytes : Chunks → List ℕ → List ℕ
bytes m buffer = take m.size buffer

-- "whole read, always from its first byte and moving nothing"; 7: "fitting prefix written, rest and message unchanged"
unfoldable pub whole_read : Chunks → List ℕ → List ℕ → Written
whole_read m buffer out =
    cond (unsound m buffer) (written (says (refuse 0) 0) out)
    (cond (ltb (length out) m.size) (written (says (refuse 7) 0) (over out (take (length out) (bytes m buffer))))
    (written (says none m.size) (over out (bytes m buffer))))

-- a piece reader's answer, and the message after it
pub record After : Type 0 where
  pub told : Told Place
  pub message : Chunks

abbrev pub after : Told Place → Chunks → After
after t m = record { told = t; message = m }

-- all has been given: the position is at the end, and an empty message's one piece was given
unfoldable pub finished : Chunks → Bool
finished m = eqb m.position m.size && (not (eqb m.size 0) || m.given)

-- the position moved on by n; an empty message's piece is noted as given
unfoldable pub moved : Chunks → ℕ → Chunks
moved m n = record { ssn = m.ssn; ppi = m.ppi; size = m.size; position = m.position + n; given = m.given || eqb m.size 0 }

-- "pieces of at most m bytes, places in its buffer"
unfoldable pub next_piece : Chunks → List ℕ → ℕ → After
next_piece m buffer most =
    cond (unsound m buffer) (after (says (refuse 0) no_place) m)
    (cond (finished m) (after (says none no_place) m)
    (after (says none (place m.position (min most (m.size - m.position)))) (moved m (min most (m.size - m.position)))))
