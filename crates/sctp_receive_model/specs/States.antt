-- Reassembly and the message in hand, put together from the fields that C keeps and the arrays that it lends.
-- Assumes nothing.
use Rattle.std.specs.Prelude.{ℕ, Bool, List}
use Rattle.chunks.specs.Message.{Place}
use Rattle.chunks.specs.declared.Chunks.{Chunks}
use Rattle.reassembly_state.specs.Model.{Message}
use Rattle.reassembly_state.specs.State.{State}
use Rattle.reassembly_applicable.specs.Applicable.{Found}
use Rattle.reassembly_queue.specs.Queue.{state_of}
use Rattle.reassembly_queue.specs.declared.ReassemblyQueue.{ReassemblyQueue}

-- ── reassembly ──

abbrev pub fragment_counts : ℕ → ℕ → ℕ → ℕ → ℕ → ℕ → ℕ → ReassemblyQueue
fragment_counts si next max finished unordered ordered bytes =
    record { counts = record { si = si; next_ssn = next; max_message_size = max; finished = finished; unordered = unordered; ordered = ordered; n_bytes = bytes } }

-- its numbers, and the words and bytes lent beside them
abbrev pub state_from : ℕ → ℕ → ℕ → ℕ → ℕ → ℕ → ℕ → List ℕ → List ℕ → State
state_from si next max finished unordered ordered bytes ws pool = state_of (fragment_counts si next max finished unordered ordered bytes) ws pool

-- a message that was taken, if one was
abbrev pub message_from : Bool → ℕ → ℕ → ℕ → ℕ → Bool → Message
message_from found ssn ppi size position given =
    record { comes = found; ssn = ssn; ppi = ppi; size = size; position = position; given = given }

-- the SSN up to which a skip applies, if there is one
abbrev pub found_from : Bool → ℕ → Found
found_from found ssn = record { found = found; ssn = ssn }

-- ── the message in hand ──

-- its number of bytes, the place of the next piece, and whether an empty message's one piece was given; its SSN and its identifier play no part in its calls, and C keeps them to itself
abbrev pub hand_from : ℕ → ℕ → Bool → Chunks
hand_from size position given = record { ssn = 0; ppi = 0; size = size; position = position; given = given }

-- a piece, if one comes: its place in the buffer
abbrev pub piece_from : Bool → ℕ → ℕ → Place
piece_from found start size = record { comes = found; start = start; size = size }
