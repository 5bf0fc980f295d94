-- What taking a message from among other fragments tells.
-- Assumes nothing.
use Rattle.std.specs.Prelude.{ℕ, Result, Ok, Err}
use Rattle.wire_model.specs.Refusal.{Told}
use Rattle.refusal.specs.declared.Refusal.{Refusal}
use Rattle.refusal.specs.Told.{answer_told}
use Rattle.chunks.specs.declared.Chunks.{Chunks}
use Rattle.reassembly_state.specs.Model.{Message, no_message}
use Rattle.reassembly_state.specs.Answers.{message_held}

abbrev pub among_told : Result Chunks Refusal → Told Message
among_told = answer_told no_message message_held

-- of so many fragments all went, or, where it is refused, none
abbrev pub went : ℕ → Result Chunks Refusal → ℕ
went k (Ok m) = k
went k (Err e) = 0

-- and the message's bytes with them
abbrev pub went_bytes : Result Chunks Refusal → ℕ
went_bytes (Ok m) = m.size
went_bytes (Err e) = 0
